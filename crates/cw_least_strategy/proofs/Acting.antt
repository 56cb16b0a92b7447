-- What is done at a key, by whose turn it is.
use Rattle.std.proofs.Common.{◌≡◌, ℕ, ◌+◌, ◌<◌, ◌≤◌, List, [], ◌∷◌, ◌++◌, true, false, cond, Option, Some, None, map, filter_map, length, nat_lt, refl, sym, ap, ap₂, ◌∙◌, arith}
use Rattle.std.specs.Prelude.{slice_get}
use Rattle.std.specs.List.{range_with_len, cons_option}
use Rattle.std.proofs.lemmas.Bool.{lt-ltb, le-ltb}
use Rattle.cw_core.specs.declared.ids.StateId.{StateId}
use Rattle.cw_game.specs.Games.{Game}
use Rattle.cw_game.specs.Pairs.{Called, call_in}
use Rattle.cw_solve.specs.Contexts.{context}
use Rattle.cw_product.specs.Routed.{AreRouted}
use Rattle.cw_solve.proofs.Tabling.{there}
use Rattle.cw_least_strategy.specs.declared.key.Key.{Key}
use Rattle.cw_least_strategy.specs.Acts.{IsThere}
use Rattle.cw_least_strategy.specs.Heights.{others}
use Rattle.cw_least_strategy.specs.Kept.{IsKey}
use Rattle.cw_least_strategy.specs.Strategies.{below, after_return, is_lost_after, aim_at, back_at, backs_at, Into, act_in, act}
use Rattle.cw_least_strategy.proofs.Naming.{callee_lower}
use Rattle.cw_least_strategy.proofs.Looking.{kept_more}

module _ (g : Game) (k : Key) where
  pub into_act : (c : Called) (callee : Key) (backs : List (ℕ × Key)) → call_in (slice_get g.spots k.pos) ≡ Some c → callee ≡ below g k (g.entry c.function) k.state (aim_at g k c)
      → backs ≡ backs_at g k c
      → Into callee backs ≡ act g k
  into_act c callee backs es a b = ap₂ Into a b ∙ sym (ap (act_in g k (slice_get g.spots k.pos)) es)

  pub back_some : (c : Called) (x : ℕ) (to : Key) → to ≡ after_return g k c x → 0 < to.height → back_at g k c x ≡ Some (x, to)
  back_some c x to e l =
      let t : is_lost_after g k c x ≡ true = ap (λ (b : Key). nat_lt 0 b.height) (sym e) ∙ lt-ltb 0 to.height l in
      ap (λ b. cond b (Some (x, after_return g k c x)) None) t ∙ ap (λ (b : Key). Some (x, b)) (sym e)

  pub back_none : (c : Called) (x : ℕ) (to : Key) → to ≡ after_return g k c x → to.height ≤ 0 → back_at g k c x ≡ None
  back_none c x to e l =
      let t : is_lost_after g k c x ≡ false = ap (λ (b : Key). nat_lt 0 b.height) (sym e) ∙ le-ltb 0 to.height l in
      ap (λ b. cond b (Some (x, after_return g k c x)) None) t

  module _ (functions : ℕ) (routed : AreRouted g functions) (is : IsKey g functions k) where
    pub pos_within : k.pos < length g.spots
    pos_within = let th = there g functions routed (context is.function (others g k.aim)) is.needed in omega (arith, is.of.1, th.ends)

    pub callee_in : (c : Called) → call_in (slice_get g.spots k.pos) ≡ Some c → IsThere g (g.entry c.function) (aim_at g k c)
    callee_in c es = let b = (callee_lower g functions routed k is c es).0 in (b.function, b.of, b.needed)

abbrev pub plain : StateId × Key → ℕ × Key
plain b = (b.0.0, b.1)

plain_more : (old : List (StateId × Key)) (b : StateId × Key) → map plain (old ++ b ∷ []) ≡ map plain old ++ (b.0.0, b.1) ∷ []
plain_more [] b = refl
plain_more (x ∷ old) b = ap (λ (l : List (ℕ × Key)). (x.0.0, x.1) ∷ l) (plain_more old b)

-- one exit state more
pub backs_more : (f : ℕ → Option (ℕ × Key)) (x : ℕ) (old new : List (StateId × Key)) (b : StateId × Key) → map plain old ≡ filter_map f (range_with_len 0 x) → new ≡ old ++ b ∷ []
    → f x ≡ Some (b.0.0, b.1) → map plain new ≡ filter_map f (range_with_len 0 (x + 1))
backs_more f x old new b h e s =
    ap (map plain) e ∙ plain_more old b ∙ ap (λ (l : List (ℕ × Key)). l ++ (b.0.0, b.1) ∷ []) h
    ∙ sym (kept_more f x ∙ ap (λ o. filter_map f (range_with_len 0 x) ++ cons_option o []) s)

pub backs_same : (f : ℕ → Option (ℕ × Key)) (x : ℕ) (old : List (ℕ × Key)) → old ≡ filter_map f (range_with_len 0 x) → f x ≡ None → old ≡ filter_map f (range_with_len 0 (x + 1))
backs_same f x old h s = h ∙ sym (kept_more f x ∙ ap (λ o. filter_map f (range_with_len 0 x) ++ cons_option o []) s ∙ nothing (filter_map f (range_with_len 0 x)))
  where
    nothing : (l : List (ℕ × Key)) → l ++ [] ≡ l
    nothing [] = refl
    nothing (y ∷ ys) = ap (λ (l : List (ℕ × Key)). y ∷ l) (nothing ys)
