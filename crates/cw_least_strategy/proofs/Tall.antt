-- A key is no higher than its index and one: of what it names something is one move lower. So a strategy has at least as many rows as its start is high.
use Rattle.std.proofs.Common.{◌≡◌, ℕ, zero, suc, ◌+◌, ◌-◌, ◌<◌, ◌≤◌, List, [], ◌∷◌, Bool, true, false, cond, Option, Some, None, map, length, nat_lt, refl, sym, ap, ◌∙◌, subst, arith}
use Rattle.std.specs.Prelude.{slice_get}
use Rattle.std.specs.List.{Contains, range_with_len}
use Rattle.std.specs.List.Sorted.{IsStrictlySortedBy}
use Rattle.std.proofs.lemmas.Bool.{and_from as both, lt-ltb, ltb-true, ltb-false, not-false, or_from as fails_both}
use Rattle.std.proofs.lemmas.List.FromFn.{length-range_with_len, get_or-range_with_len}
use Rattle.std.proofs.lemmas.Option.{none-some, slice_get_within}
use Rattle.cw_fixpoint.proofs.Numbers.{at_number}
use Rattle.cw_game.specs.declared.spots.Spot.{Spot}
use Rattle.cw_game.specs.declared.spots.Spot.TheVariants.{Visit, Asked, Step, Branch, Label, Open, Close, Call, SplitCall, Exit}
use Rattle.cw_game.specs.Games.{Game, Promise, Holds, holds_in, bad_in, weavers_in, returned}
use Rattle.cw_game.specs.Pairs.{has, Called, call_in, is_call_in, is_exit_in, kept_at}
use Rattle.cw_game.proofs.Holding.{lost_rises, bad_fails}
use Rattle.cw_lemmas.proofs.Lists.{contains_map, get_contains, head_in, tail_in, to_kept}
use Rattle.cw_product.specs.Routed.{IsState, AreRouted}
use Rattle.cw_solve.specs.Contexts.{promise_at}
use Rattle.cw_solve.proofs.Falls.{later}
use Rattle.cw_solve.proofs.Moves.{by_moves}
use Rattle.cw_solve.proofs.Still.{holds_call}
use Rattle.cw_least_strategy.specs.declared.key.Key.{Key}
use Rattle.cw_least_strategy.specs.declared.key.Way.{Way}
use Rattle.cw_least_strategy.specs.Heights.{others}
use Rattle.cw_least_strategy.specs.Kept.{IsKey}
use Rattle.cw_least_strategy.specs.Strategies.{key_cmp, below, moves, best, after_return, is_lost_after, aim_at, back_at, backs_at, Act, Into, goes, inner, act_in, keys_in, named, number}
use Rattle.cw_least_strategy.proofs.Keys.{key_total, key_exact, before}
use Rattle.cw_least_strategy.proofs.Moving.{moved}
use Rattle.cw_least_strategy.proofs.Naming.{aim_promises, best_taken, fails, lost_after_is, named_lower, taken_at}
use Rattle.cw_least_strategy.proofs.Ways.{led_lost, no_call, way_by}

-- where all that a key names is of a height of at most m the key's pair doesn't hold for m + 1 moves
module _ (g : Game) (functions : ℕ) (routed : AreRouted g functions) (k : Key) (is : IsKey g functions k) (m : ℕ) (low : (b : Key) → Contains (named g k) b → b.height ≤ m) where
  abbrev n : ℕ
  n = k.height - 1

  abbrev e : ℕ
  e = others g k.aim

  abbrev spot : Option Spot
  spot = slice_get g.spots k.pos

  abbrev IsLost : Type 0
  IsLost = holds_in g (Holds g m) k.pos k.state (has e) spot ≡ false

  abbrev Names : Act → Type 0
  Names a = (b : Key) → Contains (keys_in a) b → Contains (named g k) b

  lost : (b : Key) → Contains (named g k) b → Holds g m b.pos b.state (has (others g b.aim)) ≡ false
  lost b c =
      let i = (named_lower g functions routed k is b c).0 in
      later g functions routed b.height m b.pos b.state (has (others g b.aim)) (low b c) i.state i.height.lost

  -- at a call
  module _ (c : Called) (es : call_in spot ≡ Some c) where
    abbrev callee : Key
    callee = below g k (g.entry c.function) k.state (aim_at g k c)

    abbrev backs : List (ℕ × Key)
    backs = backs_at g k c

    after_call : Promise
    after_call x = Holds g m c.back (returned g.states (kept_at c.split k.state) x) (has e)

    is_back : (x : ℕ) → IsState g x → is_lost_after g k c x ≡ true → Contains (keys_in (Into callee backs)) (after_return g k c x)
    is_back x s t =
        let b : ℕ × Key = (x, after_return g k c x) in
        let l = length-range_with_len 0 g.states.count in
        let there : Contains (range_with_len 0 g.states.count) x = (x, omega (arith, s, l), get_or-range_with_len 0 g.states.count x x s ∙ omega arith) in
        let in_backs = to_kept (back_at g k c) (range_with_len 0 g.states.count) x b there (ap (λ (t : Bool). cond t (Some b) None) t) in
        tail_in callee (map (λ (b : ℕ × Key). b.1) backs) (after_return g k c x) (contains_map (λ (b : ℕ × Key). b.1) backs b in_backs)

    fewer : Names (Into callee backs) → (x : ℕ) → IsState g x → after_call x ≡ true → has (others g (aim_at g k c)) x ≡ true
    unfolding after_call
    fewer names x s t = by (is_lost_after g k c x) refl
      where
        by : (l : Bool) → is_lost_after g k c x ≡ l → has (others g (aim_at g k c)) x ≡ true
        by true l = let w : true ≡ false = sym t ∙ lost (after_return g k c x) (names (after_return g k c x) (is_back x s l)) in cc
        by false l =
            let kept = promise_at g n c.back (kept_at c.split k.state) e x in
            aim_promises g functions routed k is c es x
            ∙ both (nat_lt x g.states.count) kept (lt-ltb x g.states.count s) (not-false kept (sym (lost_after_is g functions routed k is c es x s) ∙ l))

    into_lost : Names (Into callee backs) → IsLost
    unfolding after_call
    into_lost names =
        holds_call g functions routed (Holds g m) k.pos k.state (has e) c es
        ∙ lost_rises g (IsState g) routed.closed m m (g.entry c.function) k.state after_call (has (others g (aim_at g k c))) (omega arith) is.state (fewer names)
        (lost callee (names callee (head_in callee (map (λ (b : ℕ × Key). b.1) backs))))

  -- where the environment moves
  goes_lost : (o : Option Way) → best g k moves ≡ o → weavers_in spot ≡ false → is_call_in spot ≡ false → is_exit_in spot ≡ false → Names (goes o) → IsLost
  goes_lost None none w c x names = by (bad_in g k.state spot) refl
    where
      by : (b : Bool) → bad_in g k.state spot ≡ b → IsLost
      by true t = bad_fails g (Holds g m) k.pos k.state (has e) spot t
      by false f =
          let v = way_by g functions routed k is spot refl w (by_moves g (Holds g n) k.pos k.state (has e) spot f c x ∙ fails g functions routed k is) in
          absurd (none-some v.0 (sym none ∙ v.1))
  goes_lost (Some v) some w c x names =
      let t = taken_at g functions routed k is v (best_taken g functions routed k is moves v some) in
      let r = t.1.0 in
      let good = (moved g routed.closed k.pos k.state v.by r is.state t.1.1).0 in
      let there : Holds g m r.0 r.1 (has e) ≡ false =
      subst (λ (b : Key). Holds g m b.pos b.state (has (others g b.aim)) ≡ false) t.1.2 (lost v.to (names v.to (head_in v.to []))) in
      sym (by_moves g (Holds g m) k.pos k.state (has e) spot good c x) ∙ led_lost g (Holds g m) k.pos k.state (has e) spot v.by r w t.1.1 there

  visit_lost : (j i : ℕ) (a : _) → spot ≡ Some (Visit j i a) → Names (inner g k (Some (Visit j i a))) → IsLost
  visit_lost j i a es names =
      let skip = below g k (k.pos + 2) k.state k.aim in
      let tried = below g k (k.pos + 1) k.state k.aim in
      ap (holds_in g (Holds g m) k.pos k.state (has e)) es
      ∙ fails_both (Holds g m (k.pos + 2) k.state (has e)) (Holds g m (k.pos + 1) k.state (has e))
      (lost skip (names skip (head_in skip (tried ∷ [])))) (lost tried (names tried (tail_in skip (tried ∷ []) tried (head_in tried []))))

  exit_lost : (f : ℕ) → spot ≡ Some (Exit f) → IsLost
  exit_lost f es = ap (holds_in g (Holds g m) k.pos k.state (has e)) es ∙ sym (ap (holds_in g (Holds g n) k.pos k.state (has e)) es) ∙ fails g functions routed k is

  inner_lost : (o : Option Spot) → spot ≡ o → is_call_in spot ≡ false → Names (inner g k o) → IsLost
  inner_lost (Some (Visit j i a)) es c names = visit_lost j i a es names
  inner_lost (Some (Exit f)) es c names = exit_lost f es
  inner_lost None es c names = goes_lost (best g k moves) refl (ap weavers_in es) c (ap is_exit_in es) names
  inner_lost (Some (Asked j i a)) es c names = goes_lost (best g k moves) refl (ap weavers_in es) c (ap is_exit_in es) names
  inner_lost (Some (Step l)) es c names = goes_lost (best g k moves) refl (ap weavers_in es) c (ap is_exit_in es) names
  inner_lost (Some (Branch l r)) es c names = goes_lost (best g k moves) refl (ap weavers_in es) c (ap is_exit_in es) names
  inner_lost (Some (Label j l r)) es c names = goes_lost (best g k moves) refl (ap weavers_in es) c (ap is_exit_in es) names
  inner_lost (Some (Open j d r)) es c names = goes_lost (best g k moves) refl (ap weavers_in es) c (ap is_exit_in es) names
  inner_lost (Some (Close j d r)) es c names = goes_lost (best g k moves) refl (ap weavers_in es) c (ap is_exit_in es) names
  inner_lost (Some (Call j f r)) es c names = goes_lost (best g k moves) refl (ap weavers_in es) c (ap is_exit_in es) names
  inner_lost (Some (SplitCall j f r)) es c names = goes_lost (best g k moves) refl (ap weavers_in es) c (ap is_exit_in es) names

  all_lost : Holds g (suc m) k.pos k.state (has e) ≡ false
  all_lost = by (call_in spot) refl (λ b c. c)
    where
      by : (o : Option Called) → call_in spot ≡ o → ((b : Key) → Contains (keys_in (act_in g k spot o)) b → Contains (keys_in (act_in g k spot (call_in spot))) b) → IsLost
      by None es names = inner_lost spot refl (no_call spot es) names
      by (Some c) es names = into_lost c es names

  pub not_higher : k.height ≤ suc m
  not_higher = by (nat_lt (suc m) k.height) refl
    where
      by : (t : Bool) → nat_lt (suc m) k.height ≡ t → k.height ≤ suc m
      by true t = let w : true ≡ false = sym (is.height.least (suc m) (ltb-true (suc m) k.height t)) ∙ all_lost in cc
      by false f = ltb-false (suc m) k.height f

-- keys in order, with all that they name
module _ (g : Game) (functions : ℕ) (routed : AreRouted g functions) (keys : List Key) (order : IsStrictlySortedBy key_cmp keys) (are : (k : Key) → Contains keys k → IsKey g functions k)
    (closed : (k b : Key) → Contains keys k → Contains (named g k) b → Contains keys b) where
  low_at : (d i : ℕ) → i < d → (k : Key) → slice_get keys i ≡ Some k → k.height ≤ suc i
  low_at zero i lt k at = absurd (omega (arith, lt))
  low_at (suc d) i lt k at =
      let has_k = get_contains keys i k at in
      not_higher g functions routed k (are k has_k) i (λ b c.
      let there = closed k b has_k c in
      let sooner = before keys order i b k there at (named_lower g functions routed k (are k has_k) b c).1 in
      let h = low_at d (number keys b) (omega (arith, sooner, lt)) b (at_number key_cmp key_total key_exact keys b there) in
      omega (arith, sooner, h))

  pub as_many : (k : Key) → Contains keys k → k.height ≤ length keys
  as_many k c =
      let at = at_number key_cmp key_total key_exact keys k c in
      let within = slice_get_within keys (number keys k) k at in
      let h = low_at (suc (number keys k)) (number keys k) (omega arith) k at in
      omega (arith, within, h)
