-- The choices are right wherever something is live.
use Rattle.std.proofs.Common.{◌≡◌, ◌⊎◌, inl, inr, ℕ, ◌+◌, ◌<◌, ◌≤◌, Bool, true, false, not, Option, Some, None, nat_lt, sym, ap, ◌∙◌, subst, arith}
use Rattle.std.specs.Prelude.{slice_get, Contains}
use Rattle.std.proofs.lemmas.Bool.{lt-ltb, ltb-true}
use Rattle.cw_rights.specs.declared.capabilities.Primitive.{Primitive}
use Rattle.cw_game.specs.declared.spots.Spot.TheVariants.{Visit}
use Rattle.cw_game.specs.Games.{Game, resumed, returned, IsLost}
use Rattle.cw_game.specs.Pairs.{has, Called, call_in, kept_at}
use Rattle.cw_product.specs.Routed.{IsState, targets, IsOf}
use Rattle.cw_solve.specs.Contexts.{context, HeightIs, IsNeeded}
use Rattle.cw_solve.specs.Low.{IsLow, HeightsAreLow}
use Rattle.cw_solve.proofs.Falls.{later, return_state, back_stays}
use Rattle.cw_solve.proofs.Sets.{has_set}
use Rattle.cw_solve.proofs.Still.{first_of_two}
use Rattle.cw_lazy_table.specs.Choices.{most, lost_in, is_kept_back, promised, promised_in, set_in}
use Rattle.cw_lazy_table.specs.Closing.{AreRight}
use Rattle.cw_lazy_table.specs.Laws.{CanBegin}
use Rattle.cw_lazy_table.specs.Live.{IsFull, IsLive}
use Rattle.cw_lazy_table.proofs.Going.{resumes}
use Rattle.cw_lazy_table.proofs.Keeping.{IsSafe, safe}
use Rattle.cw_lemmas.proofs.Truths.{and_first as first_and, and_second as second_and, and_second_false}
use Rattle.std.proofs.lemmas.Bool.{not-false as not_false, not-true as not_true}

low_most : (n : ℕ) → n < 4294967296 → n ≤ most
unfolding most
low_most n l = omega (arith, l)

module _ (g : Game) (functions : ℕ) (can : CanBegin g functions) where
  pub safe_at : (p q e : ℕ) → IsLive g p q e → IsSafe g functions p q e
  safe_at p q e live = safe g functions can.routed can.staged can.first can.kept p q e live

  abbrev IsDecided : (p q e : ℕ) → Type 0
  IsDecided p q e = ((lost_in g p q e ≡ true) × IsLost g p q (has e)) ⊎ ((lost_in g p q e ≡ false) × (IsLost g p q (has e) → ⊥))

  decides : (p q e : ℕ) (h : Option ℕ) → q < g.states.count → HeightIs g p q e h → IsLow h → IsDecided p q e
  decides p q e None s h l = inr (ap not (h most), λ k. let w : true ≡ false = sym (h k.0) ∙ k.1 in cc)
  decides p q e (Some n) s h l = inl (ap not (later g functions can.routed n most p q (has e) (low_most n l) s h.lost), (n, h.lost))

  -- what a height says
  pub none_is : (p q e : ℕ) → HeightIs g p q e None → false ≡ lost_in g p q e
  none_is p q e h = sym (ap not (h most))

  pub some_is : (p q e n : ℕ) → q < g.states.count → n < 4294967296 → HeightIs g p q e (Some n) → true ≡ lost_in g p q e
  some_is p q e n s l h = sym (ap not (later g functions can.routed n most p q (has e) (low_most n l) s h.lost))

  module _ (low : HeightsAreLow g) where
    decided : (f p q e : ℕ) → IsNeeded g (context f e) → IsOf g f p → q < g.states.count → IsDecided p q e
    decided f p q e needed of s = let k = low f p q e needed of s in decides p q e k.0 s k.1 k.2

    pub lost_is : (f p q e : ℕ) → IsNeeded g (context f e) → IsOf g f p → q < g.states.count → lost_in g p q e ≡ true → IsLost g p q (has e)
    lost_is f p q e needed of s t = by (decided f p q e needed of s)
      where
        by : IsDecided p q e → IsLost g p q (has e)
        by (inl x) = x.1
        by (inr x) = let w : true ≡ false = sym t ∙ x.0 in cc

    pub kept_is : (f p q e : ℕ) → IsNeeded g (context f e) → IsOf g f p → q < g.states.count → lost_in g p q e ≡ false → IsLost g p q (has e) → ⊥
    kept_is f p q e needed of s t = by (decided f p q e needed of s)
      where
        by : IsDecided p q e → IsLost g p q (has e) → ⊥
        by (inl x) = let w : true ≡ false = sym x.0 ∙ t in cc
        by (inr x) = x.1

    skip_of : (f p j i : ℕ) (a : Primitive) → f < functions → IsOf g f p → slice_get g.spots p ≡ Some (Visit j i a) → IsOf g f (p + 2)
    skip_of f p j i a below of es = can.routed.stays f p (p + 2) below of (subst (λ o. Contains (targets p o) (p + 2)) (sym es) (first_of_two (p + 2) (p + 1)))

    abbrev Kept : (q e : ℕ) → Called → ℕ → Bool
    Kept q e call = is_kept_back g q e call

    promised_full : (p q e : ℕ) (call : Called) → IsSafe g functions p q e → call_in (slice_get g.spots p) ≡ Some call → IsFull g call q e (promised g q e call)
    promised_full p q e call h es = record {
      states = λ x t. ltb-true x g.states.count (inside x t);
      kept = λ x t.
          let s = ltb-true x g.states.count (inside x t) in
          kept_is h.function call.back (returned g.states (kept_at call.split q) x) e h.needed of (state x s) (not_true (lost_in g call.back (returned g.states (kept_at call.split q) x) e)
          (second_and (nat_lt x g.states.count) (Kept q e call x) (sym (has_set (Kept q e call) g.states.count x) ∙ t)));
      left_out = λ x s t.
          lost_is h.function call.back (returned g.states (kept_at call.split q) x) e h.needed of (state x s) (not_false (lost_in g call.back (returned g.states (kept_at call.split q) x) e)
          (and_second_false (nat_lt x g.states.count) (Kept q e call x) (sym (has_set (Kept q e call) g.states.count x) ∙ t) (lt-ltb x g.states.count s)));
    }
      where
        inside : (x : ℕ) → has (promised g q e call) x ≡ true → nat_lt x g.states.count ≡ true
        inside x t = first_and (nat_lt x g.states.count) (Kept q e call x) (sym (has_set (Kept q e call) g.states.count x) ∙ t)

        of : IsOf g h.function call.back
        of = back_stays g functions can.routed h.function p call h.below h.of es

        state : (x : ℕ) → x < g.states.count → returned g.states (kept_at call.split q) x < g.states.count
        state x s = return_state g functions can.routed p x q call es s h.state

    pub set_full : (p q e : ℕ) (call : Called) → IsLive g p q e → call_in (slice_get g.spots p) ≡ Some call → IsFull g call q e (set_in g p q e)
    set_full p q e call live es = subst (IsFull g call q e) (sym (ap (promised_in g q e) es)) (promised_full p q e call (safe_at p q e live) es)

    pub right : AreRight g (lost_in g) (set_in g)
    right = record {
      skip_lost = λ p q e j i a live es t. let h = safe_at p q e live in lost_is h.function (p + 2) q e h.needed (skip_of h.function p j i a h.below h.of es) h.state t;
      skip_kept = λ p q e j i a live es t. let h = safe_at p q e live in kept_is h.function (p + 2) q e h.needed (skip_of h.function p j i a h.below h.of es) h.state t;
      on_lost = λ p q e pair live is t. let h = safe_at p q e live in let z = on_of p q e pair h is in lost_is h.function pair.0 pair.1 e h.needed z.0 z.1 t;
      on_kept = λ p q e pair live is t. let h = safe_at p q e live in let z = on_of p q e pair h is in kept_is h.function pair.0 pair.1 e h.needed z.0 z.1 t;
      full = set_full;
    }
      where
        on_of : (p q e : ℕ) (pair : ℕ × ℕ) (h : IsSafe g functions p q e) → resumed g p q ≡ Some pair → IsOf g h.function pair.0 × (pair.1 < g.states.count)
        on_of p q e pair h is =
            let z = resumes g can.routed.closed p q (slice_get g.spots p) pair is in
            (can.routed.stays h.function p pair.0 h.below h.of z.0, subst (IsState g) (sym z.1) h.state)
