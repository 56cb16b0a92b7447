-- The first row at the start with an empty aim.
use Rattle.std.proofs.Common.{◌≡◌, ℕ, ◌+◌, ◌<◌, ◌≤◌, ◌⊎◌, inl, inr, ⊎_elim, List, length, Bool, true, false, ◌&&◌, Some, nat_eq, eqb-true, eq-eqb}
use Rattle.std.proofs.Common.{refl, sym, ap, ap₂, ◌∙◌, arith}
use Rattle.std.specs.Prelude.{slice_get}
use Rattle.std.proofs.lemmas.Bool.{cases_lt}
use Rattle.std.proofs.lemmas.Option.{same_Some, slice_get_within}
use Rattle.cw_certs.specs.Strategies.{How, Row, Strategy}
use Rattle.cw_game.specs.Games.{Game}
use Rattle.cw_game.specs.Conditions.{is_start, IsGoodStrategy}
use Rattle.cw_lemmas.proofs.Truths.{not_both}
use Rattle.cw_echeck.specs.Beating.{IsStartRow}
use Rattle.cw_echeck.proofs.Starts.{good_start}
use Rattle.std.proofs.lemmas.Bool.{and_parts as both_true}

below_or_at : (j i : ℕ) → j < i + 1 → (j < i) ⊎ (j ≡ i)
below_or_at j i lt = ⊎_elim (λ l. inl l) (λ (g : i ≤ j). inr (omega (arith, lt, g))) (cases_lt j i)

module _ (g : Game) where
  abbrev Start : How → Row
  Start how = record { pos = g.entry g.main; state = g.states.start; aim = 0; how = how }

  is_at_start : (r : Row) → is_start g r ≡ true → r ≡ Start r.how
  is_at_start r h =
      let a = both_true (nat_eq r.pos (g.entry g.main)) (nat_eq r.state g.states.start && nat_eq r.aim 0) h in
      let b = both_true (nat_eq r.state g.states.start) (nat_eq r.aim 0) a.1 in
      ap (λ (p : ℕ). record { pos = p; state = r.state; aim = r.aim; how = r.how }) (eqb-true r.pos (g.entry g.main) a.0)
      ∙ ap (λ (q : ℕ). record { pos = g.entry g.main; state = q; aim = r.aim; how = r.how }) (eqb-true r.state g.states.start b.0)
      ∙ ap (λ (aim : ℕ). record { pos = g.entry g.main; state = g.states.start; aim = aim; how = r.how }) (eqb-true r.aim 0 b.1)

  start_is : (how : How) → is_start g (Start how) ≡ true
  start_is how =
      ap₂ (λ (a b : Bool). a && (b && nat_eq 0 0)) (eq-eqb (g.entry g.main) (g.entry g.main) refl) (eq-eqb g.states.start g.states.start refl)

  -- no row below i is a start row
  abbrev pub NoneBelow : List Row → ℕ → Type 0
  NoneBelow rows i = (j : ℕ) (r : Row) → j < i → slice_get rows j ≡ Some r → is_start g r ≡ false

  pub first_row : (s : Strategy) (i : ℕ) (r : Row) → slice_get s.rows i ≡ Some r → is_start g r ≡ true → NoneBelow s.rows i → IsStartRow g s i
  first_row s i r er h below = record {
    stands = (r.how, er ∙ ap Some (is_at_start r h));
    first = λ j lt at. not_both (is_start g (Start at.0)) (start_is at.0) (below j (Start at.0) lt at.1);
  }

  pub one_more : (rows : List Row) (i : ℕ) (x : Row) → slice_get rows i ≡ Some x → is_start g x ≡ false → NoneBelow rows i → NoneBelow rows (i + 1)
  one_more rows i x ex h below j r lt er = by (below_or_at j i lt)
    where
      by : (j < i) ⊎ (j ≡ i) → is_start g r ≡ false
      by (inl l) = below j r l er
      by (inr e) = ap (is_start g) (same_Some r x (sym er ∙ ap (slice_get rows) e ∙ ex)) ∙ h

  pub some_row : (s : Strategy) (n : ℕ) → IsGoodStrategy g s → length s.rows ≤ n → NoneBelow s.rows n → ⊥
  some_row s n good le below =
      let k = good_start g s good in
      let at = k.1.stands in
      let lt = slice_get_within s.rows k.0 (Start at.0) at.1 in
      not_both (is_start g (Start at.0)) (start_is at.0) (below k.0 (Start at.0) (omega (arith, lt, le)) at.1)
