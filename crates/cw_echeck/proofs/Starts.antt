-- Where some row stands at the start with an empty aim there is a first one.
use Rattle.std.proofs.Common.{◌≡◌, ℕ, zero, suc, ◌<◌, List, [], ◌∷◌, Bool, true, false, ◌&&◌, Some, nat_eq, eqb-true, refl, sym, ap, ap₂, ◌∙◌, arith}
use Rattle.std.specs.Prelude.{slice_get}
use Rattle.std.proofs.lemmas.Bool.Decides.{nat_tests}
use Rattle.std.proofs.lemmas.Option.{none-some, same_Some}
use Rattle.cw_certs.specs.Strategies.{How, Row, Strategy}
use Rattle.cw_game.specs.Games.{Game}
use Rattle.cw_game.specs.Conditions.{is_start, IsGoodStrategy}
use Rattle.cw_game.proofs.Goods.{good_strategy_starts}
use Rattle.cw_lemmas.proofs.Truths.{not_both}
use Rattle.cw_echeck.specs.Beating.{IsStartRow}
use Rattle.cw_lemmas.proofs.Numbers.{nat_eq_self as same_number}
use Rattle.std.proofs.lemmas.Bool.{and_parts as both_true}

module _ (g : Game) where
  abbrev Start : How → Row
  Start how = record { pos = g.entry g.main; state = g.states.start; aim = 0; how = how }

  abbrev StartIn : List Row → ℕ → Type 0
  StartIn rows i = (how : How) × (slice_get rows i ≡ Some (Start how))

  stands : (r : Row) → is_start g r ≡ true → (how : How) × (Some r ≡ Some (Start how))
  stands r h =
      let a = both_true (nat_eq r.pos (g.entry g.main)) (nat_eq r.state g.states.start && nat_eq r.aim 0) h in
      let b = both_true (nat_eq r.state g.states.start) (nat_eq r.aim 0) a.1 in
      (r.how, rw (sym (eqb-true r.pos (g.entry g.main) a.0), sym (eqb-true r.state g.states.start b.0), sym (eqb-true r.aim 0 b.1)) refl)

  told : (r : Row) (how : How) → Some r ≡ Some (Start how) → is_start g r ≡ true
  told r how e = ap (is_start g) (same_Some r (Start how) e) ∙ ap₂ (λ a b. a && (b && nat_eq 0 0)) (same_number (g.entry g.main)) (same_number g.states.start)

  earlier : (x : Row) (rows : List Row) (i : ℕ) → is_start g x ≡ false → ((j : ℕ) → j < i → StartIn rows j → ⊥) → (j : ℕ) → j < suc i → StartIn (x ∷ rows) j → ⊥
  earlier x rows i e rest zero lt s = not_both (is_start g x) (told x s.0 s.1) e
  earlier x rows i e rest (suc j) lt s = rest j (omega (arith, lt)) s

  abbrev First : List Row → Type 0
  First rows = (i : ℕ) × StartIn rows i × ((j : ℕ) → j < i → StartIn rows j → ⊥)

  first_of : (x : Row) (rows : List Row) (b : Bool) → is_start g x ≡ b → (is_start g x ≡ false → First rows) → First (x ∷ rows)
  first_of x rows true e rest = (0, stands x e, (λ j lt s. absurd (omega (arith, lt))))
  first_of x rows false e rest = let k = rest e in (suc k.0, k.1, earlier x rows k.0 e k.2)

  first_start : (rows : List Row) (i : ℕ) → StartIn rows i → First rows
  first_start [] i h = absurd (none-some (Start h.0) h.1)
  first_start (x ∷ rows) zero h = first_of x rows (is_start g x) refl (λ e. absurd (not_both (is_start g x) (told x h.0 h.1) e))
  first_start (x ∷ rows) (suc i) h = first_of x rows (is_start g x) refl (λ e. first_start rows i h)

  pub good_start : (s : Strategy) → IsGoodStrategy g s → (row : ℕ) × IsStartRow g s row
  good_start s good =
      let some = good_strategy_starts g s good in
      let k = first_start s.rows some.0 some.1 in
      (k.0, record { stands = k.1; first = k.2 })
