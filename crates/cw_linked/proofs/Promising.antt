-- A promise is made state by state; whether the promise of a link's context has a state, and where a call returns.
use Rattle.std.proofs.Common.{◌≡◌, ℕ, ◌+◌, ◌-◌, ◌<◌, ◌≤◌, Bool, true, false, ◌&&◌, ◌||◌, nat_lt, Some, length, get_or, sym, ap, ap₂, ◌∙◌, arith, inl, inr}
use Rattle.std.specs.Prelude.{slice_get, slice_index, nat_eq}
use Rattle.std.proofs.lemmas.Bool.{cases_eq, cases_lt, eq-eqb, ne_eqb, lt-ltb, le-ltb}
use Rattle.std.proofs.lemmas.Option.{slice_get-get_or, get_or_from_slice_get}
use Rattle.cw_game.specs.declared.spots.Spot.{Spot}
use Rattle.cw_game.specs.Games.{Game}
use Rattle.cw_game.specs.Pairs.{has, Called, call_in, call_spot}
use Rattle.cw_positions.specs.Closed.{LeadsWithin}
use Rattle.cw_solve.specs.declared.contexts.Context.{Context}
use Rattle.cw_solve.proofs.Falls.{call_is}
use Rattle.cw_linked.specs.declared.work.Work.{Work}
use Rattle.cw_linked.specs.Returns.{IsPromised}

-- Of a set that has the numbers below x for which something holds: with x it has one more, if it holds for x, ..
pub one_more_in : (old holds : ℕ → Bool) (x : ℕ) → ((y : ℕ) → old y ≡ (nat_lt y x && holds y)) → holds x ≡ true → (y : ℕ) → (nat_eq y x || old y) ≡ (nat_lt y (x + 1) && holds y)
one_more_in old holds x is here y =
    elim (cases_lt y x) [
      | inl lt ↦
          ap₂ (λ (a b : Bool). a || b) (ne_eqb y x (λ e. omega (arith, e, lt))) (is y ∙ ap (λ (b : Bool). b && holds y) (lt-ltb y x lt))
          ∙ sym (ap (λ (b : Bool). b && holds y) (lt-ltb y (x + 1) (omega (arith, lt))))
      | inr ge ↦ elim (cases_eq y x) [
        | inl e ↦ ap (λ (b : Bool). b || old y) (eq-eqb y x e) ∙ sym (ap₂ (λ (a b : Bool). a && b) (lt-ltb y (x + 1) (omega (arith, e))) (ap holds e ∙ here))
        | inr ne ↦
            ap₂ (λ (a b : Bool). a || b) (ne_eqb y x ne) (is y ∙ ap (λ (b : Bool). b && holds y) (le-ltb y x ge))
            ∙ sym (ap (λ (b : Bool). b && holds y) (le-ltb y (x + 1) (omega (arith, ge, ne))))
      ]
    ]

-- .. and is the same if it doesn't.
pub one_more_out : (old holds : ℕ → Bool) (x : ℕ) → ((y : ℕ) → old y ≡ (nat_lt y x && holds y)) → holds x ≡ false → (y : ℕ) → old y ≡ (nat_lt y (x + 1) && holds y)
one_more_out old holds x is here y =
    is y
    ∙ elim (cases_lt y x) [
      | inl lt ↦ ap (λ (b : Bool). b && holds y) (lt-ltb y x lt) ∙ sym (ap (λ (b : Bool). b && holds y) (lt-ltb y (x + 1) (omega (arith, lt))))
      | inr ge ↦
          ap (λ (b : Bool). b && holds y) (le-ltb y x ge)
          ∙ elim (cases_eq y x) [
            | inl e ↦ sym (ap₂ (λ (a b : Bool). a && b) (lt-ltb y (x + 1) (omega (arith, e))) (ap holds e ∙ here))
            | inr ne ↦ sym (ap (λ (b : Bool). b && holds y) (le-ltb y (x + 1) (omega (arith, ge, ne))))
          ]
    ]

module _ (w : Work) (link x to : ℕ) (c : Context) (value : to ≡ slice_index w.store.to link) (some : to ≡ 0 → ⊥) (low : to ≤ length w.blocks.contexts.items)
    (at : c ≡ get_or w.blocks.contexts.items (to - 1) c) where
  pub is_promised : has c.promise x ≡ true → IsPromised w link x
  is_promised member = (
    c,
    omega (arith, some, value),
    ap (λ (k : ℕ). slice_get w.blocks.contexts.items (k - 1)) (sym value) ∙ slice_get-get_or w.blocks.contexts.items (to - 1) c (omega (arith, some, low)) ∙ ap (λ (y : Context). Some y) (sym at),
    member,
  )

  pub was_promised : IsPromised w link x → has c.promise x ≡ true
  was_promised p =
      let there : slice_get w.blocks.contexts.items (to - 1) ≡ Some p.0 = ap (λ (k : ℕ). slice_get w.blocks.contexts.items (k - 1)) value ∙ p.2 in
      let same : c ≡ p.0 = at ∙ get_or_from_slice_get w.blocks.contexts.items (to - 1) p.0 c there in
      ap (λ (y : Context). has y.promise x) same ∙ p.3

-- a call returns to a position
pub back_within : (g : Game) (functions p : ℕ) (call : Called) → ((p : ℕ) (s : Spot) → slice_get g.spots p ≡ Some s → LeadsWithin (length g.spots) functions p s)
    → call_in (slice_get g.spots p) ≡ Some call
    → call.back < length g.spots
back_within g functions p call leads es = by call.split (call_is (slice_get g.spots p) call es)
  where
    by : (split : Bool) → slice_get g.spots p ≡ Some (call_spot split call.seam call.function call.back) → call.back < length g.spots
    by true o = (leads p (call_spot true call.seam call.function call.back) o).1
    by false o = (leads p (call_spot false call.seam call.function call.back) o).1
