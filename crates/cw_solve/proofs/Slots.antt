-- Each cell of a table has an index of its own.
use Rattle.std.proofs.Common.{◌≡◌, ℕ, ◌+◌, ◌-◌, ◌*◌, ◌/◌, ◌%◌, ◌<◌, ◌≤◌, List, Some, take, refl, sym, ap, ap₂, ◌∙◌, subst, arith, inl, inr, mul_comm}
use Rattle.std.specs.Prelude.{slice_get, sum_by}
use Rattle.std.proofs.lemmas.Bool.{cases_lt}
use Rattle.std.proofs.lemmas.Nat.{div-mul-add, mod-mul-add, mul-add-lt}
use Rattle.std.proofs.lemmas.List.{take-take}
use Rattle.std.proofs.lemmas.List.Sums.{sum_by_more, sum_by_more_le, sum_by-take-le}
use Rattle.std.proofs.lemmas.Option.{same_Some, get_or_from_slice_get, slice_get_within}
use Rattle.cw_game.specs.Games.{Game}
use Rattle.cw_solve.specs.declared.contexts.Context.{Context}
use Rattle.cw_product.specs.Routed.{IsOf}
use Rattle.cw_solve.specs.Contexts.{size, cells_of}
use Rattle.cw_solve.specs.Rounds.{base, positions, slot, IsCell}

module _ (g : Game) (contexts : List Context) where
  abbrev size_of : Context → ℕ
  size_of c = size g c.function

  -- the cells of a context follow those of the contexts before it
  pub base_more : (i : ℕ) (c : Context) → slice_get contexts i ≡ Some c → base g contexts (i + 1) ≡ base g contexts i + size g c.function
  base_more i c at = sum_by_more size_of contexts i c (slice_get_within contexts i c at) ∙ ap (λ (y : Context). base g contexts i + size_of y) (get_or_from_slice_get contexts i c c at)

  -- and lie within those of all
  pub base_rises : (i d : ℕ) → base g contexts i ≤ base g contexts (i + d)
  base_rises i d =
      let e : take i (take (i + d) contexts) ≡ take i contexts = take-take i (i + d) contexts (omega arith) in
      let le = sum_by-take-le size_of (take (i + d) contexts) i in
      let z = ap (sum_by size_of) e in
      omega (arith, le, z)

  pub base_within : (i : ℕ) (c : Context) → slice_get contexts i ≡ Some c → base g contexts i + size g c.function ≤ cells_of g contexts
  base_within i c at =
      let le = sum_by_more_le size_of contexts i c (slice_get_within contexts i c at) in
      let e = ap size_of (get_or_from_slice_get contexts i c c at) in
      omega (arith, le, e)

  row_within : (i : ℕ) (c : Context) (p q : ℕ) → IsCell g contexts i c p q → p - g.entry c.function < positions g c.function
  row_within i c p q is = omega (arith, is.of.0, is.of.1)

  -- the index of a cell among those of its context
  pub within : (i : ℕ) (c : Context) (p q : ℕ) → IsCell g contexts i c p q → q * positions g c.function + (p - g.entry c.function) < size g c.function
  within i c p q is =
      let lt = mul-add-lt q (positions g c.function) (p - g.entry c.function) g.states.count is.state (row_within i c p q is) in
      let e = mul_comm g.states.count (positions g c.function) in
      omega (arith, lt, e)

  pub slot_within : (i : ℕ) (c : Context) (p q : ℕ) → IsCell g contexts i c p q → slot g contexts i c.function p q < cells_of g contexts
  slot_within i c p q is = omega (arith, within i c p q is, base_within i c is.at)

  pub record IsSame (i j : ℕ) (c d : Context) (p r q x : ℕ) : Type 0 where
    pub number : i ≡ j
    pub context : c ≡ d
    pub position : p ≡ r
    pub state : q ≡ x

  same_row : (i : ℕ) (c : Context) (p r q x : ℕ) → IsCell g contexts i c p q → IsCell g contexts i c r x
      → q * positions g c.function + (p - g.entry c.function) ≡ x * positions g c.function + (r - g.entry c.function) → IsSame i i c c p r q x
  same_row i c p r q x is are e =
      let many = positions g c.function in
      let state = sym (div-mul-add q many (p - g.entry c.function) (row_within i c p q is)) ∙ ap (λ y. y / many) e ∙ div-mul-add x many (r - g.entry c.function) (row_within i c r x are) in
      let row = sym (mod-mul-add q many (p - g.entry c.function) (row_within i c p q is)) ∙ ap (λ y. y % many) e ∙ mod-mul-add x many (r - g.entry c.function) (row_within i c r x are) in
      record { number = refl; context = refl; position = omega (arith, row, is.of.0, are.of.0); state = state }

  -- the cells of an earlier context come before
  apart : (i j : ℕ) (c d : Context) (p r q x : ℕ) → i < j → IsCell g contexts i c p q → IsCell g contexts j d r x → slot g contexts i c.function p q < slot g contexts j d.function r x
  apart i j c d p r q x lt is are =
      let more = base_more i c is.at in
      let e : j ≡ i + 1 + (j - (i + 1)) = omega (arith, lt) in
      let rises : base g contexts (i + 1) ≤ base g contexts j = rw e (base_rises (i + 1) (j - (i + 1))) in
      omega (arith, more, rises, within i c p q is)

  pub same_slot : (i j : ℕ) (c d : Context) (p r q x : ℕ) → IsCell g contexts i c p q → IsCell g contexts j d r x → slot g contexts i c.function p q ≡ slot g contexts j d.function r x
      → IsSame i j c d p r q x
  same_slot i j c d p r q x is are e =
      elim (cases_lt i j) [
        | inl lt ↦ absurd (omega (arith, e, apart i j c d p r q x lt is are))
        | inr le ↦ elim (cases_lt j i) [
          | inl lt ↦ absurd (omega (arith, e, apart j i d c r p x q lt are is))
          | inr ge ↦ equal (omega (arith, le, ge))
        ]
      ]
    where
      equal : i ≡ j → IsSame i j c d p r q x
      equal z =
          let same : c ≡ d = same_Some c d (sym is.at ∙ ap (slice_get contexts) z ∙ are.at) in
          let there : IsCell g contexts i c r x = record { at = is.at; of = subst (λ (y : Context). IsOf g y.function r) (sym same) are.of; state = are.state } in
          let e2 : slot g contexts i c.function r x ≡ slot g contexts j d.function r x = ap₂ (λ (k : ℕ) (y : Context). slot g contexts k y.function r x) z same in
          let s = same_row i c p r q x is there (omega (arith, e, e2)) in
          record { number = z; context = same; position = s.position; state = s.state }

  -- the next cell of a state, the first of the next state, and where the cells of a context begin and end
  pub slot_next : (i f p q : ℕ) → g.entry f ≤ p → slot g contexts i f p q + 1 ≡ slot g contexts i f (p + 1) q
  slot_next i f p q le = omega (arith, le)

  pub slot_run : (i f q : ℕ) → g.entry f ≤ g.exit f → slot g contexts i f (g.exit f + 1) q ≡ slot g contexts i f (g.entry f) (q + 1)
  slot_run i f q le =
      let e : (q + 1) * positions g f ≡ q * positions g f + positions g f = omega arith in
      omega (arith, e, le)

  pub slot_begins : (i f : ℕ) → base g contexts i ≡ slot g contexts i f (g.entry f) 0
  slot_begins i f =
      let e : g.entry f - g.entry f ≡ 0 = omega arith in
      rw e (omega arith)

  pub slot_ends : (i : ℕ) (c : Context) → slice_get contexts i ≡ Some c → slot g contexts i c.function (g.entry c.function) g.states.count ≡ base g contexts (i + 1)
  slot_ends i c at =
      let more = base_more i c at in
      let e = mul_comm g.states.count (positions g c.function) in
      omega (arith, more, e)
