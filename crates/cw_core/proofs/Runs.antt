-- The maximal runs of a set, number by number.
use Rattle.std.proofs.Common.{◌≡◌, ℕ, zero, suc, ◌+◌, ◌<◌, ◌≤◌, ◌⊎◌, Bool, true, false, List, [], ◌∷◌, refl, sym, ap, ◌∙◌, arith, inl, inr}
use Rattle.std.specs.List.{filter, range_with_len}
use Rattle.std.proofs.lemmas.Bool.{cases_eq, ne_eqb, eq-eqb}
use Rattle.cw_core.specs.StateSet.{has, IsBelow}
use Rattle.cw_core.specs.Ranges.{Run, in_front, runs_of, members, runs_text, ranges, Ascend, IsIn}

-- the maximal runs of the members among so many numbers from one on
pub runs_from : (set at count : ℕ) → List Run
runs_from set at count = runs_of (filter (has set) (range_with_len at count))

pub runs_without : (set at count : ℕ) → has set at ≡ false → runs_from set at (suc count) ≡ runs_from set (at + 1) count
unfolding runs_from
runs_without set at count out = rw out refl

pub runs_with : (set at count : ℕ) → has set at ≡ true → runs_from set at (suc count) ≡ in_front at (runs_from set (at + 1) count)
unfolding runs_from runs_of
runs_with set at count in' = rw in' refl

pub runs_none : (set at : ℕ) → runs_from set at 0 ≡ []
unfolding runs_from runs_of
runs_none set at = refl

pub Ascend-weaker : (low lower : ℕ) (runs : List Run) → lower ≤ low → Ascend low runs → Ascend lower runs
Ascend-weaker low lower [] le h = tt
Ascend-weaker low lower (run ∷ runs) le h = let p = h.0 in (omega (arith, p, le), h.1, h.2)

in_front-ascends : (n : ℕ) (runs : List Run) → Ascend (n + 1) runs → Ascend n (in_front n runs)
unfolding in_front
in_front-ascends n [] h = (omega arith, omega arith, tt)
in_front-ascends n (run ∷ runs) h =
    elim (cases_eq run.least (n + 1)) [
      | inl e ↦ rw (e, eq-eqb (n + 1) (n + 1) refl) (omega arith, (let p = h.1 in omega (arith, p, e)), h.2)
      | inr ne ↦ rw (ne_eqb run.least (n + 1) ne) (omega arith, omega arith, ((let p = h.0 in omega (arith, p, ne)), h.1, h.2))
    ]

pub runs_ascend : (set at count : ℕ) → Ascend at (runs_from set at count)
runs_ascend set at zero = rw (runs_none set at) tt
runs_ascend set at (suc count) = by_test (runs_ascend set (at + 1) count) (has set at) refl
  where
    by_test : Ascend (at + 1) (runs_from set (at + 1) count) → (t : Bool) → has set at ≡ t → Ascend at (runs_from set at (suc count))
    by_test up true e = rw (runs_with set at count e) (in_front-ascends at (runs_from set (at + 1) count) up)
    by_test up false e = rw (runs_without set at count e) (Ascend-weaker (at + 1) at (runs_from set (at + 1) count) (omega arith) up)

-- in the runs with a number in front are that number and what was in them
in_front-has : (n s : ℕ) (runs : List Run) → Ascend (n + 1) runs → (s ≡ n) ⊎ IsIn s runs → IsIn s (in_front n runs)
unfolding in_front
in_front-has n s [] up (inl e) = inl (omega (arith, e), omega (arith, e))
in_front-has n s [] up (inr h) = absurd h
in_front-has n s (run ∷ runs) up h =
    elim (cases_eq run.least (n + 1)) [
      | inl e ↦
          let some = up.1 in
          rw (e, eq-eqb (n + 1) (n + 1) refl) (elim h [
            | inl is ↦ inl (omega (arith, is), omega (arith, is, some, e))
            | inr there ↦ elim there [
              | inl here ↦ inl ((let p = here.0 in omega (arith, p, e)), here.1)
              | inr later ↦ inr later
            ]
          ])
      | inr ne ↦
          rw (ne_eqb run.least (n + 1) ne) (elim h [
            | inl is ↦ inl (omega (arith, is), omega (arith, is))
            | inr there ↦ inr there
          ])
    ]

in_front-only : (n s : ℕ) (runs : List Run) → Ascend (n + 1) runs → IsIn s (in_front n runs) → (s ≡ n) ⊎ IsIn s runs
unfolding in_front
in_front-only n s [] up (inl h) = inl (let p = h.0 in let q = h.1 in omega (arith, p, q))
in_front-only n s [] up (inr h) = absurd h
in_front-only n s (run ∷ runs) up h =
    elim (cases_eq run.least (n + 1)) [
      | inl e ↦
          elim (rw (e, eq-eqb (n + 1) (n + 1) refl) at h) [
            | inl here ↦ elim (cases_eq s n) [
              | inl is ↦ inl is
              | inr ne ↦ inr (inl ((let p = here.0 in omega (arith, p, ne, e)), here.1))
            ]
            | inr later ↦ inr (inr later)
          ]
      | inr ne ↦
          elim (rw (ne_eqb run.least (n + 1) ne) at h) [
            | inl here ↦ inl (let p = here.0 in let q = here.1 in omega (arith, p, q))
            | inr later ↦ inr later
          ]
    ]

-- in the runs are the members among those numbers
pub runs_have : (set at count s : ℕ) → has set s ≡ true → at ≤ s → s < at + count → IsIn s (runs_from set at count)
runs_have set at zero s member low high = absurd (omega (arith, low, high))
runs_have set at (suc count) s member low high =
    elim (cases_eq s at) [
      | inl e ↦ rw (runs_with set at count (rw e at member)) (in_front-has at s (runs_from set (at + 1) count) (runs_ascend set (at + 1) count) (inl e))
      | inr ne ↦ by_test (has set at) refl (runs_have set (at + 1) count s member (omega (arith, low, ne)) (omega (arith, high)))
    ]
  where
    by_test : (t : Bool) → has set at ≡ t → IsIn s (runs_from set (at + 1) count) → IsIn s (runs_from set at (suc count))
    by_test true e h = rw (runs_with set at count e) (in_front-has at s (runs_from set (at + 1) count) (runs_ascend set (at + 1) count) (inr h))
    by_test false e h = rw (runs_without set at count e) h

pub runs_have_only : (set at count s : ℕ) → IsIn s (runs_from set at count) → (has set s ≡ true) × (at ≤ s) × (s < at + count)
runs_have_only set at zero s h = absurd (rw (runs_none set at) at h)
runs_have_only set at (suc count) s h =
    by_test (λ there. let p = runs_have_only set (at + 1) count s there in let low = p.1 in let high = p.2 in (p.0, omega (arith, low), omega (arith, high))) (has set at) refl
  where
    by_test : (IsIn s (runs_from set (at + 1) count) → (has set s ≡ true) × (at ≤ s) × (s < at + suc count)) → (t : Bool) → has set at ≡ t → (has set s ≡ true) × (at ≤ s) × (s < at + suc count)
    by_test later true e = elim (in_front-only at s (runs_from set (at + 1) count) (runs_ascend set (at + 1) count) (rw (runs_with set at count e) at h)) [
      | inl is ↦ (rw is e, omega (arith, is), omega (arith, is))
      | inr there ↦ later there
    ]
    by_test later false e = later (rw (runs_without set at count e) at h)

-- one number more that is no member
pub runs_more : (set at count after : ℕ) → after ≡ at + count → has set after ≡ false → runs_from set at (suc count) ≡ runs_from set at count
runs_more set at zero after e out = let same : after ≡ at = omega (arith, e) in runs_without set at zero (rw same at out) ∙ runs_none set (at + 1) ∙ sym (runs_none set at)
runs_more set at (suc count) after e out = by_test (runs_more set (at + 1) count after (omega (arith, e)) out) (has set at) refl
  where
    by_test : runs_from set (at + 1) (suc count) ≡ runs_from set (at + 1) count → (t : Bool) → has set at ≡ t → runs_from set at (suc (suc count)) ≡ runs_from set at (suc count)
    by_test rest true f = runs_with set at (suc count) f ∙ ap (in_front at) rest ∙ sym (runs_with set at count f)
    by_test rest false f = runs_without set at (suc count) f ∙ rest ∙ sym (runs_without set at count f)

-- a maximal run is the first of the runs from its least number on
pub runs_first : (d set least greatest count total : ℕ) → total ≡ d + count + 2 → greatest ≡ least + d → ((s : ℕ) → least ≤ s → s ≤ greatest → has set s ≡ true) → has set (greatest + 1) ≡ false
    → runs_from set least total ≡ record { least = least; greatest = greatest } ∷ runs_from set (greatest + 2) count
unfolding in_front
runs_first zero set least greatest count total sum e all out =
    let same : greatest ≡ least = omega (arith, e) in
    let numbers : total ≡ suc (suc count) = omega (arith, sum) in
    let here : has set least ≡ true = all least (omega arith) (omega (arith, e)) in
    let after : has set (least + 1) ≡ false = rw same at out in
    let two : least + 1 + 1 ≡ least + 2 = omega arith in
    rw (same, numbers) (runs_with set least (suc count) here
    ∙ ap (in_front least) (runs_without set (least + 1) count after ∙ ap (λ (k : ℕ). runs_from set k count) two)
    ∙ alone (runs_from set (least + 2) count) (runs_ascend set (least + 2) count))
  where
    alone : (runs : List Run) → Ascend (least + 2) runs → in_front least runs ≡ record { least = least; greatest = least } ∷ runs
    alone [] h = refl
    alone (run ∷ runs) h = rw (ne_eqb run.least (least + 1) (λ is. let p = h.0 in omega (arith, p, is))) refl
runs_first (suc d) set least greatest count total sum e all out =
    let numbers : total ≡ suc (d + count + 2) = omega (arith, sum) in
    let rest = runs_first d set (least + 1) greatest count (d + count + 2) refl (omega (arith, e)) (λ s low high. all s (omega (arith, low)) high) out in
    rw numbers (runs_with set least (d + count + 2) (all least (omega arith) (omega (arith, e)))
    ∙ ap (in_front least) rest
    ∙ rw (eq-eqb (least + 1) (least + 1) refl) refl)

-- no number from the bound on is a member
pub runs_past : (bound set at count : ℕ) → IsBelow bound set → bound ≤ at → runs_from set at count ≡ []
runs_past bound set at zero below le = runs_none set at
runs_past bound set at (suc count) below le =
    let rest = runs_past bound set (at + 1) count below (omega (arith, le)) in
    by_test (has set at) refl rest
  where
    by_test : (t : Bool) → has set at ≡ t → runs_from set (at + 1) count ≡ [] → runs_from set at (suc count) ≡ []
    by_test true e rest = absurd (let p = below at e in omega (arith, p, le))
    by_test false e rest = runs_without set at count e ∙ rest

pub outside : (set at : ℕ) → IsBelow 1024 set → 1024 ≤ at → has set at ≡ false
outside set at below le = by_test (has set at) refl
  where
    by_test : (t : Bool) → has set at ≡ t → has set at ≡ false
    by_test true e = absurd (let p = below at e in omega (arith, p, le))
    by_test false e = e

-- the runs of the whole set, and one number more
pub ranges_whole : (set : ℕ) → IsBelow 1024 set → runs_text (runs_from set 0 1025) ≡ ranges set
unfolding ranges members runs_from
ranges_whole set below = ap runs_text (runs_more set 0 1024 1024 (omega arith) (outside set 1024 below (omega arith)))

pub whole_runs : (set : ℕ) → runs_from set 0 1024 ≡ runs_of (members set)
unfolding runs_from members
whole_runs set = refl
