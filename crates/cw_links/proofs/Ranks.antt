-- How many indices before an index are flagged.
use Rattle.std.proofs.Common.{◌≡◌, ℕ, zero, suc, ◌+◌, ◌-◌, ◌<◌, ◌≤◌, Bool, true, false, cond, List, [], ◌∷◌, ◌++◌, length, take, get_or, refl, sym, ap, ◌∙◌, subst, arith, inl, inr}
use Rattle.std.proofs.lemmas.Bool.{cases_order, cases_lt, false≢true}
use Rattle.std.proofs.lemmas.List.{take_all, take-append-le, get_or_past, length-take}
use Rattle.std.proofs.lemmas.List.Sums.{sum_by-cons, sum_by-append, sum_by_more, sum_by-take-le, count_by-le-length}
use Rattle.cw_links.specs.Flags.{number, rank}

-- ---- the number of flags
pub number-none : number [] ≡ 0
unfolding number
number-none = refl

pub number-cons : (flag : Bool) (flags : List Bool) → number (flag ∷ flags) ≡ cond flag 1 0 + number flags
unfolding number
number-cons flag flags = sum_by-cons (λ (m : Bool). cond m 1 0) flag flags

pub number-append : (flags more : List Bool) → number (flags ++ more) ≡ number flags + number more
unfolding number
number-append flags more = sum_by-append (λ (m : Bool). cond m 1 0) flags more

pub number_push : (flags : List Bool) (flag : Bool) → number (flags ++ flag ∷ []) ≡ number flags + cond flag 1 0
number_push flags flag = number-append flags (flag ∷ []) ∙ ap (λ (n : ℕ). number flags + n) (number-cons flag []
    ∙ ap (λ (n : ℕ). cond flag 1 0 + n) number-none ∙ omega arith)

pub number-le : (flags : List Bool) → number flags ≤ length flags
unfolding number
number-le flags = count_by-le-length (λ (m : Bool). m) flags

-- ---- the rank of an index
pub rank-zero : (flags : List Bool) → rank flags 0 ≡ 0
unfolding rank
rank-zero flags = number-none

pub rank-cons : (flag : Bool) (flags : List Bool) (index : ℕ) → rank (flag ∷ flags) (suc index) ≡ cond flag 1 0 + rank flags index
unfolding rank
rank-cons flag flags index = number-cons flag (take index flags)

pub rank_cons_flagged : (flags : List Bool) (index : ℕ) → rank (true ∷ flags) (suc index) ≡ suc (rank flags index)
rank_cons_flagged flags index = omega (arith, rank-cons true flags index)

pub rank_cons_not_flagged : (flags : List Bool) (index : ℕ) → rank (false ∷ flags) (suc index) ≡ rank flags index
rank_cons_not_flagged flags index = omega (arith, rank-cons false flags index)

-- the next index has one more before it where this one is flagged
pub rank_more : (flags : List Bool) (index : ℕ) → index < length flags → rank flags (index + 1) ≡ rank flags index + cond (get_or flags index false) 1 0
unfolding rank number
rank_more flags index h = sum_by_more (λ (m : Bool). cond m 1 0) flags index false h

pub rank_all : (flags : List Bool) (index : ℕ) → length flags ≤ index → rank flags index ≡ number flags
unfolding rank
rank_all flags index h = ap number (take_all index flags h)

pub rank-le : (flags : List Bool) (index : ℕ) → rank flags index ≤ number flags
unfolding rank number
rank-le flags index = sum_by-take-le (λ (m : Bool). cond m 1 0) flags index

pub rank-le_index : (flags : List Bool) (index : ℕ) → rank flags index ≤ index
unfolding rank
rank-le_index flags index = omega (arith, number-le (take index flags), length-take index flags)

-- an index that is flagged is one of the list
pub flagged_within : (flags : List Bool) (index : ℕ) → get_or flags index false ≡ true → index < length flags
flagged_within flags index flagged =
    elim (cases_lt index (length flags)) [
      | inl lt ↦ lt
      | inr le ↦ absurd (false≢true (sym (get_or_past flags index false le) ∙ flagged))
    ]

pub rank_flagged : (flags : List Bool) (index : ℕ) → get_or flags index false ≡ true → rank flags (index + 1) ≡ rank flags index + 1
rank_flagged flags index flagged = rank_more flags index (flagged_within flags index flagged) ∙ rw flagged refl

pub rank_not_flagged : (flags : List Bool) (index : ℕ) → get_or flags index false ≡ false → rank flags (index + 1) ≡ rank flags index
rank_not_flagged flags index not_flagged =
    elim (cases_lt index (length flags)) [
      | inl lt ↦ rank_more flags index lt ∙ rw not_flagged (omega arith)
      | inr le ↦ rank_all flags (index + 1) (omega (arith, le)) ∙ sym (rank_all flags index le)
    ]

-- the next index has one more before it at most
pub rank_step : (flags : List Bool) (index : ℕ) → rank flags (index + 1) ≤ rank flags index + 1
rank_step flags index = at (get_or flags index false) refl
  where
    at : (flag : Bool) → get_or flags index false ≡ flag → rank flags (index + 1) ≤ rank flags index + 1
    at true is = omega (arith, rank_flagged flags index is)
    at false is = omega (arith, rank_not_flagged flags index is)

-- later indices have no lower rank
pub rank-monotone : (flags : List Bool) (a b : ℕ) → a ≤ b → rank flags a ≤ rank flags b
rank-monotone flags a b le = subst (λ (n : ℕ). rank flags a ≤ rank flags n) (omega (arith, le)) (further (b - a))
  where
    step : (index : ℕ) → rank flags index ≤ rank flags (index + 1)
    step index =
        elim (cases_lt index (length flags)) [
          | inl lt ↦ omega (arith, rank_more flags index lt)
          | inr le ↦ omega (arith, rank_all flags (index + 1) (omega (arith, le)), rank_all flags index le)
        ]

    further : (n : ℕ) → rank flags a ≤ rank flags (a + n)
    further zero =
        let e : a + 0 ≡ a = omega arith in
        omega (arith, ap (rank flags) e)
    further (suc n) =
        let e : a + suc n ≡ a + n + 1 = omega arith in
        omega (arith, ap (rank flags) e, further n, step (a + n))

-- the rank of a flagged index is below the number of flags
pub rank_below : (flags : List Bool) (index : ℕ) → get_or flags index false ≡ true → rank flags index < number flags
rank_below flags index flagged = omega (arith, rank_flagged flags index flagged, rank-le flags (index + 1))

-- and lower than that of each later index
pub rank_rises : (flags : List Bool) (a b : ℕ) → get_or flags a false ≡ true → a < b → rank flags a < rank flags b
rank_rises flags a b flagged lt = omega (arith, rank_flagged flags a flagged, rank-monotone flags (a + 1) b (omega (arith, lt)))

-- so flagged indices with the same rank are the same
pub same_from_rank : (flags : List Bool) (a b : ℕ) → get_or flags a false ≡ true → get_or flags b false ≡ true → rank flags a ≡ rank flags b → a ≡ b
same_from_rank flags a b flagged flagged' same =
    elim (cases_order a b) [
      | inl e ↦ e
      | inr (inl lt) ↦ absurd (omega (arith, same, rank_rises flags a b flagged lt))
      | inr (inr lt) ↦ absurd (omega (arith, same, rank_rises flags b a flagged' lt))
    ]

-- an index is flagged if the next one has a higher rank
pub flagged_from_rank : (flags : List Bool) (index : ℕ) → rank flags index < rank flags (index + 1) → get_or flags index false ≡ true
flagged_from_rank flags index rises = at (get_or flags index false) refl
  where
    at : (flag : Bool) → get_or flags index false ≡ flag → get_or flags index false ≡ true
    at true is = is
    at false is = absurd (omega (arith, rises, rank_not_flagged flags index is))

-- ---- with further flags at the end
pub rank-append : (flags more : List Bool) (index : ℕ) → index ≤ length flags → rank (flags ++ more) index ≡ rank flags index
unfolding rank
rank-append flags more index h = ap number (take-append-le index flags more h)

pub rank-append_right : (flags more : List Bool) (index : ℕ) → rank (flags ++ more) (length flags + index) ≡ number flags + rank more index
rank-append_right [] more index =
    let e : 0 + index ≡ index = omega arith in
    ap (rank more) e ∙ omega (arith, number-none)
rank-append_right (flag ∷ flags) more index =
    let e : suc (length flags) + index ≡ suc (length flags + index) = omega arith in
    ap (rank (flag ∷ (flags ++ more))) e ∙ rank-cons flag (flags ++ more) (length flags + index)
    ∙ omega (arith, number-cons flag flags, rank-append_right flags more index)

-- ---- the flagged indices
-- each number below that of the flags is the rank of a flagged index
pub index_with_rank : (flags : List Bool) (n : ℕ) → n < number flags → (index : ℕ) × (get_or flags index false ≡ true) × (rank flags index ≡ n)
index_with_rank [] n h = absurd (omega (arith, h, number-none))
index_with_rank (true ∷ flags) zero h = (0, refl, rank-zero (true ∷ flags))
index_with_rank (true ∷ flags) (suc n) h =
    let later = index_with_rank flags n (omega (arith, h, number-cons true flags)) in
    (suc later.0, later.1, rank_cons_flagged flags later.0 ∙ ap suc later.2)
index_with_rank (false ∷ flags) n h =
    let later = index_with_rank flags n (omega (arith, h, number-cons false flags)) in
    (suc later.0, later.1, rank_cons_not_flagged flags later.0 ∙ later.2)
