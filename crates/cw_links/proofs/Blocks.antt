-- Blocks of indices, of which each begins at a flagged index and has no other.
use Rattle.std.proofs.Common.{◌≡◌, ℕ, zero, suc, ◌+◌, ◌-◌, ◌<◌, ◌≤◌, Bool, List, ap, ◌∙◌, subst, arith}
use Rattle.cw_links.specs.Flags.{rank}
use Rattle.cw_links.specs.Blocks.{AreFirsts}
use Rattle.cw_links.proofs.Ranks.{rank-zero, rank_flagged, rank_not_flagged}

-- so many indices further in a block that has i blocks before it
further : (flags : List Bool) (base : ℕ → ℕ) (blocks : ℕ) → AreFirsts flags base blocks → (i n : ℕ) → i < blocks → base i + n < base (i + 1) →
    rank flags (base i) ≡ i → rank flags (base i + n + 1) ≡ i + 1
further flags base blocks firsts i zero known within before =
    let e : base i + 0 + 1 ≡ base i + 1 = omega arith in
    ap (rank flags) e ∙ omega (arith, rank_flagged flags (base i) (firsts.first i known), before)
further flags base blocks firsts i (suc n) known within before =
    let e : base i + suc n + 1 ≡ base i + n + 1 + 1 = omega arith in
    ap (rank flags) e ∙ rank_not_flagged flags (base i + n + 1) (firsts.others i (base i + n + 1) known (omega arith) (omega (arith, within)))
    ∙ further flags base blocks firsts i n known (omega (arith, within)) before

-- before a block there are as many flags as blocks
pub rank_at_base : (flags : List Bool) (base : ℕ → ℕ) (blocks : ℕ) → AreFirsts flags base blocks → (i : ℕ) → i ≤ blocks → rank flags (base i) ≡ i
rank_at_base flags base blocks firsts zero within = ap (rank flags) firsts.begins ∙ rank-zero flags
rank_at_base flags base blocks firsts (suc i) within =
    let next : suc i ≡ i + 1 = omega arith in
    let rises : base i < base (i + 1) = firsts.ascends i (omega (arith, within)) in
    let last : base i + (base (i + 1) - base i - 1) + 1 ≡ base (suc i) = omega (arith, rises, ap base next) in
    subst (λ (index : ℕ). rank flags index ≡ suc i) last
    (further flags base blocks firsts i (base (i + 1) - base i - 1) (omega (arith, within)) (omega (arith, rises))
    (rank_at_base flags base blocks firsts i (omega (arith, within))) ∙ omega arith)

-- and one more after each index of it
pub rank_in_block : (flags : List Bool) (base : ℕ → ℕ) (blocks : ℕ) → AreFirsts flags base blocks → (i index : ℕ) → i < blocks → base i ≤ index →
    index < base (i + 1) →
    rank flags (index + 1) ≡ i + 1
rank_in_block flags base blocks firsts i index known from to =
    let here : base i + (index - base i) + 1 ≡ index + 1 = omega (arith, from) in
    subst (λ (next : ℕ). rank flags next ≡ i + 1) here
    (further flags base blocks firsts i (index - base i) known (omega (arith, from, to)) (rank_at_base flags base blocks firsts i (omega (arith, known))))
