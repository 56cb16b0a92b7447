use Rattle.std.proofs.Common.{◌<◌, ◌+◌, ℕ, List, length, sym, subst, arith}
use Rattle.cw_links.specs.Ranked.{flags_of, AreRanked}
use Rattle.cw_links.proofs.Ranking.{length-flags_of, ranked_more, unranked_more}
use Rattle.cw_links.proofs.Ranks.{number-le}
use Rattle.cw_links.proofs.ranked_flags.RankedFlags.push.Goals as goal

pub overflow_add-self-inside : goal.overflow_add-self-inside
overflow_add-self-inside c =
    let s = c.self.inside in
    let few : length (flags_of s.ranks.items) < 4294967295 = rw (← c.self.view_is) at c.requires.few in
    record { fits = omega (arith, few, c.self.invariant.all, number-le (flags_of s.ranks.items)) }

pub overflow_add-self : goal.overflow_add-self
overflow_add-self c =
    let s = c.self.inside in
    let few : length (flags_of s.ranks.items) < 4294967295 = rw (← c.self.view_is) at c.requires.few in
    record { fits = omega (arith, few, c.self.invariant.all, number-le (flags_of s.ranks.items)) }

pub invariant_of-self-then-flag : goal.invariant_of-self-then-flag
invariant_of-self-then-flag c =
    let s = c.self.inside in
    let few : length (flags_of s.ranks.items) < 4294967295 = rw (← c.self.view_is) at c.requires.few in
    subst (λ (xs : List ℕ). AreRanked xs (s.flagged + 1)) (sym c.in_ok-push.ensures.items)
    (ranked_more s.ranks.items s.flagged c.self.invariant (omega (arith, few, length-flags_of s.ranks.items)))

pub invariant_of-self-in-Continue-branch-2 : goal.invariant_of-self-in-Continue-branch-2
invariant_of-self-in-Continue-branch-2 c =
    let s = c.self.inside in
    let few : length (flags_of s.ranks.items) < 4294967295 = rw (← c.self.view_is) at c.requires.few in
    subst (λ (xs : List ℕ). AreRanked xs s.flagged) (sym c.in_ok-push-2.ensures.items)
    (unranked_more s.ranks.items s.flagged c.self.invariant (omega (arith, few, length-flags_of s.ranks.items)))
