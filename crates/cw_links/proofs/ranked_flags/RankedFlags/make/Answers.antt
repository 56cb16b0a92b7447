use Rattle.std.proofs.Common.{ℕ, List, sym, subst}
use Rattle.cw_links.specs.Ranked.{AreRanked}
use Rattle.cw_links.proofs.Ranking.{none_ranked}
use Rattle.cw_links.proofs.ranked_flags.RankedFlags.make.Goals as goal

pub invariant_of-result : goal.invariant_of-result
invariant_of-result c = subst (λ (xs : List ℕ). AreRanked xs 0) (sym c.in_ok-with_capacity.ensures.items) none_ranked
