use Rattle.cw_core.proofs.Subset.{subset_from_limbs, limbs_from_subset}
use Rattle.cw_core.proofs.state_set.StateSet.is_subset.Goals as goal

pub returns : goal.returns
returns c = record {
  subset = rw (← c.self.view_is, ← c.other.view_is) (
    (λ yes_it_is. subset_from_limbs c.self.inside.limbs c.other.inside.limbs c.self.invariant.0 c.other.invariant.0 c.self.invariant.1 (c.are_within.ensures.yes yes_it_is)),
    (λ sub. c.are_within.ensures.all (limbs_from_subset c.self.inside.limbs c.other.inside.limbs c.self.invariant.0 c.other.invariant.0 sub)),
  );
}
