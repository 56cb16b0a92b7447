use Rattle.cw_echeck.proofs.Members.{below_is}
use Rattle.cw_echeck.proofs.sets.is_below.Goals as goal

pub returns : goal.returns
returns c =
    below_is c.args.set.now c.complement_in-all.result c.empty.result c.args.count c.is_subset.result c.fact_members_are_below_1024.ensures.below
    c.empty.ensures.members
    (record { members = λ i. rw (← c.min.ensures) (c.complement_in-all.ensures.members i) }) c.is_subset.ensures.subset
