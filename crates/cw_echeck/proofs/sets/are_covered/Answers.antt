use Rattle.cw_echeck.specs.Checks.{backs_of}
use Rattle.cw_echeck.proofs.Members.{covered_is}
use Rattle.cw_echeck.proofs.sets.are_covered.Goals as goal

pub returns : goal.returns
returns c =
    covered_is c.args.aim.now c.exits_of.result c.complement_in-left_out.result c.complement_in.result c.args.count (backs_of c.args.backs.now)
    c.is_subset.result
    c.fact_members_are_below_1024.ensures.below c.exits_of.ensures
    (record { members = λ i. rw (← c.min-count.ensures) (c.complement_in-left_out.ensures.members i) })
    (record { members = λ i. rw (← c.min-count.ensures) (c.complement_in.ensures.members i) }) c.is_subset.ensures.subset
