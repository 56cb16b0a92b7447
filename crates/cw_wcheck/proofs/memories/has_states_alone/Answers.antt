use Rattle.std.proofs.Common.{◌≡◌, ◌≤◌, true, nat_le, sym, ◌∙◌, arith}
use Rattle.std.proofs.lemmas.Bool.Decides.{nat_tests}
use Rattle.cw_wcheck.proofs.Alls.{is_below, is_below_more}
use Rattle.cw_wcheck.proofs.memories.has_states_alone.Goals as goal

pub returns-then-states-ge-MEMBERS : goal.returns-then-states-ge-MEMBERS
returns-then-states-ge-MEMBERS c =
    let more : 1024 ≤ c.args.states = c.if-states-ge-MEMBERS.true in
    let answer : nat_le 1024 c.args.states ≡ true = grind (arith, nat_tests) in
    answer ∙ sym (is_below_more c.args.set.now c.args.states c.fact_members_are_below_1024.ensures.below more)

pub returns-else-states-ge-MEMBERS : goal.returns-else-states-ge-MEMBERS
returns-else-states-ge-MEMBERS c = is_below c.args.set.now _ _ c.args.states c.le.result c.empty.ensures.members c.complement_in.ensures.members c.le.ensures
