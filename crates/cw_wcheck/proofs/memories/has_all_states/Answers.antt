use Rattle.std.proofs.Common.{◌≡◌, ◌<◌, false, nat_le, sym, ◌∙◌, arith}
use Rattle.std.proofs.lemmas.Bool.Decides.{nat_tests}
use Rattle.cw_wcheck.proofs.Alls.{is_all, is_not_all}
use Rattle.cw_wcheck.proofs.memories.has_all_states.Goals as goal

pub returns-then-states-le-MEMBERS : goal.returns-then-states-le-MEMBERS
returns-then-states-le-MEMBERS c = is_all c.args.set.now _ _ c.args.states c.eq.result c.empty.ensures.members c.complement_in.ensures.members c.eq.ensures

pub returns-else-states-le-MEMBERS : goal.returns-else-states-le-MEMBERS
returns-else-states-le-MEMBERS c =
    let more : 1024 < c.args.states = c.if-states-le-MEMBERS.false in
    let answer : nat_le c.args.states 1024 ≡ false = grind (arith, nat_tests) in
    answer ∙ sym (is_not_all c.args.set.now c.args.states c.fact_members_are_below_1024.ensures.below more)
