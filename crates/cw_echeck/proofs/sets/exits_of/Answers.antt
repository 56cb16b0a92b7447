use Rattle.std.proofs.Common.{◌∙◌, sym, subst, take, ◌+◌}
use Rattle.cw_game.proofs.Members.{has_is}
use Rattle.cw_echeck.proofs.Members.{Among, among_with, among_without, among_all}
use Rattle.cw_echeck.proofs.sets.exits_of.Goals as goal
use Rattle.cw_echeck.proofs.sets.exits_of.Goals.{then-back-lt-MEMBERS, else-back-lt-MEMBERS}

pub loop-back-init : goal.loop-back-init
loop-back-init c = λ x l. sym (has_is c.empty-exits.result x) ∙ c.empty-exits.ensures.members x

pub loop-back-preserved : goal.loop-back-preserved
loop-back-preserved c =
    elim c.if-back-lt-MEMBERS.branch [
      | then-back-lt-MEMBERS w ↦
          subst (λ (exits : _). Among exits (take (c.loop-back.back-index + 1) c.args.backs.now)) (sym w.exits-is)
          (among_with c.loop-back.exits c.loop-back.back-index c.args.backs.now _ c.loop-back-test.true c.loop-back.invariant w.insert.new.self
          w.insert.ensures.members)
      | else-back-lt-MEMBERS w ↦
          subst (λ (exits : _). Among exits (take (c.loop-back.back-index + 1) c.args.backs.now)) (sym w.exits-is)
          (among_without c.loop-back.exits c.loop-back.back-index c.args.backs.now _ c.loop-back-test.true c.loop-back.invariant
          w.if-back-lt-MEMBERS.false)
    ]

pub returns : goal.returns
returns c = among_all c.loop-back.exits c.loop-back.back-index c.args.backs.now c.loop-back-test.false c.loop-back.invariant
