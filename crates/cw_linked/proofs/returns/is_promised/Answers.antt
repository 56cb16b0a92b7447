use Rattle.std.proofs.Common.{sym, ◌∙◌, arith}
use Rattle.cw_core.specs.StateSet.{has as has_member}
use Rattle.cw_lemmas.proofs.Truths.{not_both}
use Rattle.cw_linked.proofs.Promising.{is_promised, was_promised}
use Rattle.cw_linked.proofs.returns.is_promised.Goals as goal

pub returns-else-to-eq0-clause-is : goal.returns-else-to-eq0-clause-is
unfolding has_member
returns-else-to-eq0-clause-is c yes_is =
    let w = c.args.work.now in
    let low = c.requires.few c.args.link c.requires.within in
    is_promised w c.args.link c.args.state.0 c.to-to.result c.index.result.now c.to-to.ensures c.if-to-eq0.false (omega (arith, low, c.to-to.ensures)) c.index.ensures
    (sym c.contains.ensures.member ∙ yes_is)

pub returns-else-to-eq0-clause-not : goal.returns-else-to-eq0-clause-not
unfolding has_member
returns-else-to-eq0-clause-not c no_is p =
    let w = c.args.work.now in
    let low = c.requires.few c.args.link c.requires.within in
    not_both c.contains.result (c.contains.ensures.member ∙ was_promised w c.args.link c.args.state.0 c.to-to.result c.index.result.now c.to-to.ensures c.if-to-eq0.false
    (omega (arith, low, c.to-to.ensures)) c.index.ensures p) no_is
