use Rattle.std.proofs.Common.{◌+◌, sym, subst}
use Rattle.cw_callgraph.specs.Finding.{AreEffects}
use Rattle.cw_callgraph.proofs.Calling.{effects_more}
use Rattle.cw_callgraph.proofs.table.effects_of.Goals as goal

pub loop-function-preserved : goal.loop-function-preserved
loop-function-preserved c =
    let rows = c.args.table.now.rows.items in
    let heads = c.args.bars.now.heads.items in
    let bodies = c.args.bars.now.bodies.items in
    let n = c.loop-function.function in
    let e = c.in_ok-effect_of.ensures in
    subst (AreEffects rows heads bodies (n + 1)) (sym c.in_ok-push.ensures.items) (effects_more rows heads bodies n c.loop-function.effects.items c.in_ok-effect_of.field-0 c.loop-function.invariant e.calls e.reaches e.forbids)
