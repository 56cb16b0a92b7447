use Rattle.cw_joins.specs.Seeing.{named}
use Rattle.cw_joins.proofs.Entries.{filtered_more}
use Rattle.cw_joins.proofs.seen.put_each.Goals as goal

pub loop-hint-preserved : goal.loop-hint-preserved
loop-hint-preserved g c =
    filtered_more (named c.args.there.now) c.args.keys.now.items c.args.hints.now c.loop-hint.hint-index _ c.loop-hint.keys.items c.put_named.new.keys.items c.loop-hint-test.true c.loop-hint.invariant
    c.in_ok-put_named.ensures
