use Rattle.std.proofs.Common.{◌≡◌, length, arith}
use Rattle.cw_audit_text.proofs.Behind.{count_small}
use Rattle.cw_audit_text.proofs.reading.lines_in.Goals as goal

pub overflow_add-lines-in-loop-group : goal.overflow_add-lines-in-loop-group
overflow_add-lines-in-loop-group c =
    let many : c.len.result ≡ length c.group-item.result.rows.items = omega (arith, c.len.ensures, c.group-item.result.rows.ok.0) in
    let small = count_small c.args.groups.now c.loop-group.group-index c.loop-group.lines c.group-item.result c.loop-group-test.true c.group-item.is c.loop-group.invariant c.requires in
    omega (arith, many, small)
