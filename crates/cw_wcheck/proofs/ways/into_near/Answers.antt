use Rattle.std.proofs.Common.{sym, ◌∙◌}
use Rattle.cw_wcheck.proofs.Near.{into_there}
use Rattle.cw_wcheck.proofs.ways.into_near.Goals as goal

pub returns-in-Some : goal.returns-in-Some
returns-in-Some c =
    into_there c.args.cert.now c.fact_lists_ascend.ensures.ascend c.args.seam.0 c.args.split c.args.mem.0 c.args.near c.in-Some.row
    (sym c.into_row.ensures ∙ c.in-Some.is) (sym c.is_into.ensures ∙ c.if-is_into.true)
