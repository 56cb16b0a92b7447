use Rattle.std.proofs.Common.{sym, ◌∙◌}
use Rattle.cw_wcheck.proofs.Near.{back_there}
use Rattle.cw_wcheck.proofs.ways.back_near.Goals as goal

pub returns-in-Some : goal.returns-in-Some
returns-in-Some c =
    back_there c.args.cert.now c.fact_lists_ascend.ensures.ascend c.args.seam.0 c.args.split c.args.mem.0 c.args.exit.0 c.args.near c.in-Some.row
    (sym c.back_row.ensures ∙ c.in-Some.is) (sym c.is_back.ensures ∙ c.if-is_back.true)
