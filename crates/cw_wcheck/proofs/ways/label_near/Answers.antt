use Rattle.std.proofs.Common.{sym, ◌∙◌}
use Rattle.cw_wcheck.proofs.Near.{label_there}
use Rattle.cw_wcheck.proofs.ways.label_near.Goals as goal

pub returns-in-Some : goal.returns-in-Some
returns-in-Some c =
    label_there c.args.cert.now c.fact_lists_ascend.ensures.ascend c.args.seam.0 c.args.mem.0 c.args.near c.in-Some.row
    (sym c.label_row.ensures ∙ c.in-Some.is) (sym c.is_at.ensures ∙ c.if-is_at.true)
