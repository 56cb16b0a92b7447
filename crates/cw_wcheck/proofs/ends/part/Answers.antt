-- What stands beside both indices tells that the rows of the position are those between.
use Rattle.std.proofs.Common.{sym, ◌∙◌}
use Rattle.cw_wcheck.proofs.Parts.{part_is}
use Rattle.cw_wcheck.proofs.ends.part.Goals as goal

pub returns-then-ends : goal.returns-then-ends
returns-then-ends c =
    part_is c.args.rows.now c.requires.ascend c.args.pos.0 c.args.first c.args.last (sym c.parts_at-begins.ensures ∙ c.if-begins.true) (sym c.parts_at-ends.ensures ∙ c.if-ends.true)
