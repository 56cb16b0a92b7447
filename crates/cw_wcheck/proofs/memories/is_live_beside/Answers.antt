use Rattle.std.proofs.Common.{sym, ◌∙◌}
use Rattle.cw_wcheck.proofs.Near.{live_there}
use Rattle.cw_wcheck.proofs.memories.is_live_beside.Goals as goal

pub returns-then-stands_at : goal.returns-then-stands_at
returns-then-stands_at c = c.if-stands_at.true ∙ sym (live_there c.args.cert.now c.row_near-index.result c.args.pos.0 c.args.mem.0 (sym c.stands_at.ensures ∙ c.if-stands_at.true))
