use Rattle.std.proofs.Common.{sym}
use Rattle.cw_text.proofs.Cuts.{done_exactly}
use Rattle.cw_text.proofs.fields.Fields.is_done.Goals as goal

pub returns : goal.returns
returns c = record { done = done_exactly c.self.inside.separator c.self.inside.text.now c.self.inside.more c.args.self.now (sym c.self.view_is) }
