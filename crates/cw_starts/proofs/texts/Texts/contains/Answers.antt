use Rattle.std.proofs.Common.{◌∙◌}
use Rattle.cw_starts.proofs.Among.{held}
use Rattle.cw_starts.proofs.texts.Texts.contains.Goals as goal

pub returns : goal.returns
returns c = let t = c.args.text.now in record { among = rw (← c.self.view_is) (c.contains.ensures ∙ held t c.self.inside.set.keys ∙ c.self.invariant t) }
