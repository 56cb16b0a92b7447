use Rattle.std.proofs.Common.{refl}
use Rattle.cw_links.proofs.Bits.{length-flags_of}
use Rattle.cw_links.proofs.flags.Flags.len.Goals as goal

pub returns-clause-value : goal.returns-clause-value
returns-clause-value c = rw (← c.self.view_is, length-flags_of) refl
