use Rattle.std.proofs.Common.{refl}
use Rattle.cw_links.proofs.Bits.{length-flags_of}
use Rattle.cw_links.proofs.flags.Flags.is_empty.Goals as goal

pub returns : goal.returns
returns c = rw (← c.self.view_is, length-flags_of) refl
