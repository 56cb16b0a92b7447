use Rattle.std.proofs.Common.{◌/◌, ◌*◌, ◌^◌}
use Rattle.std.proofs.lemmas.Nat.{and_mask}
use Rattle.cw_core.proofs.line.byte_of.Goals as goal

pub returns : goal.returns
returns c = record { value = and_mask (c.args.limb / 2 ^ (8 * c.args.index)) 8 }
