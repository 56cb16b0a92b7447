use Rattle.std.proofs.Common.{◌/◌, ◌%◌, get_or, refl}
use Rattle.std.proofs.lemmas.Nat.Bits.{shr_and_one}
use Rattle.cw_core.proofs.Bits.{has-number_of}
use Rattle.cw_core.proofs.state_set.StateSet.contains.Goals as goal

pub returns : goal.returns
returns c = record { member = rw (shr_and_one (get_or c.self.inside.limbs (c.args.s.0 / 64) 0) (c.args.s.0 % 64), ← c.self.view_is, has-number_of c.self.inside.limbs c.args.s.0 c.self.invariant.0) refl }
