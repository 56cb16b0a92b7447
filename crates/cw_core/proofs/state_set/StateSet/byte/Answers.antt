use Rattle.std.proofs.Common.{◌∙◌, sym, ◌/◌, ◌%◌, ◌*◌, ◌^◌, get_or}
use Rattle.std.proofs.lemmas.Nat.{and_mask}
use Rattle.cw_core.proofs.Nibbles.{byte_is}
use Rattle.cw_core.proofs.state_set.StateSet.byte.Goals as goal

pub returns : goal.returns
returns c = record {
  value = rw (← c.self.view_is) (and_mask (get_or c.self.inside.limbs (c.args.index / 8) 0 / 2 ^ (8 * (c.args.index % 8))) 8 ∙ sym (byte_is c.self.inside.limbs c.args.index c.self.invariant.0));
}
