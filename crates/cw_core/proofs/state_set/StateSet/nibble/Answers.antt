use Rattle.std.proofs.Common.{◌∙◌, sym, ◌/◌, ◌%◌, ◌*◌, ◌^◌, get_or}
use Rattle.std.proofs.lemmas.Nat.{and_mask}
use Rattle.cw_core.proofs.Nibbles.{nibble_is}
use Rattle.cw_core.proofs.state_set.StateSet.nibble.Goals as goal

pub returns-clause-value : goal.returns-clause-value
returns-clause-value c =
    rw (← c.self.view_is) (and_mask (get_or c.self.inside.limbs (c.args.index / 16) 0 / 2 ^ (4 * (c.args.index % 16))) 4 ∙ sym (nibble_is c.self.inside.limbs c.args.index c.self.invariant.0))
