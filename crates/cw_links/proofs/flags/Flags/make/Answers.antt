use Rattle.cw_links.proofs.Bits.{nothing_kept, flags_of_none}
use Rattle.cw_links.proofs.flags.Flags.make.Goals as goal

pub invariant_of-result : goal.invariant_of-result
invariant_of-result c = rw (c.new.ensures.items, c.new-2.ensures.items) nothing_kept

pub returns : goal.returns
returns c = record { empty = flags_of_none c.new.result.items }
