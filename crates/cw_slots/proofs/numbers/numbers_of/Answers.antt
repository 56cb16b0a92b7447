use Rattle.cw_slots.proofs.Numbered.{have_names}
use Rattle.cw_slots.proofs.numbers.numbers_of.Goals as goal

pub returns : goal.returns
returns c =
    have_names c.new-numbers.result.entries c.put_all.new.numbers.entries c.put_all-2.new.numbers.entries c.args.plain.now c.args.arrays.now
    c.new-numbers.ensures.empty c.in_ok-put_all.ensures c.in_ok-put_all-2.ensures
