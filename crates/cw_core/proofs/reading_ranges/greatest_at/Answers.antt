use Rattle.cw_core.proofs.Readings.{second_number}
use Rattle.cw_core.proofs.reading_ranges.greatest_at.Goals as goal

pub returns-then-text-at-eq45-clause-long : goal.returns-then-text-at-eq45-clause-long
returns-then-text-at-eq45-clause-long c = λ number rest below e stop. c.read_dec.ensures.found number (second_number c.args.text.now c.args.at number rest below e stop)
