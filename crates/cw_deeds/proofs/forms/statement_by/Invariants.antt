use Rattle.std.proofs.Common.{◌≡◌, drop, find, map}
use Rattle.cw_value.specs.Deeds.{begins_at}
use Rattle.cw_slots.specs.Texts.{statement_at}
use Rattle.cw_deeds.proofs.forms.statement_by.Given as goal

abbrev pub invariant-loop-statement : goal.invariant-loop-statement
invariant-loop-statement l = find (begins_at l.at) (map statement_at (drop l.statement-index l.said)) ≡ find (begins_at l.at) (map statement_at l.said)
