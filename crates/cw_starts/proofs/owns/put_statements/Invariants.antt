use Rattle.std.proofs.Common.{◌≡◌, ◌++◌, map, drop}
use Rattle.std.specs.List.{flat_map}
use Rattle.cw_value.specs.Starts.{owns_by}
use Rattle.cw_slots.specs.Texts.{statement_at}
use Rattle.cw_starts.specs.Owning.{own_in}
use Rattle.cw_starts.proofs.owns.put_statements.Given as goal

abbrev pub invariant-loop-statement : goal.invariant-loop-statement
invariant-loop-statement l = map own_in l.out.items ++ flat_map owns_by (map statement_at (drop l.statement-index l.statements)) ≡ map own_in l.initial.out.items
    ++ flat_map owns_by (map statement_at l.statements)
