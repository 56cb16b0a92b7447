use Rattle.std.proofs.Common.{◌≡◌, ◌++◌, map, drop}
use Rattle.cw_syntax.specs.Trees.{statements_of}
use Rattle.cw_value.specs.Deeds.{said_all}
use Rattle.cw_slots.specs.Texts.{statement_at}
use Rattle.cw_slots.proofs.statements.+said.Given as goal

abbrev pub invariant-put_statements-loop-statement : goal.invariant-put_statements-loop-statement
invariant-put_statements-loop-statement l =
    map statement_at l.out.items ++ said_all (statements_of (drop l.statement-index l.statements)) ≡ map statement_at l.initial.out.items ++ said_all (statements_of l.statements)
