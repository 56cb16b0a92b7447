use Rattle.std.proofs.Common.{map, refl}
use Rattle.std.specs.List.{flat_map}
use Rattle.cw_value.specs.Machines.{declared_by, names_of}
use Rattle.cw_scope.proofs.Pushed.{further, all_gone}
use Rattle.cw_slots.specs.Texts.{of_shape, statement_at}
use Rattle.cw_slots.proofs.Sorts.{names_both}
use Rattle.cw_slots.proofs.declared.put_statements.Goals as goal

pub loop-statement-preserved : goal.loop-statement-preserved
loop-statement-preserved c =
    let s = c.args.source.now in
    let shape = of_shape c.args.arrays in
    let x = c.statement-item.result in
    further (λ l. names_of s shape (flat_map declared_by (map statement_at l))) c.args.statements.now c.loop-statement.statement-index x _ _
    (names_of s shape (declared_by (statement_at x))) _ c.loop-statement-test.true c.statement-item.is
    (λ ys. names_both s shape (declared_by (statement_at x)) (flat_map declared_by (map statement_at ys))) c.in_ok-put_statement.ensures c.loop-statement.invariant

pub returns : goal.returns
returns c =
    let s = c.args.source.now in
    let shape = of_shape c.args.arrays in
    all_gone (λ l. names_of s shape (flat_map declared_by (map statement_at l))) c.args.statements.now c.loop-statement.statement-index _ _ refl c.loop-statement-test.false c.loop-statement.invariant
