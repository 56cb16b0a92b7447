-- Working definitions: what the program holds of a file's lists, and what it stands for.
use Rattle.std.specs.Prelude.{List, ◌++◌}
use Rattle.std.specs.Option.{option_map}
use Rattle.std.specs.Borrow.{Bor}
use Rattle.cw_syntax.specs.declared.program.Expr.{Expr}
use Rattle.cw_syntax.specs.Trees.{Tree, tree_of, statement_of, perhaps_of}
use Rattle.cw_scope.specs.declared.walks.Nested.{Nested as HeldNested}
use Rattle.cw_scope.specs.declared.walks.Whole.{Whole as HeldWhole}
use Rattle.cw_syntax.specs.declared.program.Head.{Head, out-Head}
use Rattle.cw_scope.specs.declared.entries.Entry.{Entry as HeldEntry}
use Rattle.cw_scope.specs.Walks.{Nested, Whole, given, init_trees}
use Rattle.cw_scope.specs.Descriptors.{Entry}

abbrev pub nested_of : HeldNested → Nested
nested_of p = record { statement = statement_of p.statement.now; looped = p.looped }

abbrev pub whole_of : HeldWhole → Whole
whole_of w = record { tree = tree_of w.tree.now; stands = w.stands }

-- a name declared at file scope
abbrev pub entry_of : HeldEntry → Entry
entry_of e = record { name = e.name; fits = e.fits }

abbrev pub tree_at : Bor Expr → Tree
tree_at e = tree_of e.now

-- the expressions of a `for` between its parentheses
abbrev pub head_trees : Head → List Tree
head_trees h =
    let o = out-Head h in
    init_trees (perhaps_of o.init) ++ given (option_map tree_of o.test) ++ given (option_map tree_of o.step)
