-- Working definitions: what a function of the parser returned, without where it lies in memory.
use Rattle.std.specs.Prelude.{◌≤◌, List, map}
use Rattle.std.specs.Borrow.{Bor}
use Rattle.cw_syntax.specs.declared.program.Expr.{Expr}
use Rattle.cw_grammar.specs.declared.terminals.Lexeme.{Lexeme}
use Rattle.cw_syntax.specs.Trees.{Tree, tree_of}
use Rattle.cw_grammar.specs.declared.rules.Rule.{Rule}
use Rattle.cw_grammar.specs.declared.rules.Rule.TheVariants.{Level}
use Rattle.cw_expressions.specs.declared.found.Found.{Found}
use Rattle.cw_expressions.specs.declared.found.FoundList.{FoundList}
use Rattle.cw_expressions.specs.Reading.{Got, Arguments}

abbrev pub got : Found → Got
got x = record { tree = tree_of x.tree; unary = x.unary; depth = x.depth; from = x.from; to = x.to; rest = x.rest.now }

abbrev pub got_arguments : FoundList → Arguments
got_arguments x = record { list = map tree_of x.list.items; depth = x.depth; rest = x.rest.now }

-- a level that there is
abbrev pub IsInRange : Rule → Type 0
IsInRange (Level l) = l ≤ 10
IsInRange _ = Unit {0}

-- an expression and the tokens after it, as a call answers them
abbrev pub seen : Expr × Bor (List Lexeme) → Tree × List Lexeme
seen x = (tree_of x.0, x.1.now)
