use Rattle.std.proofs.Common.{◌≡◌, length}
use Rattle.cw_expressions.specs.Cursor.{begins}
use Rattle.cw_grammar.specs.declared.terminals.Terminal.TheVariants.{Comma}
use Rattle.cw_parse.specs.Lists.{many, behind}
use Rattle.cw_parse.specs.DeclarationReading.{item}
use Rattle.cw_parse.specs.DeclarationView.{specifiers_of, items}
use Rattle.cw_parse.proofs.declarations.items_after.Given as goal

abbrev pub invariant-items : goal.invariant-items
invariant-items l = many (behind (item (specifiers_of l.specifiers))) (begins Comma) (items l.so_far) ≡ many (behind (item (specifiers_of l.specifiers))) (begins Comma) (items l.fn.first)

abbrev pub decreases-items : goal.decreases-items
decreases-items l = length l.so_far.1.now
