use Rattle.std.proofs.Common.{◌≡◌, length}
use Rattle.cw_expressions.specs.Next.{next_expression}
use Rattle.cw_parse.specs.Lists.{many, behind}
use Rattle.cw_parse.specs.DeclarationReading.{more_elements}
use Rattle.cw_parse.specs.DeclarationView.{expressions}
use Rattle.cw_parse.proofs.initialisers.elements_after.Given as goal

abbrev pub invariant-elements : goal.invariant-elements
invariant-elements l = many (behind next_expression) more_elements (expressions l.so_far) ≡ many (behind next_expression) more_elements (expressions l.fn.first)

abbrev pub decreases-elements : goal.decreases-elements
decreases-elements l = length l.so_far.1.now
