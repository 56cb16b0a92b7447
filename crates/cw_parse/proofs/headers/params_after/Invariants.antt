use Rattle.std.proofs.Common.{◌≡◌, length}
use Rattle.cw_expressions.specs.Cursor.{begins}
use Rattle.cw_grammar.specs.declared.terminals.Terminal.TheVariants.{Comma}
use Rattle.cw_parse.specs.Lists.{many, behind}
use Rattle.cw_parse.specs.DeclarationReading.{param}
use Rattle.cw_parse.specs.DeclarationView.{parameters}
use Rattle.cw_parse.proofs.headers.params_after.Given as goal

abbrev pub invariant-params : goal.invariant-params
invariant-params l = many (behind param) (begins Comma) (parameters l.so_far) ≡ many (behind param) (begins Comma) (parameters l.fn.first)

abbrev pub decreases-params : goal.decreases-params
decreases-params l = length l.so_far.1.now
