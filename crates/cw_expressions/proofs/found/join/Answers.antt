use Rattle.std.proofs.Common.{refl}
use Rattle.cw_grammar.proofs.TreeRows.{tree_of_roll}
use Rattle.cw_expressions.proofs.found.join.Goals as goal

pub returns : goal.returns
returns c = rw (tree_of_roll, c.max.ensures, c.in_ok-parts.ensures.items) refl
