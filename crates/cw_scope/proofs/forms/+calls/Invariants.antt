use Rattle.std.proofs.Common.{◌≡◌, drop}
use Rattle.std.specs.List.{list_any}
use Rattle.cw_syntax.specs.Trees.{trees_of}
use Rattle.cw_scope.specs.Walks.{nodes_in}
use Rattle.cw_scope.specs.Rules.{is_call}
use Rattle.cw_scope.proofs.forms.+calls.Given as goal

abbrev pub invariant-are_calling-loop-e : goal.invariant-are_calling-loop-e
invariant-are_calling-loop-e l = list_any is_call (nodes_in (trees_of (drop l.e-index l.parts))) ≡ list_any is_call (nodes_in (trees_of l.parts))
