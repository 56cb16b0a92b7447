use Rattle.std.proofs.Common.{◌≡◌, nat_le, map, drop}
use Rattle.std.specs.List.{list_all}
use Rattle.cw_syntax.specs.Trees.{definition_of}
use Rattle.cw_detach.specs.Form.{nesting_all}
use Rattle.cw_resolve.specs.Held.{lists}
use Rattle.cw_detach.proofs.nesting.are_shallow.Given as goal

abbrev pub invariant-loop-function : goal.invariant-loop-function
invariant-loop-function l = list_all (λ f. nat_le (nesting_all l.source (lists l.names) f.body) 64) (map definition_of (drop l.function-index l.functions)) ≡ list_all
    (λ f. nat_le (nesting_all l.source (lists l.names) f.body) 64) (map definition_of l.functions)
