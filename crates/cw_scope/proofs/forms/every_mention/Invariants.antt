use Rattle.std.proofs.Common.{◌≡◌, ◌++◌, map, drop}
use Rattle.std.specs.List.{flat_map}
use Rattle.cw_syntax.specs.Trees.{file_of}
use Rattle.cw_scope.specs.Rules.{wrong_form}
use Rattle.cw_resolve.specs.Soonest.{sooner, soonest}
use Rattle.cw_scope.specs.Mentions.{names_at, calls_at}
use Rattle.cw_scope.specs.Held.{whole_of, tree_at}
use Rattle.cw_scope.proofs.forms.every_mention.Given as goal

abbrev pub invariant-loop-whole : goal.invariant-loop-whole
invariant-loop-whole l = record {
  names : l.names.items ++ flat_map (λ w. names_at w.tree) (map whole_of (drop l.whole-index l.wholes)) ≡ flat_map (λ w. names_at w.tree) (map whole_of l.wholes);
  calls : map tree_at l.calls.items ++ flat_map (λ w. calls_at w.tree) (map whole_of (drop l.whole-index l.wholes)) ≡ flat_map (λ w. calls_at w.tree) (map whole_of l.wholes);
  place : sooner l.misformed (soonest (map (wrong_form l.known.source.now (file_of l.known.program.now)) (map whole_of (drop l.whole-index l.wholes))))
      ≡ soonest (map (wrong_form l.known.source.now (file_of l.known.program.now)) (map whole_of l.wholes));
}
