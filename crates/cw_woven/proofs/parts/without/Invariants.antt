use Rattle.std.proofs.Common.{◌≡◌, ◌++◌, map, drop}
use Rattle.cw_woven.specs.Parts.{without}
use Rattle.cw_woven.specs.Held.{insertion_of}
use Rattle.cw_woven.proofs.parts.without.Given as goal

abbrev pub invariant-loop-insertion : goal.invariant-loop-insertion
invariant-loop-insertion l = record {
  whole : l.source.items ++ without (map insertion_of (drop l.insertion-index l.insertions)) l.left ≡ without (map insertion_of l.insertions) l.left;
}
