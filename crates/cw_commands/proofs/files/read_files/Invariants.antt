use Rattle.std.proofs.Common.{◌≡◌, ℕ, ◌≤◌, List, [], map, take}
use Rattle.cw_commands.specs.Files.{HaveBytes}
use Rattle.cw_commands.proofs.files.read_files.Given as goal

abbrev pub invariant-loop-index : goal.invariant-loop-index
invariant-loop-index g l = record {
  same : g.F.Shelf.files l.shelf ≡ g.F.Shelf.files l.initial.shelf;
  later : (other : List ℕ) → g.F.Shelf.faults l.initial.shelf other ≤ g.F.Shelf.faults l.shelf other;
  read : HaveBytes (g.F.Shelf.files l.initial.shelf) [] (take l.index l.quantities) (take l.index (map (λ name. name.now) l.names)) (map (λ file. file.items) l.files.items);
}
