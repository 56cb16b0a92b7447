use Rattle.std.proofs.Common.{◌≡◌, ◌+◌, ◌≤◌, drop}
use Rattle.cw_boards.specs.Held.{seams_before}
use Rattle.cw_boards.specs.Numbered.{most_seams, capped}
use Rattle.cw_boards.proofs.seams.seams_before.Given as goal

abbrev pub invariant-loop-f : goal.invariant-loop-f
invariant-loop-f l = record {
  few : l.count ≤ most_seams;
  counted : capped (l.count + seams_before l.scene (drop l.f-index l.functions)) ≡ capped (seams_before l.scene l.functions);
}
