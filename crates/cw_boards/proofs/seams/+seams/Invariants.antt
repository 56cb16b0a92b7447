use Rattle.std.proofs.Common.{◌≡◌, ◌+◌, ◌≤◌, drop}
use Rattle.cw_syntax.specs.Plans.{seams_all}
use Rattle.cw_resolve.specs.Scenes.{stms_in}
use Rattle.cw_boards.specs.Numbered.{most_seams, capped}
use Rattle.cw_boards.proofs.seams.+seams.Given as goal

abbrev pub invariant-seams_all-loop-s : goal.invariant-seams_all-loop-s
invariant-seams_all-loop-s l = record {
  few : l.count ≤ most_seams;
  counted : capped (l.count + seams_all (stms_in l.scene (drop l.s-index l.statements))) ≡ capped (seams_all (stms_in l.scene l.statements));
}
