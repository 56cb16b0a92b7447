-- A play and a run by a tape are told, for a program.
use Rattle.std.proofs.Common.{◌≡◌, ℕ, List, [], ◌++◌, ap, ◌∙◌}
use Rattle.cw_rights.specs.Policies.{PlainPolicy}
use Rattle.cw_syntax.specs.Trees.{File}
use Rattle.cw_syntax.specs.Plans.{plan_of}
use Rattle.cw_resolve.specs.Scenes.{names_of}
use Rattle.cw_certs.specs.declared.moves.Move.{Move}
use Rattle.cw_certs.specs.Strategies.{Strategy}
use Rattle.cw_certs.specs.Tables.{Table}
use Rattle.cw_model.specs.Boards.{problem_of}
use Rattle.cw_game.specs.Games.{Game}
use Rattle.cw_trace.specs.Labels.{names_of as told_names}
use Rattle.cw_trace.specs.Steps.{End, run_trace}
use Rattle.cw_trace.specs.Traces.{Names, trace}
use Rattle.cw_play.specs.declared.end.PlayEnd.{PlayEnd}
use Rattle.cw_play.specs.Played.{IsPlayed}
use Rattle.cw_run.specs.Woven.{Tells}
use Rattle.cw_commands.specs.Outcomes.{Due}
use Rattle.cw_playing.specs.Playing.{IsPlayTold}
use Rattle.cw_playing.specs.Running.{IsRunTold}
use Rattle.cw_playing.specs.Telling.{play_told, run_told}

module _ (source : List ℕ) (whole : PlainPolicy) (file : File) where
  pub play_is_told : (g : Game) (s : Strategy) (tape : List Move) (policy : PlainPolicy) (names : Names) (end : PlayEnd) (old lines : List ℕ) (due : Due)
      → policy ≡ whole → old ≡ [] → names ≡ told_names source file (plan_of (names_of whole) source file)
      → IsPlayed names (problem_of whole source file) g s tape end old lines → due ≡ play_told policy end lines
      → IsPlayTold source whole file g s tape due
  play_is_told g s tape policy names end old lines due same empty named played e = record {
    row = played.row;
    start = played.start;
    end = end;
    steps = played.steps;
    play = played.play;
    due_is =
        e ∙ ap (λ (p : PlainPolicy). play_told p end lines) same
        ∙ ap (play_told whole end) (played.told ∙ ap (λ (o : List ℕ). o ++ trace names (problem_of whole source file) played.steps) empty
        ∙ ap (λ (n : Names). trace n (problem_of whole source file) played.steps) named);
  }

  pub run_is_told : (t : Table) (tape : List Move) (end : End) (old lines : List ℕ) (due : Due)
      → old ≡ [] → Tells (problem_of whole source file) (told_names source file (plan_of (names_of whole) source file)) t tape end old lines → due ≡ run_told end lines
      → IsRunTold source whole file t tape due
  run_is_told t tape end old lines due empty tells e = record {
    end = end;
    steps = tells.steps;
    run = tells.run;
    due_is = e ∙ ap (run_told end) (tells.told ∙ ap (λ (o : List ℕ). o ++ run_trace (told_names source file (plan_of (names_of whole) source file)) (problem_of whole source file) tells.steps) empty);
  }
