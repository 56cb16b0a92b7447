-- Steps as text.
use Rattle.std.specs.Prelude.{◌≡◌, ℕ, ◌^◌, ◌<◌, List, [], ◌∷◌, Bool, true, false, codes}
use Rattle.std.specs.Fmt.{decimal}
use Rattle.std.specs.List.{All}
use Rattle.cw_certs.specs.declared.moves.Move.{Move}
use Rattle.cw_certs.specs.declared.moves.Move.TheVariants.{On}
use Rattle.cw_text.specs.Moves.{move_name, IsEnvironments}
use Rattle.cw_text_lines.specs.Lines.{whole_lines}
use Rattle.cw_steps.specs.declared.step.Step.{Step}

-- `fork`, or the name of a move
abbrev pub act_field : (fork : Bool) → Move → List ℕ
act_field true by = codes "fork"
act_field false by = move_name by

-- A fork has the move On; any other step has one of the environment's seven.
abbrev pub FitsAct : (fork : Bool) → Move → Type 0
FitsAct true by = by ≡ On
FitsAct false by = IsEnvironments by

-- `PROCESS MOVE`
abbrev pub step_fields : Step → List (List ℕ)
step_fields s = decimal s.process ∷ act_field s.fork s.by ∷ []

-- a step that can be spelled: its process has 32 bits, and its move is On at a fork, else one of the environment's
pub record FitsStep (s : Step) : Type 0 where
  pub process : s.process < 2 ^ 32
  pub act : FitsAct s.fork s.by

-- a line for each step
abbrev pub steps_text : List Step → List ℕ
steps_text steps = whole_lines step_fields steps

-- the text is that of these steps
pub record Spells (text : List ℕ) (steps : List Step) : Type 0 where
  pub fits : All FitsStep steps
  pub spelled : text ≡ steps_text steps
