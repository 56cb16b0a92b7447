-- What a world tells: the lines of each process, behind its number and a blank, and a line for each fork.
use Rattle.std.specs.Prelude.{ℕ, List, [], ◌∷◌, ◌++◌, Option, Some, option_map, slice_get, length, codes}
use Rattle.std.specs.Fmt.{decimal}
use Rattle.cw_certs.specs.declared.moves.Move.{Move}
use Rattle.cw_model.specs.Boards.{Problem, Board}
use Rattle.cw_trace.specs.Traces.{Names, move_lines, reached_lines}
use Rattle.cw_run.specs.Lines.{own_of}
use Rattle.cw_worlds.specs.Worlds.{World, Act, Makes, Forks, Step}

abbrev pub board_in : World → ℕ → Option Board
board_in w i = option_map (λ s. s.board) (slice_get w i)

-- `PROCESS fork CHILD`
abbrev pub fork_line : (process child : ℕ) → List ℕ
fork_line process child = decimal process ++ (codes " fork " ++ (decimal child ++ codes "\n"))

-- what was done by a move of this process, and the label that is reached by it
abbrev pub process_lines : Names → Problem → ℕ → Option Board → Move → Option Board → List ℕ
process_lines names p i (Some b) by (Some next) = own_of (Some i) (move_lines names p b b.phase by) ++ own_of (Some i) (reached_lines names p.policy next next.phase)
process_lines names p i _ by _ = []

-- A fork has its own line alone: it reaches no label, since a label's primitives are passed before it is reached.
abbrev pub told : Names → Problem → World → ℕ → Act → World → List ℕ
told names p w i (Makes by) next = process_lines names p i (board_in w i) by (board_in next i)
told names p w i Forks next = fork_line i (length w)

-- the trace of these steps of a world
abbrev pub world_trace : Names → Problem → World → List Step → List ℕ
world_trace names p w [] = []
world_trace names p w (s ∷ later) = told names p w s.process s.act s.next ++ world_trace names p s.next later
