-- A run with one step more at its end.
use Rattle.std.proofs.Common.{◌≡◌, List, [], ◌∷◌, ◌++◌, refl, sym, ap, ◌∙◌, append_assoc, append-nil}
use Rattle.cw_certs.specs.Tables.{Table}
use Rattle.cw_model.specs.Boards.{Problem, Board, turn_of}
use Rattle.cw_model.specs.Runs.{State, WovenStep}
use Rattle.cw_trace.specs.Traces.{Names, Taken, step_lines, lines_from, board_after}
use Rattle.cw_trace.specs.Steps.{Step, Follows, state_after, entry_by, entries_of}

pub lines_grown : (names : Names) (p : Problem) (b : Board) (before : List Taken) (last : Taken)
    → lines_from names p b (before ++ last ∷ []) ≡ lines_from names p b before ++ step_lines names p (board_after b before) last.by last.next
lines_grown names p b [] last = append-nil (step_lines names p b last.by last.next)
lines_grown names p b (one ∷ before) last =
    ap (λ l. step_lines names p b one.by one.next ++ l) (lines_grown names p one.next before last)
    ∙ sym (append_assoc (step_lines names p b one.by one.next) (lines_from names p one.next before) (step_lines names p (board_after one.next before) last.by last.next))

pub board_grown : (b : Board) (before : List Taken) (last : Taken) → board_after b (before ++ last ∷ []) ≡ last.next
board_grown b [] last = refl
board_grown b (one ∷ before) last = board_grown one.next before last

module _ (p : Problem) (t : Table) where
  pub follows_grown : (s : State) (before : List Step) (last : Step) → Follows p t s before → WovenStep p t (state_after s before) last.by last.next → Follows p t s (before ++ last ∷ [])
  follows_grown s [] last h k = (k, tt)
  follows_grown s (one ∷ before) last h k = (h.0, follows_grown one.next before last h.1 k)

pub state_grown : (s : State) (before : List Step) (last : Step) → state_after s (before ++ last ∷ []) ≡ last.next
state_grown s [] last = refl
state_grown s (one ∷ before) last = state_grown one.next before last

pub entries_grown : (s : State) (before : List Step) (last : Step)
    → entries_of s (before ++ last ∷ []) ≡ entries_of s before ++ entry_by (turn_of (state_after s before).board.phase) last.by
entries_grown s [] last = append-nil (entry_by (turn_of s.board.phase) last.by)
entries_grown s (one ∷ before) last =
    ap (λ l. entry_by (turn_of s.board.phase) one.by ++ l) (entries_grown one.next before last)
    ∙ sym (append_assoc (entry_by (turn_of s.board.phase) one.by) (entries_of one.next before) (entry_by (turn_of (state_after one.next before).board.phase) last.by))
