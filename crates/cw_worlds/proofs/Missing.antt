-- Worlds miss no run: at a fork the run is the parent's where it goes right, and the child's where it goes left.
use Rattle.std.proofs.Common.{◌≡◌, ℕ, List, [], ◌∷◌, ◌++◌, set, length, Bool, true, false, Some, refl, sym, ap, ap₂, ◌∙◌, subst, ⊎_elim}
use Rattle.std.specs.Prelude.{slice_get}
use Rattle.std.proofs.lemmas.Option.{same_Some}
use Rattle.cw_lemmas.proofs.Lists.{get_set, get_front, get_last}
use Rattle.cw_certs.specs.declared.moves.Move.{Move}
use Rattle.cw_certs.specs.declared.moves.Move.TheVariants.{Left, Right}
use Rattle.cw_certs.specs.Tables.{Table}
use Rattle.cw_model.specs.Boards.{Problem, Board}
use Rattle.cw_model.specs.Runs.{State, start_state, WovenStep, Goes as RunGoes, last, Sound}
use Rattle.cw_worlds.specs.Forks.{at_fork}
use Rattle.cw_worlds.specs.Worlds.{World, Act, Makes, Forks, WorldStep, Step, Goes, world_after, start_world, IsWorld}
use Rattle.cw_worlds.specs.Laws.{RunsAreProcesses}
use Rattle.cw_worlds.proofs.Meeting.{forked, meets_in_all}

-- a move leads to one state
pub same_step : (p : Problem) (t : Table) (s a b : State) (by : Move) → WovenStep p t s by a → WovenStep p t s by b → a ≡ b
same_step p t s a b by h k =
    ap₂ (λ (z : Board) (ms : List ℕ). record { board = z; mems = ms }) (same_Some a.board b.board (sym h.0.1 ∙ k.0.1)) (same_Some a.mems b.mems (sym h.1 ∙ k.1))

-- One step more of a world.
pub goes_more : (p : Problem) (t : Table) (forks : List ℕ) (w : World) (steps : List Step) (one : Step) → Goes p t forks w steps
    → WorldStep p t forks (world_after w steps) one.process one.act one.next → Goes p t forks w (steps ++ one ∷ [])
goes_more p t forks w [] one g h = (h, tt)
goes_more p t forks w (first ∷ steps) one g h = (g.0, goes_more p t forks first.next steps one g.1 h)

pub world_more : (w : World) (steps : List Step) (one : Step) → world_after w (steps ++ one ∷ []) ≡ one.next
world_more w [] one = refl
world_more w (first ∷ steps) one = world_more first.next steps one

module _ (p : Problem) (t : Table) (forks : List ℕ) (sound : Sound p t) where
  is_more : (w next : World) (i : ℕ) (act : Act) → IsWorld p t forks w → WorldStep p t forks w i act next → IsWorld p t forks next
  is_more w next i act (steps, g, e) h =
      let one : Step = record { process = i; act = act; next = next } in
      (steps ++ one ∷ [], goes_more p t forks (start_world p t) steps one g (subst (λ z. WorldStep p t forks z i act next) (sym e) h), world_more (start_world p t) steps one)

  abbrev IsProcess : State → Type 0
  IsProcess s = (w : World) × (i : ℕ) × IsWorld p t forks w × (slice_get w i ≡ Some s)

  at_away : (s next : State) (by : Move) → WovenStep p t s by next → at_fork forks s.board ≡ false → IsProcess s → IsProcess next
  at_away s next by step away (w, i, is, gets) =
      (set w i next, i, is_more w (set w i next) i (Makes by) is (s, next, gets, away, step, refl), get_set w i s next gets)

  at_branch : (s next : State) (by : Move) → WovenStep p t s by next → at_fork forks s.board ≡ true → IsProcess s → IsProcess next
  at_branch s next by step here (w, i, is, gets) =
      let f = (meets_in_all p t forks sound).forks_on w i s is gets here in
      let w2 = f.0 in
      let parent = f.1.1 in
      let child = f.1.2 in
      let same : f.1.0 ≡ s = same_Some f.1.0 s (sym f.1.3 ∙ gets) in
      let right : WovenStep p t s Right parent = subst (λ z. WovenStep p t z Right parent) same f.1.5 in
      let left : WovenStep p t s Left child = subst (λ z. WovenStep p t z Left child) same f.1.6 in
      let is2 = is_more w w2 i Forks is f.1 in
      let e : w2 ≡ set w i parent ++ child ∷ [] = f.1.7 in
      ⊎_elim
      (λ (r : by ≡ Right).
      let k = same_step p t s parent next Right right (subst (λ m. WovenStep p t s m next) r step) in
      (w2, i, is2, ap (λ l. slice_get l i) e ∙ get_front (set w i parent) (child ∷ []) i parent (get_set w i s parent gets) ∙ ap Some k))
      (λ (r : by ≡ Left).
      let k = same_step p t s child next Left left (subst (λ m. WovenStep p t s m next) r step) in
      (w2, length (set w i parent), is2, ap (λ l. slice_get l (length (set w i parent))) e ∙ get_last (set w i parent) child ∙ ap Some k))
      ((forked p forks s.board here).only by next.board step.0)

  one_step : (s next : State) (by : Move) (here : Bool) → at_fork forks s.board ≡ here → WovenStep p t s by next → IsProcess s → IsProcess next
  one_step s next by true e step is = at_branch s next by step e is
  one_step s next by false e step is = at_away s next by step e is

  along : (s : State) (run : List State) → RunGoes p t s run → IsProcess s → IsProcess (last s run)
  along s [] h is = is
  along s (next ∷ run) h is = along next run h.1 (one_step s next h.0.0 (at_fork forks s.board) refl h.0.1 is)

  begins : IsProcess (start_state p t)
  begins = (start_world p t, 0, ([], tt, refl), refl)

pub runs_are_processes : RunsAreProcesses
runs_are_processes p t forks run sound h = along p t forks sound (start_state p t) run h (begins p t forks sound)
