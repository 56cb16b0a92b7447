-- The processes of the program's data, and the states of a world, side by side.
use Rattle.std.proofs.Common.{◌≡◌, ℕ, zero, suc, List, [], ◌∷◌, ◌++◌, set, length, false, Option, Some, None, refl, sym, ap, subst}
use Rattle.std.specs.Prelude.{slice_get}
use Rattle.std.proofs.lemmas.Option.{none-some, same_Some}
use Rattle.cw_syntax.specs.Plans.{Plan}
use Rattle.cw_model.specs.Boards.{Phase, Over, Visit, Refused, Environment, turn_of}
use Rattle.cw_model.specs.Runs.{State}
use Rattle.cw_game.specs.Games.{AreStates, Game, weavers_in}
use Rattle.cw_game.specs.Reached.{Reached}
use Rattle.cw_game.specs.Places.{IsLaidOut, HasRoutines}
use Rattle.cw_game.proofs.Link.{environments_turn}
use Rattle.cw_run.specs.Walks.{Here, Wait, config_of}
use Rattle.cw_run.proofs.Sits.{Sits, Least}
use Rattle.cw_worlds.specs.Worlds.{World}
use Rattle.cw_procs.specs.Steps.{is_weavers_in}
use Rattle.cw_procs.specs.Walks.{Link, Stack, AreKept, Process}
use Rattle.cw_procs.proofs.First.{AllRest}

-- The process of this state is at rest at a landing, over these calls; or it is over.
abbrev pub LandingIs : Plan → Game → List Link → State → Option ℕ → Option Here → Type 0
LandingIs plan g links s calls (Some h) = (waits : List Wait) × Stack links calls waits × Sits plan g s h waits × (weavers_in (slice_get g.spots h.pos) ≡ false)
LandingIs plan g links s calls None = s.board.phase ≡ Over

abbrev pub AllAre : Plan → Game → List Link → List Process → World → Type 0
AllAre plan g links [] [] = Unit {0}
AllAre plan g links (p ∷ ps) (s ∷ w) = LandingIs plan g links s p.calls p.landing × AllAre plan g links ps w
AllAre plan g links _ _ = ⊥

module _ (plan : Plan) (g : Game) where
  abbrev Are : List Link → List Process → World → Type 0
  Are links ps w = AllAre plan g links ps w

  pub are_get : (links : List Link) (ps : List Process) (w : World) (i : ℕ) (p : Process) → Are links ps w → slice_get ps i ≡ Some p
      → (s : State) × (slice_get w i ≡ Some s) × LandingIs plan g links s p.calls p.landing
  are_get links [] w i p a e = absurd (none-some p e)
  are_get links (q ∷ ps) [] i p a e = absurd a
  are_get links (q ∷ ps) (s ∷ w) zero p a e = (s, refl, subst (λ (z : Process). LandingIs plan g links s z.calls z.landing) (same_Some q p e) a.0)
  are_get links (q ∷ ps) (s ∷ w) (suc i) p a e = are_get links ps w i p a.1 e

  pub are_absent : (links : List Link) (ps : List Process) (w : World) (i : ℕ) → Are links ps w → slice_get ps i ≡ None → slice_get w i ≡ None
  are_absent links [] [] i a e = refl
  are_absent links [] (s ∷ w) i a e = absurd a
  are_absent links (q ∷ ps) [] i a e = absurd a
  are_absent links (q ∷ ps) (s ∷ w) zero a e = absurd (none-some q (sym e))
  are_absent links (q ∷ ps) (s ∷ w) (suc i) a e = are_absent links ps w i a.1 e

  pub are_set : (links : List Link) (ps : List Process) (w : World) (i : ℕ) (p : Process) (s : State) → Are links ps w → LandingIs plan g links s p.calls p.landing → Are links (set ps i p) (set w i s)
  are_set links [] [] i p s a h = tt
  are_set links [] (x ∷ w) i p s a h = absurd a
  are_set links (q ∷ ps) [] i p s a h = absurd a
  are_set links (q ∷ ps) (x ∷ w) zero p s a h = (h, a.1)
  are_set links (q ∷ ps) (x ∷ w) (suc i) p s a h = (a.0, are_set links ps w i p s a.1 h)

  pub are_push : (links : List Link) (ps : List Process) (w : World) (p : Process) (s : State) → Are links ps w → LandingIs plan g links s p.calls p.landing → Are links (ps ++ p ∷ []) (w ++ s ∷ [])
  are_push links [] [] p s a h = (h, tt)
  are_push links [] (x ∷ w) p s a h = absurd a
  are_push links (q ∷ ps) [] p s a h = absurd a
  are_push links (q ∷ ps) (x ∷ w) p s a h = (a.0, are_push links ps w p s a.1 h)

  pub landing_kept : (links more : List Link) (s : State) (calls : Option ℕ) (landing : Option Here) → AreKept links more
      → LandingIs plan g links s calls landing → LandingIs plan g more s calls landing
  landing_kept links more s calls (Some h) kept (waits, stack, sits, env) = (waits, kept calls waits stack, sits, env)
  landing_kept links more s calls None kept e = e

  pub are_kept : (links more : List Link) (ps : List Process) (w : World) → AreKept links more → Are links ps w → Are more ps w
  are_kept links more [] [] kept a = tt
  are_kept links more [] (s ∷ w) kept a = absurd a
  are_kept links more (q ∷ ps) [] kept a = absurd a
  are_kept links more (q ∷ ps) (s ∷ w) kept a = (landing_kept links more s q.calls q.landing kept a.0, are_kept links more ps w kept a.1)

  pub are_length : (links : List Link) (ps : List Process) (w : World) → Are links ps w → length ps ≡ length w
  are_length links [] [] a = refl
  are_length links [] (s ∷ w) a = absurd a
  are_length links (q ∷ ps) [] a = absurd a
  are_length links (q ∷ ps) (s ∷ w) a = ap suc (are_length links ps w a.1)

quiet_turn : (phase : Phase) → turn_of phase ≡ Some Environment → is_weavers_in phase ≡ false
quiet_turn (Visit i a later) e = let k = same_Some _ _ e in cc
quiet_turn (Refused i a later) e = let k = same_Some _ _ e in cc
quiet_turn _ e = refl

module _ (plan : Plan) (g : Game) (right : AreStates g.policy g.spots g.states (Reached g.policy g.spots g.states)) (laid : IsLaidOut plan g) (has : HasRoutines plan g) where
  -- at rest it is the environment's turn
  pub turn_at : (s : State) (h : Here) (waits : List Wait) → Sits plan g s h waits → weavers_in (slice_get g.spots h.pos) ≡ false → turn_of s.board.phase ≡ Some Environment
  turn_at s h waits sits env = environments_turn (Least g) g plan right laid has s.board (config_of h waits) sits.stands env

  pub landing_rest : (links : List Link) (s : State) (calls : Option ℕ) (landing : Option Here) → LandingIs plan g links s calls landing → is_weavers_in s.board.phase ≡ false
  landing_rest links s calls (Some h) (waits, stack, sits, env) = quiet_turn s.board.phase (turn_at s h waits sits env)
  landing_rest links s calls None e = ap is_weavers_in e

  pub are_rest : (links : List Link) (ps : List Process) (w : World) → AllAre plan g links ps w → AllRest w
  are_rest links [] [] a k z e = absurd (none-some z e)
  are_rest links [] (s ∷ w) a k z e = absurd a
  are_rest links (q ∷ ps) [] a k z e = absurd a
  are_rest links (q ∷ ps) (s ∷ w) a zero z e =
      subst (λ (y : State). is_weavers_in y.board.phase ≡ false) (same_Some s z e) (landing_rest links s q.calls q.landing a.0)
  are_rest links (q ∷ ps) (s ∷ w) a (suc k) z e = are_rest links ps w a.1 k z e
