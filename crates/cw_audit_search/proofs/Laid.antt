-- What is asked of a game, of the game of a program.
use Rattle.std.proofs.Common.{◌≡◌, ℕ, ◌+◌, ◌<◌, List, [], ◌∷◌, true, false, Option, Some, sym, ap, ◌∙◌, subst, inl, inr}
use Rattle.std.specs.Prelude.{slice_get}
use Rattle.cw_lemmas.proofs.Truths.{not_both}
use Rattle.cw_rights.specs.declared.capabilities.Caps.{Caps}
use Rattle.cw_rights.specs.declared.capabilities.Primitive.{Primitive}
use Rattle.cw_rights.specs.Words.{Word}
use Rattle.cw_rights.specs.Policies.{primitives}
use Rattle.cw_certs.specs.declared.moves.Move.{Move}
use Rattle.cw_syntax.specs.Plans.{Stms, end, then, Routine}
use Rattle.cw_syntax.specs.Frames.{End, Frame, items_of}
use Rattle.cw_model.specs.Boards.{Problem, Phase, Visit, Free, Over}
use Rattle.cw_game.specs.declared.spots.Spot.TheVariants.{Step, Exit}
use Rattle.cw_game.specs.Games.{Game, Ret, Config, bad_in, weavers_in}
use Rattle.cw_game.specs.Places.{Visits, AtIn}
use Rattle.cw_game.specs.Reached.{Reached}
use Rattle.cw_game.specs.Standing.{Meaning, IsGameOf, StandsOn, standing}
use Rattle.cw_game.proofs.Fronts.{Front, front_of, is_step, is_branch, is_label, is_open, is_close, is_call, is_end}
use Rattle.cw_audit_table.specs.Runs.{skipped, Goes, start_at}
use Rattle.cw_audit_table.specs.Plays.{IsUnasked}
use Rattle.cw_audit_table.specs.Conditions.{is_free}
use Rattle.cw_audit_table.proofs.Skips.{stays, skip_on}
use Rattle.cw_audit_table.proofs.Plays.{goes_played, nothing_is_asked}
use Rattle.cw_audit_search.specs.Sound.{IsFunction}

module _ (p : Problem) (g : Game) (game : IsGameOf p g) where
  pub start_below : g.states.start < g.states.count
  start_below = game.states.within g.states.start [] _ game.states.begins

  routine : (f : ℕ) → IsFunction g f → (r : Routine) × (slice_get p.plan.routines f ≡ Some r)
  routine f h = elim h [
    | inl e ↦ subst (λ f. (r : Routine) × (slice_get p.plan.routines f ≡ Some r)) (sym e) game.routines.main
    | inr c ↦ game.routines.called c.0 c.1 f c.2 (inl c.3)
  ]

  -- a visit leads to its free position
  visits_skipped : (j i : ℕ) (later : List Primitive) (n z : ℕ) → Visits g.spots j i later n z → skipped g n ≡ skipped g z
  visits_skipped j i [] n z h = ap (skipped g) h
  visits_skipped j i (a ∷ later) n z h = sym (skip_on g n (ap weavers_in h.0)) ∙ visits_skipped j _ later (n + 2) z h.3

  -- a function begins at a step, behind the skips
  pub entry_steps : (f : ℕ) → IsFunction g f → (m : ℕ) × (slice_get g.spots (skipped g (g.entry f)) ≡ Some (Step m))
  entry_steps f h =
      let r = routine f h in
      let at = (game.laid.functions f r.0 r.1).2 in
      let z = at.0 in
      let s = at.2 in
      let there = visits_skipped r.0.seam 0 (primitives g.policy false) (g.entry f) z at.1 ∙ stays g z (ap weavers_in s.1) in
      (s.0, ap (slice_get g.spots) there ∙ s.1)

  pub entry_good : (f q : ℕ) → IsFunction g f → bad_in g q (slice_get g.spots (skipped g (g.entry f))) ≡ false
  entry_good f q h = let s = entry_steps f h in ap (bad_in g q) s.1

  -- it ends at an exit
  last_at : (x f : ℕ) (ss : Stms) (b c : Option ℕ) (n : ℕ) → AtIn g.spots g.policy x b c (items_of ss (End f ∷ [])) n → slice_get g.spots x ≡ Some (Exit f)
  last_at x f end b c n h = h.3
  last_at x f (then s ss) b c n h = last_at x f ss b c h.0 h.2

  pub exit_ends : (f : ℕ) → IsFunction g f → (k : ℕ) × (slice_get g.spots (g.exit f) ≡ Some (Exit k))
  exit_ends f h =
      let r = routine f h in
      let at = game.laid.functions f r.0 r.1 in
      (f, last_at (g.exit f) f r.0.body at.0 at.1 at.2.2.0 at.2.2.2)

  -- what stands at a front
  front_free : (x n : ℕ) (frame : Frame) → Front g.spots g.policy x n frame → is_free (slice_get g.spots n) ≡ true
  front_free x n _ (is_step raw quiet ways es a) = ap is_free es
  front_free x n _ (is_branch left right quiet ways es a b) = ap is_free es
  front_free x n _ (is_label es a) = ap is_free es
  front_free x n _ (is_open lt es a) = ap is_free es
  front_free x n _ (is_close lt es a) = ap is_free es
  front_free x n _ (is_call es a) = ap is_free es.0
  front_free x n _ (is_end es ep) = ap is_free es

  abbrev Means : Meaning
  Means = Reached g.policy g.spots g.states

  free_on : (stack : List Frame) (kept : List (Option Caps)) (caps : Caps) (word : Word) (phase : Phase) (n q : ℕ) (rets : List Ret) → IsUnasked phase
      → StandsOn Means g stack kept caps word phase n q rets → weavers_in (slice_get g.spots n) ≡ false → is_free (slice_get g.spots n) ≡ true
  free_on [] kept caps word phase n q rets u h rest = absurd h
  free_on (frame ∷ frames) kept caps word (Visit i a later) n q rets u h rest = absurd (not_both (weavers_in (slice_get g.spots n)) (ap weavers_in h.1.0.4.0) rest)
  free_on (frame ∷ frames) kept caps word Free n q rets u h rest =
      let w = h.1 in front_free (g.exit h.0) n frame (front_of g.spots g.policy (g.exit h.0) frame n w.0 w.2)
  free_on (frame ∷ frames) kept caps word Over n q rets u h rest = absurd h.1
  free_on (frame ∷ frames) kept caps word _ n q rets u h rest = absurd u

  standing_unasked : (stack : List Frame) (kept : List (Option Caps)) (caps : Caps) (word : Word) (phase : Phase) (n q : ℕ) (rets : List Ret) → IsUnasked phase
      → StandsOn Means g stack kept caps word (standing phase) n q rets → StandsOn Means g stack kept caps word phase n q rets
  standing_unasked stack kept caps word (Visit i a later) n q rets u h = h
  standing_unasked stack kept caps word Free n q rets u h = h
  standing_unasked stack kept caps word Over n q rets u h = h
  standing_unasked stack kept caps word _ n q rets u h = absurd u

  -- where a run rests nothing is tried, asked or split
  pub rests_free : (ms : List Move) (c : Config) → Goes g (start_at g) ms c → weavers_in (slice_get g.spots c.pos) ≡ false → is_free (slice_get g.spots c.pos) ≡ true
  rests_free ms c h rest =
      let z = goes_played p g game ms c h in
      let b = z.0 in
      let u = nothing_is_asked p ms b z.1 in
      free_on b.stack b.kept b.caps b.word b.phase c.pos c.state c.rets u (standing_unasked b.stack b.kept b.caps b.word b.phase c.pos c.state c.rets u z.2) rest
