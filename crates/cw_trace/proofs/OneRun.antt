-- For each tape there is one woven run at most.
use Rattle.std.proofs.Common.{◌≡◌, ℕ, zero, suc, List, [], ◌∷◌, ◌++◌, take, Bool, true, false, cond, not, Option, Some, None, is_some, option_map, option_and_then}
use Rattle.std.proofs.Common.{refl, sym, ap, ap₂, ◌∙◌, subst}
use Rattle.std.specs.Prelude.{slice_get}
use Rattle.std.proofs.lemmas.Option.{none-some, same_Some}
use Rattle.cw_core.specs.declared.ids.MemId.{MemId}
use Rattle.cw_certs.specs.declared.moves.Move.{Move}
use Rattle.cw_certs.specs.declared.moves.Move.TheVariants.{Skip, Try, Stop}
use Rattle.cw_certs.specs.declared.rows.TryRow.{TryRow}
use Rattle.cw_certs.specs.Tables.{Table}
use Rattle.cw_model.specs.Boards.{Problem, Phase, Visit, Asked, Refused, Free, FreeSplit, Over, Board, Party, Weaver, Environment, Moves, moved, turn_of, IsWeavers}
use Rattle.cw_model.specs.Runs.{try_of, mem_in, stays_where, stays_unless, refused_with, stops, memories, State, start_state, WovenStep}
use Rattle.cw_trace.proofs.Lists.{cons_head, cons_tail, joined, not_read}
use Rattle.cw_trace.specs.Steps.{Step, Follows, state_after, entry_by, entries_of, End, Ended, TapeSpent, BadMove, EndsBy, OneRunByATape}

abbrev at_state : Board → List ℕ → State
at_state b ms = record { board = b; mems = ms }

abbrev step_to : Move → State → Step
step_to by next = record { by = by; next = next }

-- the end, where it is counted from an entry before
abbrev later_end : End → End
later_end Ended = Ended
later_end TapeSpent = TapeSpent
later_end (BadMove i) = BadMove (suc i)

module _ (p : Problem) (t : Table) where
  -- The weaver's move is told by the table.
  abbrev pub chosen : Board → ℕ → Phase → Move
  chosen b m (Visit i a later) = cond (is_some (try_of t b i m)) Try Skip
  chosen b m (Refused i a later) = cond (stops (try_of t b i m)) Stop Skip
  chosen b m _ = Skip

  abbrev top_of : List ℕ → ℕ
  top_of [] = 0
  top_of (m ∷ ms) = m

  skips : (yes : Bool) (m : ℕ) (ms ns : List ℕ) → option_map (λ new. new ∷ ms) (stays_unless yes m) ≡ Some ns → Skip ≡ cond yes Try Skip
  skips true m ms ns h = absurd (none-some ns h)
  skips false m ms ns h = refl

  tries : (yes : Bool) (m : ℕ) (ms ns : List ℕ) → option_map (λ new. new ∷ ms) (stays_where yes m) ≡ Some ns → Try ≡ cond yes Try Skip
  tries false m ms ns h = absurd (none-some ns h)
  tries true m ms ns h = refl

  halts : (yes : Bool) (m : ℕ) (ms ns : List ℕ) → option_map (λ new. new ∷ ms) (stays_where yes m) ≡ Some ns → Stop ≡ cond yes Stop Skip
  halts false m ms ns h = absurd (none-some ns h)
  halts true m ms ns h = refl

  resumes : (row : Option TryRow) (ms ns : List ℕ) → option_map (λ new. new ∷ ms) (refused_with t row) ≡ Some ns → Skip ≡ cond (stops row) Stop Skip
  resumes None ms ns h = absurd (none-some ns h)
  resumes (Some r) ms ns h = by r.refused h
    where
      by : (o : Option MemId) → option_map (λ new. new ∷ ms) (option_and_then (mem_in t) o) ≡ Some ns → Skip ≡ cond (not (is_some o)) Stop Skip
      by None h = absurd (none-some ns h)
      by (Some m) h = refl

  pub is_chosen : (b next : Board) (ms ns : List ℕ) (phase : Phase) (by : Move) → turn_of phase ≡ Some Weaver → moved p b phase by ≡ Some next → memories p t b ms phase by ≡ Some ns
      → by ≡ chosen b (top_of ms) phase
  is_chosen b next [] ns (Visit i a later) Skip w e h = absurd (none-some ns h)
  is_chosen b next [] ns (Visit i a later) Try w e h = absurd (none-some ns h)
  is_chosen b next [] ns (Refused i a later) Skip w e h = absurd (none-some ns h)
  is_chosen b next [] ns (Refused i a later) Stop w e h = absurd (none-some ns h)
  is_chosen b next (m ∷ ms) ns (Visit i a later) Skip w e h = skips (is_some (try_of t b i m)) m ms ns h
  is_chosen b next (m ∷ ms) ns (Visit i a later) Try w e h = tries (is_some (try_of t b i m)) m ms ns h
  is_chosen b next (m ∷ ms) ns (Refused i a later) Skip w e h = resumes (try_of t b i m) ms ns h
  is_chosen b next (m ∷ ms) ns (Refused i a later) Stop w e h = halts (stops (try_of t b i m)) m ms ns h
  is_chosen b next ms ns (Visit i a later) _ w e h = absurd (none-some next e)
  is_chosen b next ms ns (Refused i a later) _ w e h = absurd (none-some next e)
  is_chosen b next ms ns (Asked i a later) by w e h = let k = same_Some _ _ w in cc
  is_chosen b next ms ns Free by w e h = let k = same_Some _ _ w in cc
  is_chosen b next ms ns FreeSplit by w e h = let k = same_Some _ _ w in cc
  is_chosen b next ms ns Over by w e h = absurd (none-some Weaver w)

  -- A step leads to one state.
  pub same_step : (s : State) (by : Move) (one other : State) → WovenStep p t s by one → WovenStep p t s by other → one ≡ other
  same_step s by one other h k = ap₂ at_state (same_Some _ _ (sym h.0.1 ∙ k.0.1)) (same_Some _ _ (sym h.1 ∙ k.1))

  same_taken : (s : State) (one other : Step) → one.by ≡ other.by → WovenStep p t s one.by one.next → WovenStep p t s other.by other.next → one ≡ other
  same_taken s one other e h k = ap₂ step_to e (same_step s other.by one.next other.next (subst (λ by. WovenStep p t s by one.next) e h) k)

  -- a state where all is over has no step
  over_ends : (b next : Board) (phase : Phase) (by : Move) → turn_of phase ≡ None → moved p b phase by ≡ Some next → ⊥
  over_ends b next Over by e m = none-some next m
  over_ends b next (Visit i a later) by e m = none-some Weaver (sym e)
  over_ends b next (Asked i a later) by e m = none-some Environment (sym e)
  over_ends b next (Refused i a later) by e m = none-some Weaver (sym e)
  over_ends b next Free by e m = none-some Environment (sym e)
  over_ends b next FreeSplit by e m = none-some Environment (sym e)

  -- What the end says of the entries that are left.
  none_left : (end : End) (b : Board) (entry : Move) (entries : List Move) → EndsBy p [] end b (entry ∷ entries) → ⊥
  none_left Ended b entry entries h = let e = h.0 in cc
  none_left TapeSpent b entry entries h = let e = h.0 in cc
  none_left (BadMove i) b entry entries h = none-some h.1.0 h.1.1

  first_entry : (end : End) (b : Board) (entry first : Move) (entries rest : List Move) → EndsBy p (first ∷ rest) end b (entry ∷ entries)
      → (entry ≡ first) × ((end2 : End) × (end ≡ later_end end2) × EndsBy p rest end2 b entries)
  first_entry Ended b entry first entries rest h = (cons_head entry first entries rest h.0, (Ended, refl, (cons_tail entry first entries rest h.0, h.1)))
  first_entry TapeSpent b entry first entries rest h = (cons_head entry first entries rest h.0, (TapeSpent, refl, (cons_tail entry first entries rest h.0, h.1)))
  first_entry (BadMove zero) b entry first entries rest h = let e = h.0 in cc
  first_entry (BadMove (suc i)) b entry first entries rest h =
      (cons_head entry first entries (take i rest) h.0, (BadMove i, refl, (cons_tail entry first entries (take i rest) h.0, h.1)))

  -- where nothing was read there is one end
  one_end : (tape : List Move) (b : Board) (one other : End) → EndsBy p tape one b [] → EndsBy p tape other b [] → one ≡ other
  one_end tape b Ended Ended h k = refl
  one_end tape b TapeSpent TapeSpent h k = refl
  one_end tape b Ended TapeSpent h k = absurd (k.1 h.1)
  one_end tape b TapeSpent Ended h k = absurd (h.1 k.1)
  one_end tape b Ended (BadMove i) h k = absurd (none-some k.1.0 (subst (λ l. slice_get l i ≡ Some k.1.0) (sym h.0) k.1.1))
  one_end tape b TapeSpent (BadMove i) h k = absurd (none-some k.1.0 (subst (λ l. slice_get l i ≡ Some k.1.0) (sym h.0) k.1.1))
  one_end tape b (BadMove i) Ended h k = absurd (none-some h.1.0 (subst (λ l. slice_get l i ≡ Some h.1.0) (sym k.0) h.1.1))
  one_end tape b (BadMove i) TapeSpent h k = absurd (none-some h.1.0 (subst (λ l. slice_get l i ≡ Some h.1.0) (sym k.0) h.1.1))
  one_end tape b (BadMove i) (BadMove j) h k = ap BadMove (not_read i tape h.1.0 h.0 h.1.1 ∙ sym (not_read j tape k.1.0 k.0 k.1.1))

  -- a run that ends before an entry that can be played is no run by this tape
  must_play : (tape : List Move) (one other : End) (b far next : Board) (by : Move) (entries : List Move) → EndsBy p tape one b [] → EndsBy p tape other far (by ∷ entries) → Moves p b by next → ⊥
  must_play [] one other b far next by entries h k m = none_left other far by entries k
  must_play (w ∷ tape) Ended other b far next by entries h k m = let e = h.0 in cc
  must_play (w ∷ tape) TapeSpent other b far next by entries h k m = let e = h.0 in cc
  must_play (w ∷ tape) (BadMove zero) other b far next by entries h k m =
      let f = first_entry other far by w entries tape k in
      h.1.2 next (subst (λ z. Moves p b z next) (f.0 ∙ same_Some w h.1.0 h.1.1) m)
  must_play (w ∷ tape) (BadMove (suc i)) other b far next by entries h k m = let e = h.0 in cc

  abbrev Same : End → End → List Step → List Step → Type 0
  Same one other steps others = (one ≡ other) × (steps ≡ others)

  abbrev IsRest : State → List Move → End → List Step → Type 0
  IsRest s tape end steps = Follows p t s steps × (IsWeavers (state_after s steps).board → ⊥) × EndsBy p tape end (state_after s steps).board (entries_of s steps)

  -- a step from where a run has ended
  ended_here : (s : State) (tape : List Move) (one other : End) (step : Step) (later : List Step) (turn : Option Party) → turn_of s.board.phase ≡ turn → IsRest s tape one []
      → WovenStep p t s step.by step.next → EndsBy p tape other (state_after step.next later).board (entry_by turn step.by ++ entries_of step.next later) → ⊥
  ended_here s tape one other step later (Some Weaver) e h k l = h.1 e
  ended_here s tape one other step later None e h k l = over_ends s.board step.next.board s.board.phase step.by e k.0.1
  ended_here s tape one other step later (Some Environment) e h k l =
      must_play tape one other s.board (state_after step.next later).board step.next.board step.by (entries_of step.next later) h.2 l k.0

  -- what is still to be shown of the steps after this one
  abbrev Later : State → List Step → List Step → Type 0
  Later s later others = (tape : List Move) (one other : End) → IsRest s tape one later → IsRest s tape other others → Same one other later others

  one_turn : (s : State) (tape : List Move) (one other : End) (a b : Step) (later others : List Step) (turn : Option Party) → Later a.next later others → turn_of s.board.phase ≡ turn
      → WovenStep p t s a.by a.next → WovenStep p t s b.by b.next → Follows p t a.next later → Follows p t b.next others
      → (IsWeavers (state_after a.next later).board → ⊥) → (IsWeavers (state_after b.next others).board → ⊥)
      → EndsBy p tape one (state_after a.next later).board (entry_by turn a.by ++ entries_of a.next later)
      → EndsBy p tape other (state_after b.next others).board (entry_by turn b.by ++ entries_of b.next others) → Same one other (a ∷ later) (b ∷ others)
  one_turn s tape one other a b later others None go e u v f g r q h k = absurd (over_ends s.board a.next.board s.board.phase a.by e u.0.1)
  one_turn s tape one other a b later others (Some Weaver) go e u v f g r q h k =
      let moves =
      is_chosen s.board a.next.board s.mems a.next.mems s.board.phase a.by e u.0.1 u.1
      ∙ sym (is_chosen s.board b.next.board s.mems b.next.mems s.board.phase b.by e v.0.1 v.1) in
      let same = same_taken s a b moves u v in
      joined one other a b later others same
      (go tape one other (f, r, h) (subst (λ (y : Step). IsRest y.next tape other others) (sym same) (g, q, k)))
  one_turn s [] one other a b later others (Some Environment) go e u v f g r q h k = absurd (none_left one (state_after a.next later).board a.by (entries_of a.next later) h)
  one_turn s (w ∷ tape) one other a b later others (Some Environment) go e u v f g r q h k =
      let x = first_entry one (state_after a.next later).board a.by w (entries_of a.next later) tape h in
      let y = first_entry other (state_after b.next others).board b.by w (entries_of b.next others) tape k in
      let same = same_taken s a b (x.0 ∙ sym y.0) u v in
      let z = joined x.1.0 y.1.0 a b later others same
      (go tape x.1.0 y.1.0 (f, r, x.1.2) (subst (λ (y2 : Step). IsRest y2.next tape y.1.0 others) (sym same) (g, q, y.1.2))) in
      (x.1.1 ∙ ap later_end z.0 ∙ sym y.1.1, z.1)

  one_from : (s : State) (tape : List Move) (one other : End) (steps others : List Step) → IsRest s tape one steps → IsRest s tape other others → Same one other steps others
  one_from s tape one other [] [] h k = (one_end tape s.board one other h.2 k.2, refl)
  one_from s tape one other [] (step ∷ later) h k =
      absurd (ended_here s tape one other step later (turn_of s.board.phase) refl h k.0.0 k.2)
  one_from s tape one other (step ∷ later) [] h k =
      absurd (ended_here s tape other one step later (turn_of s.board.phase) refl k h.0.0 h.2)
  one_from s tape one other (a ∷ later) (b ∷ others) h k =
      one_turn s tape one other a b later others (turn_of s.board.phase) (λ tape2 one2 other2 h2 k2. one_from a.next tape2 one2 other2 later others h2 k2)
      refl h.0.0 k.0.0 h.0.1 k.0.1 h.1 k.1 h.2 k.2

pub one_run : OneRunByATape
one_run p t tape one other steps others h k =
    one_from p t (start_state p t) tape one other steps others (h.follows, h.rests, h.ends) (k.follows, k.rests, k.ends)
