-- For each list of steps there is one world at most.
use Rattle.std.proofs.Common.{◌≡◌, ℕ, zero, suc, List, [], ◌∷◌, ◌++◌, set, take, true, false, Option, Some, None, refl, sym, ap, ap₂, ◌∙◌, subst}
use Rattle.std.specs.Prelude.{slice_get}
use Rattle.std.proofs.lemmas.Option.{none-some, same_Some}
use Rattle.cw_certs.specs.declared.moves.Move.TheVariants.{Left, Right}
use Rattle.cw_certs.specs.Tables.{Table}
use Rattle.cw_syntax.specs.Frames.{Frame}
use Rattle.cw_model.specs.Boards.{Problem, Phase, Visit, Refused}
use Rattle.cw_model.specs.Runs.{State, WovenStep}
use Rattle.cw_trace.proofs.Lists.{cons_head, cons_tail, joined, not_read}
use Rattle.cw_trace.proofs.OneRun.{is_chosen, same_step}
use Rattle.cw_worlds.specs.Forks.{forks_in}
use Rattle.cw_worlds.specs.Worlds.{World, Act, Makes, Forks, WorldStep, Step, Goes, world_after, start_world}
use Rattle.cw_procs.specs.Steps.{Entry, is_weavers_in, weavers_first, IsInTurn, AreInTurn, entry_by, entries_of, End, Done, BadStep, EndsBy}
use Rattle.cw_procs.specs.Laws.{OneWorldBySteps}
use Rattle.cw_procs.proofs.First.{first_is, weavers_turn}

-- the end, where it is counted from an entry before
abbrev later_end : End → End
later_end (Done n) = Done n
later_end (BadStep i) = BadStep (suc i)

abbrev entry_to : ℕ → Act → Entry
entry_to i act = record { process = i; act = act }

abbrev step_to : ℕ → Act → World → Step
step_to i act next = record { process = i; act = act; next = next }

-- where the weaver moves nothing is at a fork
pub no_fork : (forks : List ℕ) (phase : Phase) (stack : List Frame) → is_weavers_in phase ≡ true → forks_in forks phase stack ≡ false
no_fork forks (Visit i a later) stack e = refl
no_fork forks (Refused i a later) stack e = refl
no_fork forks _ stack e = cc

module _ (p : Problem) (t : Table) (forks : List ℕ) where
  -- A step of a process leads to one world.
  one_next : (w : World) (i : ℕ) (act : Act) (a b : World) → WorldStep p t forks w i act a → WorldStep p t forks w i act b → a ≡ b
  one_next w i (Makes by) a b (s, x, gs, away, h, e) (z, y, gz, away2, k, f) =
      let same : s ≡ z = same_Some s z (sym gs ∙ gz) in
      e ∙ ap (λ l. set w i l) (same_step p t z by x y (subst (λ c. WovenStep p t c by x) same h) k) ∙ sym f
  one_next w i Forks a b (s, x, c, gs, here, h, l, e) (z, y, d, gz, here2, k, m, f) =
      let same : s ≡ z = same_Some s z (sym gs ∙ gz) in
      e
      ∙ ap₂ (λ (one : State) (two : State). set w i one ++ two ∷ []) (same_step p t z Right x y (subst (λ q. WovenStep p t q Right x) same h) k)
      (same_step p t z Left c d (subst (λ q. WovenStep p t q Left c) same l) m)
      ∙ sym f

  -- The weaver's move is told by the table.
  one_act : (w : World) (i : ℕ) (one other : Act) (a b : World) → weavers_first w ≡ Some i → WorldStep p t forks w i one a → WorldStep p t forks w i other b → one ≡ other
  one_act w i (Makes m) (Makes n) a b first (s, x, gs, away, h, e) (z, y, gz, away2, k, f) =
      let same : s ≡ z = same_Some s z (sym gs ∙ gz) in
      let turn = weavers_turn s.board.phase (first_is w i s first gs) in
      let k2 = subst (λ c. WovenStep p t c n y) (sym same) k in
      ap Makes (is_chosen p t s.board x.board s.mems x.mems s.board.phase m turn h.0.1 h.1 ∙ sym (is_chosen p t s.board y.board s.mems y.mems s.board.phase n turn k2.0.1 k2.1))
  one_act w i Forks other a b first (s, x, c, gs, here, h, l, e) k =
      let none = no_fork forks s.board.phase s.board.stack (first_is w i s first gs) in cc
  one_act w i one Forks a b first k (s, x, c, gs, here, h, l, e) =
      let none = no_fork forks s.board.phase s.board.stack (first_is w i s first gs) in cc

  same_taken : (w : World) (a b : Step) → a.process ≡ b.process → a.act ≡ b.act → WorldStep p t forks w a.process a.act a.next → WorldStep p t forks w b.process b.act b.next → a ≡ b
  same_taken w a b ei ea h k =
      let h2 = subst (λ act. WorldStep p t forks w b.process act a.next) ea (subst (λ i. WorldStep p t forks w i a.act a.next) ei h) in
      ap₂ (λ (i : ℕ) (r : Act × World). step_to i r.0 r.1) ei (ap₂ (λ (act : Act) (next : World). (act, next)) ea (one_next w b.process b.act a.next b.next h2 k))

  -- What the end says of the entries that are left.
  none_left : (end : End) (w : World) (entry : Entry) (entries : List Entry) → EndsBy p t forks [] end w (entry ∷ entries) → ⊥
  none_left (Done n) w entry entries h = let e = h.0 in cc
  none_left (BadStep i) w entry entries h = none-some h.1.0 h.1.1

  first_entry : (end : End) (w : World) (entry first : Entry) (entries rest : List Entry) → EndsBy p t forks (first ∷ rest) end w (entry ∷ entries)
      → (entry ≡ first) × ((end2 : End) × (end ≡ later_end end2) × EndsBy p t forks rest end2 w entries)
  first_entry (Done n) w entry first entries rest h = (cons_head entry first entries rest h.0, (Done n, refl, (cons_tail entry first entries rest h.0, h.1)))
  first_entry (BadStep zero) w entry first entries rest h = let e = h.0 in cc
  first_entry (BadStep (suc i)) w entry first entries rest h =
      (cons_head entry first entries (take i rest) h.0, (BadStep i, refl, (cons_tail entry first entries (take i rest) h.0, h.1)))

  -- where nothing was read there is one end
  one_end : (list : List Entry) (w : World) (one other : End) → EndsBy p t forks list one w [] → EndsBy p t forks list other w [] → one ≡ other
  one_end list w (Done n) (Done m) h k = ap Done (h.1 ∙ sym k.1)
  one_end list w (Done n) (BadStep i) h k = absurd (none-some k.1.0 (subst (λ l. slice_get l i ≡ Some k.1.0) (sym h.0) k.1.1))
  one_end list w (BadStep i) (Done n) h k = absurd (none-some h.1.0 (subst (λ l. slice_get l i ≡ Some h.1.0) (sym k.0) h.1.1))
  one_end list w (BadStep i) (BadStep j) h k = ap BadStep (not_read i list h.1.0 h.0 h.1.1 ∙ sym (not_read j list k.1.0 k.0 k.1.1))

  -- a world that ends before an entry that can be done is none by this list
  must_go : (list : List Entry) (one other : End) (w far next : World) (i : ℕ) (act : Act) (entries : List Entry) → EndsBy p t forks list one w [] → EndsBy p t forks list other far (entry_to i act ∷ entries)
      → WorldStep p t forks w i act next → ⊥
  must_go [] one other w far next i act entries h k m = none_left other far (entry_to i act) entries k
  must_go (x ∷ list) (Done n) other w far next i act entries h k m = let e = h.0 in cc
  must_go (x ∷ list) (BadStep zero) other w far next i act entries h k m =
      let f = first_entry other far (entry_to i act) x entries list k in
      let same : entry_to i act ≡ h.1.0 = f.0 ∙ same_Some x h.1.0 h.1.1 in
      h.1.2 next (subst (λ (z : Entry). WorldStep p t forks w z.process z.act next) same m)
  must_go (x ∷ list) (BadStep (suc n)) other w far next i act entries h k m = let e = h.0 in cc

  abbrev Same : End → End → List Step → List Step → Type 0
  Same one other steps others = (one ≡ other) × (steps ≡ others)

  abbrev IsRest : World → List Entry → End → List Step → Type 0
  IsRest w list end steps = Goes p t forks w steps × AreInTurn w steps × (weavers_first (world_after w steps) ≡ None) × EndsBy p t forks list end (world_after w steps) (entries_of w steps)

  ended_here : (w : World) (list : List Entry) (one other : End) (step : Step) (later : List Step) → IsRest w list one [] → IsRest w list other (step ∷ later) → ⊥
  ended_here w list one other step later h k =
      must_go list one other w (world_after step.next later) step.next step.process step.act (entries_of step.next later) h.3
      (subst (λ o. EndsBy p t forks list other (world_after step.next later) (entry_by o step ++ entries_of step.next later)) h.2 k.3) k.0.0

  abbrev Later : World → List Step → List Step → Type 0
  Later w later others = (list : List Entry) (one other : End) → IsRest w list one later → IsRest w list other others → Same one other later others

  one_turn : (w : World) (list : List Entry) (one other : End) (a b : Step) (later others : List Step) (first : Option ℕ) → Later a.next later others → weavers_first w ≡ first
      → WorldStep p t forks w a.process a.act a.next → WorldStep p t forks w b.process b.act b.next → IsInTurn first a.process → IsInTurn first b.process
      → Goes p t forks a.next later → Goes p t forks b.next others → AreInTurn a.next later → AreInTurn b.next others
      → (weavers_first (world_after a.next later) ≡ None) → (weavers_first (world_after b.next others) ≡ None)
      → EndsBy p t forks list one (world_after a.next later) (entry_by first a ++ entries_of a.next later)
      → EndsBy p t forks list other (world_after b.next others) (entry_by first b ++ entries_of b.next others) → Same one other (a ∷ later) (b ∷ others)
  one_turn w list one other a b later others (Some j) go e u v ia ib f g x y r q h k =
      let ei = ia ∙ sym ib in
      let u2 = subst (λ i. WorldStep p t forks w i a.act a.next) ia u in
      let v2 = subst (λ i. WorldStep p t forks w i b.act b.next) ib v in
      let same = same_taken w a b ei (one_act w j a.act b.act a.next b.next e u2 v2) u v in
      joined one other a b later others same
      (go list one other (f, x, r, h) (subst (λ (z : Step). IsRest z.next list other others) (sym same) (g, y, q, k)))
  one_turn w [] one other a b later others None go e u v ia ib f g x y r q h k = absurd (none_left one (world_after a.next later) (entry_to a.process a.act) (entries_of a.next later) h)
  one_turn w (first ∷ list) one other a b later others None go e u v ia ib f g x y r q h k =
      let m = first_entry one (world_after a.next later) (entry_to a.process a.act) first (entries_of a.next later) list h in
      let n = first_entry other (world_after b.next others) (entry_to b.process b.act) first (entries_of b.next others) list k in
      let eq : entry_to a.process a.act ≡ entry_to b.process b.act = m.0 ∙ sym n.0 in
      let same = same_taken w a b (ap (λ (z : Entry). z.process) eq) (ap (λ (z : Entry). z.act) eq) u v in
      let z = joined m.1.0 n.1.0 a b later others same
      (go list m.1.0 n.1.0 (f, x, r, m.1.2) (subst (λ (y2 : Step). IsRest y2.next list n.1.0 others) (sym same) (g, y, q, n.1.2))) in
      (m.1.1 ∙ ap later_end z.0 ∙ sym n.1.1, z.1)

  one_from : (w : World) (list : List Entry) (one other : End) (steps others : List Step) → IsRest w list one steps → IsRest w list other others → Same one other steps others
  one_from w list one other [] [] h k = (one_end list w one other h.3 k.3, refl)
  one_from w list one other [] (step ∷ later) h k = absurd (ended_here w list one other step later h k)
  one_from w list one other (step ∷ later) [] h k = absurd (ended_here w list other one step later k h)
  one_from w list one other (a ∷ later) (b ∷ others) h k =
      one_turn w list one other a b later others (weavers_first w) (λ list2 one2 other2 h2 k2. one_from a.next list2 one2 other2 later others h2 k2) refl
      h.0.0 k.0.0 h.1.0 k.1.0 h.0.1 k.0.1 h.1.1 k.1.1 h.2 k.2 h.3 k.3

pub one_world : OneWorldBySteps
one_world p t forks list one other steps others h k =
    one_from p t forks (start_world p t) list one other steps others (h.goes, h.turns, h.rests, h.ends) (k.goes, k.turns, k.rests, k.ends)
