-- What the loop over the steps keeps, for a program's game and a good table.
use Rattle.std.proofs.Common.{◌≡◌, ℕ, ◌+◌, ◌<◌, ◌≤◌, List, [], ◌∷◌, ◌++◌, map, take, length, get_or, Bool, true, false, Option, Some, None, option_map, refl, sym, ap, ◌∙◌, subst, arith}
use Rattle.std.specs.Prelude.{slice_get, count_by}
use Rattle.std.proofs.lemmas.List.{take_all, take-map, map-append, length-map}
use Rattle.std.proofs.lemmas.List.Sums.{sum_by_more, sum_by-take-le}
use Rattle.std.proofs.lemmas.Option.{none-some, slice_get-map, slice_get_read, slice_get_within}
use Rattle.cw_rights.specs.declared.capabilities.Caps.{Caps}
use Rattle.cw_rights.specs.Words.{Word as Letters}
use Rattle.cw_rights.specs.Policies.{PlainPolicy, policy_of}
use Rattle.cw_rights.specs.Valid.{IsValid}
use Rattle.cw_certs.specs.Tables.{Table}
use Rattle.cw_syntax.specs.Trees.{File}
use Rattle.cw_syntax.specs.Plans.{Plan, If, plan_of}
use Rattle.cw_syntax.specs.Frames.{Item, Todo, Test, Frame, front}
use Rattle.cw_syntax.specs.Runnable.{IsRunnable}
use Rattle.cw_resolve.specs.Scenes.{names_of}
use Rattle.cw_points.specs.Points.{points}
use Rattle.cw_points.specs.Graphs.{IsGraph}
use Rattle.cw_positions.specs.Items.{IsOfPoint}
use Rattle.cw_positions.specs.Laid.{IsGameOn}
use Rattle.cw_positions.specs.Opens.{AssignsNames}
use Rattle.cw_positions.specs.Positions.{spots}
use Rattle.cw_positions.proofs.Items.{items_stand, one_point}
use Rattle.cw_model.specs.Boards.{problem_of, seam_in, Phase}
use Rattle.cw_model.specs.Runs.{State, Sound}
use Rattle.cw_game.specs.declared.spots.Spot.{Spot}
use Rattle.cw_game.specs.Games.{Game, Ret}
use Rattle.cw_game.specs.Reached.{Reached}
use Rattle.cw_game.specs.Standing.{IsGameOf, StandsOn}
use Rattle.cw_game.specs.Conditions.{IsGoodTable}
use Rattle.cw_game.proofs.Reached.{reached_means}
use Rattle.cw_game.proofs.Goods.{good_closed}
use Rattle.cw_states.specs.States.{lists_of, AreLists, Means, caps_at, states_of}
use Rattle.cw_states.proofs.Meaning.{states_are, caps_is}
use Rattle.cw_product.specs.Product.{Held, game_of}
use Rattle.cw_product.specs.Uses.{uses_of}
use Rattle.cw_product.proofs.Holding.{has, game_is}
use Rattle.cw_wcheck.proofs.Sounds.{sound}
use Rattle.cw_trace.specs.Traces.{Names}
use Rattle.cw_trace.specs.Labels.{names_of as trace_names_of}
use Rattle.cw_trace.proofs.Lists.{cons_head, front_more}
use Rattle.cw_run.specs.Lines.{own_of}
use Rattle.cw_run.specs.Walks.{Here, Wait, ret_of, config_of, start_here, Arrives}
use Rattle.cw_run.proofs.Sees.{Sees, sees_visit, sees_asked, sees_step, sees_branch, sees_label, sees_open, sees_close, sees_call, sees_split, sees_end, see}
use Rattle.cw_run.proofs.Sits.{Sits, Least}
use Rattle.cw_steps.specs.declared.step.Step.{Step as StepData}
use Rattle.cw_items.proofs.Fronts.{fronts_are_of_points}
use Rattle.cw_worlds.specs.Forks.{fork_places, is_fork_item, forks_in as forks_at_front, at_fork}
use Rattle.cw_procs.specs.Steps.{Entry, End, Done, BadStep}
use Rattle.cw_procs.specs.Played.{entry_of, TellsWorld}
use Rattle.cw_procs.specs.Walks.{Link, Process, Cover, IsFlag, Acted, one_if}
use Rattle.cw_procs.proofs.Keeping.{Keeps, begins, went_on, done, bad}

abbrev pub plan_here : Held → List ℕ → File → Plan
plan_here h source file = plan_of (names_of (policy_of h.states.policy)) source file

-- how many of some kind there are so far
pub room_for : (kind : StepData → Bool) (steps : List StepData) (i : ℕ) (s : StepData) (have room spare total : ℕ) → i < length steps → s ≡ get_or steps i s
    → total ≡ count_by kind steps → have ≤ spare + count_by kind (take i steps) → spare + total ≤ room → have + one_if (kind s) ≤ room
room_for kind steps i s have room spare total lt is e few most =
    omega (arith, e, few, most, ap (λ (x : StepData). one_if (kind x)) is, sum_by_more (λ x. one_if (kind x)) steps i s lt, sum_by-take-le (λ x. one_if (kind x)) steps (i + 1))

pub few_after : (kind : StepData → Bool) (steps : List StepData) (i : ℕ) (s : StepData) (have later spare : ℕ) → i < length steps → s ≡ get_or steps i s
    → have ≤ spare + count_by kind (take i steps) → later ≤ have + one_if (kind s) → later ≤ spare + count_by kind (take (i + 1) steps)
few_after kind steps i s have later spare lt is few more = omega (arith, few, more, ap (λ (x : StepData). one_if (kind x)) is, sum_by_more (λ x. one_if (kind x)) steps i s lt)

-- What is at a fork is in Free: nothing else has such an item at its front.
seam_no_fork : (forks : List ℕ) (i : Item) (is : Frame) (j : ℕ) → seam_in (i ∷ is) ≡ Some j → is_fork_item forks i ≡ false
seam_no_fork forks (Todo (If at s t)) is j e = absurd (none-some j e)
seam_no_fork forks (Test at true stepped s) is j e = absurd (none-some j e)
seam_no_fork forks _ is j e = refl

seen_fork : (forks : List ℕ) (i : Item) (is : Frame) (frames : List Frame) (phase : Phase) (spot : Spot) → Sees (i ∷ is) phase spot
    → forks_at_front forks phase ((i ∷ is) ∷ frames) ≡ is_fork_item forks i
seen_fork forks i is frames _ _ (sees_visit {j = j} e) = sym (seam_no_fork forks i is j e)
seen_fork forks i is frames _ _ (sees_asked {j = j} e) = sym (seam_no_fork forks i is j e)
seen_fork forks _ _ frames _ _ (sees_step quiet) = refl
seen_fork forks _ _ frames _ _ (sees_branch quiet) = refl
seen_fork forks _ _ frames _ _ sees_label = refl
seen_fork forks _ _ frames _ _ sees_open = refl
seen_fork forks _ _ frames _ _ sees_close = refl
seen_fork forks _ _ frames _ _ sees_call = refl
seen_fork forks _ _ frames _ _ sees_split = refl
seen_fork forks _ _ frames _ _ sees_end = refl

none_front : (item : Item) → [] ≡ item ∷ [] → ⊥
none_front item e = cc

fork_told : (g : Game) (forks : List ℕ) (stack : List Frame) (kept : List (Option Caps)) (caps : Caps) (word : Letters) (phase : Phase) (p q : ℕ) (rets : List Ret) (item : Item)
    → StandsOn (Least g) g stack kept caps word phase p q rets → front stack ≡ item ∷ [] → forks_at_front forks phase stack ≡ is_fork_item forks item
fork_told g forks [] kept caps word phase p q rets item h e = absurd h
fork_told g forks ([] ∷ frames) kept caps word phase p q rets item h e = absurd (none_front item e)
fork_told g forks ((i ∷ is) ∷ frames) kept caps word phase p q rets item h e =
    let sn = see (Least g) g.spots g.policy (g.exit h.0) (i ∷ is) caps word phase p q h.1 in
    seen_fork forks i is frames phase sn.0 sn.2 ∙ ap (is_fork_item forks) (cons_head i item [] [] e)

module _ (h : Held) (source : List ℕ) (file : File) (t : Table) (names : Names) (flags : List Bool) (valid : IsValid (policy_of h.states.policy))
    (lists : AreLists (uses_of (policy_of h.states.policy) h.graph.nodes.items) (lists_of h.states)) (drawn : IsGraph (names_of (policy_of h.states.policy)) source file h.graph)
    (run : IsRunnable (plan_of (names_of (policy_of h.states.policy)) source file)) (assigns : AssignsNames source file) (good : IsGoodTable (game_of h) t)
    (flags_are : flags ≡ map (is_fork_item (fork_places source file)) (points (plan_of (names_of (policy_of h.states.policy)) source file))) where
  abbrev policy : PlainPolicy
  policy = policy_of h.states.policy

  abbrev g : Game
  g = game_of h

  abbrev plan : Plan
  plan = plan_here h source file

  abbrev forks : List ℕ
  forks = fork_places source file

  abbrev held : ℕ → Caps
  held = caps_at (lists_of h.states)

  of : IsGameOf (problem_of policy source file) g
  of = game_is h valid lists source file drawn run assigns

  on : IsGameOn h.graph policy g
  on = record { spots = refl; entry = λ f. refl; exit = λ f. refl; main = refl; under = refl }

  holds : (q : ℕ) (w : Letters) (c : Caps) → Reached g.policy g.spots g.states q w c → held q ≡ c
  holds q w c r =
      let uses = uses_of policy h.graph.nodes.items in
      let v = lists_of h.states in
      caps_is uses v lists q w c
      (reached_means policy (spots h.graph policy) (states_of v) (Means uses v) (states_are uses v lists (spots h.graph policy) (has policy h.graph valid source file drawn assigns)) q w c r)

  safe : Sound (problem_of policy source file) t
  safe = sound (Reached g.policy g.spots g.states) (problem_of policy source file) g t refl of.states of.laid (good_closed g t good) valid.few_limits

  -- there is a flag for the point of each position
  pub covers : Cover h flags
  covers p point within there =
      let k = (items_stand policy source file h.graph g drawn run on).some p there in
      let w : IsOfPoint h.graph policy p point = record { there = within.there; begun = within.begun; before = within.before } in
      let e = one_point h.graph policy p k.1.point point k.1.within w in
      let is : slice_get (points plan) point ≡ Some k.0 = ap (slice_get (points plan)) (sym e) ∙ k.1.is in
      let lt = slice_get_within (points plan) point k.0 is in
      subst (λ n. point < n) (sym (length-map (points plan) (is_fork_item forks)) ∙ ap (λ (l : List Bool). length l) (sym flags_are)) lt

  -- the flag of a landing tells whether the board there is at a fork
  flagged : (s : State) (here : Here) (waits : List Wait) (b : Bool) → Sits plan g s here waits → IsFlag h flags here b → at_fork forks s.board ≡ b
  flagged s here waits b sits (point, within, is) =
      let w : IsOfPoint h.graph policy here.pos point = record { there = within.there; begun = within.begun; before = within.before } in
      let k = fronts_are_of_points policy source file h.graph g drawn run on (is_fork_item forks) s.board (config_of here waits) point b sits.goes w
      (ap (λ (l : List Bool). slice_get l point) (sym flags_are) ∙ is) in
      fork_told g forks s.board.stack s.board.kept s.board.caps s.board.word s.board.phase here.pos here.state (map ret_of waits) k.0 sits.stands k.1 ∙ k.2

  abbrev Kept : List Entry → List Process → List Link → List ℕ → List ℕ → Type 0
  Kept entries ps links old new = Keeps names g t plan forks entries ps links old new

  pub loop_begun : (here : Here) (ps : List Process) (links : List Link) (old new : List ℕ) → Arrives names g t held (own_of (Some 0)) (start_here g t) here old new
      → ps ≡ record { landing = Some here; calls = None } ∷ [] → links ≡ [] → Kept [] ps links old new
  loop_begun here ps links old new a ep el =
      subst (λ l. Kept [] ps l old new) (sym el) (subst (λ l. Kept [] l [] old new) (sym ep)
      (begins names g t plan of.states of.laid of.routines held holds forks safe (IsFlag h flags) flagged here old new a))

  pub loop_went : (steps : List StepData) (i : ℕ) (s : StepData) (ps ps2 : List Process) (links links2 : List Link) (old mid new : List ℕ) (b : Bool) → i < length steps
      → s ≡ get_or steps i s → b ≡ true
      → Kept (map entry_of (take i steps)) ps links old mid
      → Acted names g t held (IsFlag h flags) s.process s.fork s.by b ps ps2 links links2 mid new → Kept (map entry_of (take (i + 1) steps)) ps2 links2 old new
  loop_went steps i s ps ps2 links links2 old mid new b lt is eb k a =
      let a2 = subst (λ y. Acted names g t held (IsFlag h flags) s.process s.fork s.by y ps ps2 links links2 mid new) eb a in
      let e : map entry_of (take i steps) ++ entry_of s ∷ [] ≡ map entry_of (take (i + 1) steps) =
      sym (ap (map entry_of) (front_more steps i s lt is) ∙ map-append entry_of (take i steps) (s ∷ [])) in
      subst (λ l. Kept l ps2 links2 old new) e
      (went_on names g t plan of.states of.laid of.routines held holds forks safe (IsFlag h flags) flagged (map entry_of (take i steps)) ps ps2 links links2 old mid new s.process s.fork s.by k a2)

  abbrev Tells : List StepData → End → List ℕ → List ℕ → Type 0
  Tells steps end old new = TellsWorld (problem_of policy source file) (trace_names_of source file plan) t forks (map entry_of steps) end old new

  named : (steps : List StepData) (end : End) (old new : List ℕ) → names ≡ trace_names_of source file plan → TellsWorld (problem_of policy source file) names t forks (map entry_of steps) end old new
      → Tells steps end old new
  named steps end old new e k = subst (λ ns. TellsWorld (problem_of policy source file) ns t forks (map entry_of steps) end old new) e k

  pub loop_bad : (steps : List StepData) (i : ℕ) (s : StepData) (ps ps2 : List Process) (links links2 : List Link) (old mid new : List ℕ) (b : Bool) → names ≡ trace_names_of source file plan
      → i < length steps → s ≡ get_or steps i s → b ≡ false → Kept (map entry_of (take i steps)) ps links old mid
      → Acted names g t held (IsFlag h flags) s.process s.fork s.by b ps ps2 links links2 mid new → Tells steps (BadStep i) old new
  loop_bad steps i s ps ps2 links links2 old mid new b e lt is eb k a =
      let a2 = subst (λ y. Acted names g t held (IsFlag h flags) s.process s.fork s.by y ps ps2 links links2 mid new) eb a in
      named steps (BadStep i) old new e
      (subst (λ l. TellsWorld (problem_of policy source file) names t forks (map entry_of steps) (BadStep i) old l) (sym a2.1)
      (bad names g t plan of.states of.laid of.routines held holds forks safe (IsFlag h flags) flagged (map entry_of steps) i ps links old mid s.process s.fork s.by
      (subst (λ l. Kept l ps links old mid) (sym (take-map entry_of i steps)) k)
      (slice_get-map entry_of steps i ∙ ap (option_map entry_of) (slice_get_read steps (length steps) i s refl lt is)) a2.0))

  pub loop_done : (steps : List StepData) (i : ℕ) (ps : List Process) (links : List Link) (old new : List ℕ) (n : ℕ) → names ≡ trace_names_of source file plan → length steps ≤ i → n ≡ length ps
      → Kept (map entry_of (take i steps)) ps links old new → Tells steps (Done n) old new
  loop_done steps i ps links old new n e le en k =
      named steps (Done n) old new e
      (subst (λ m. TellsWorld (problem_of policy source file) names t forks (map entry_of steps) (Done m) old new) (sym en)
      (done names g t plan of.states of.laid of.routines held holds forks safe (IsFlag h flags) flagged (map entry_of steps) ps links old new
      (subst (λ l. Kept (map entry_of l) ps links old new) (take_all i steps le) k)))
