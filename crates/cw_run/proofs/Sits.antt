-- A state of a woven run over its landing in the game, and what each move of the environment leaves of both.
use Rattle.std.proofs.Common.{◌≡◌, ℕ, ◌+◌, List, [], ◌∷◌, map, Bool, true, false, cond, Option, Some, None, is_some, option_map, option_and_then, refl, sym, ap, ◌∙◌, subst}
use Rattle.std.specs.Prelude.{slice_get}
use Rattle.std.proofs.lemmas.Option.{none-some, same_Some}
use Rattle.cw_rights.specs.declared.capabilities.Caps.{Caps}
use Rattle.cw_rights.specs.declared.capabilities.Primitive.{Primitive}
use Rattle.cw_rights.specs.declared.capabilities.Primitive.TheVariants.{Split}
use Rattle.cw_rights.specs.Words.{Word}
use Rattle.cw_certs.specs.declared.moves.Move.{Move}
use Rattle.cw_certs.specs.declared.moves.Move.TheVariants.{Skip, Try, Grant, Refuse, On, Left, Right, Opened, Failed}
use Rattle.cw_certs.specs.Tables.{Table}
use Rattle.cw_syntax.specs.Plans.{Callee, Call, Plan}
use Rattle.cw_syntax.specs.Frames.{Todo, Frame}
use Rattle.cw_model.specs.Boards.{Problem, Phase, Board}
use Rattle.cw_model.specs.Runs.{State, WovenStep}
use Rattle.cw_model.proofs.Moving.{board_on}
use Rattle.cw_game.specs.declared.spots.Spot.{Spot}
use Rattle.cw_game.specs.declared.spots.Spot.TheVariants.{Step, Branch, Exit, Visit as VisitSpot, Asked as AskedSpot, Label as LabelSpot, Open as OpenSpot, Close as CloseSpot}
use Rattle.cw_game.specs.declared.spots.Spot.TheVariants.{Call as CallSpot, SplitCall}
use Rattle.cw_game.specs.Games.{AreStates, Game, Ret, Config, at_pair, past_asked, leads_in, leads_to, bad_in, weavers_in, refuses_in}
use Rattle.cw_game.specs.Reached.{Reached}
use Rattle.cw_game.specs.Places.{IsLaidOut, HasRoutines}
use Rattle.cw_game.specs.Standing.{Meaning, StandsOn}
use Rattle.cw_game.specs.Together.{Together, by_move}
use Rattle.cw_game.proofs.Link.{Stands, board_moves, environments_turn}
use Rattle.cw_product.specs.Moves.{pair_of, is_left_in, next_in, next_at}
use Rattle.cw_trace.specs.Traces.{Names, move_lines, reached_lines}
use Rattle.cw_trace.specs.Told.{spot_lines, lines_at, label_at}
use Rattle.cw_trace.proofs.Boards.{moved_on, reached_on}
use Rattle.cw_run.specs.Walks.{Here, Wait, ret_of, config_of, mems_of, landing, mem_after, within}
use Rattle.cw_run.proofs.Sees.{Sees, see, means_in, is_inner, below}
use Rattle.cw_run.proofs.Sees.{remembered, stays}
use Rattle.cw_lemmas.proofs.Truths.{or_first as left_of}
use Rattle.cw_lemmas.proofs.Options.{cond_none_some as kept_only, option_map_some as mapped}

-- Where a move leads within a function, whatever waits.
abbrev pub with_rets : List Ret → Config → Config
with_rets rets c = at_pair c.pos c.state rets

pub chained : {A B : Type 0} (f : A → Option B) (o : Option A) (y : B) → option_and_then f o ≡ Some y → (x : A) × (o ≡ Some x) × (f x ≡ Some y)
chained f None y e = absurd (none-some y e)
chained f (Some x) y e = (x, refl, e)

module _ (g : Game) (p q : ℕ) (rets : List Ret) where
  granted_lead : (a : Primitive) (yes : Bool) → cond yes (Some (past_asked g p q a rets)) None ≡ option_map (with_rets rets) (cond yes (Some (past_asked g p q a [])) None)
  granted_lead Split true = refl
  granted_lead a true = refl
  granted_lead a false = refl

  refused_lead : (yes : Bool) → cond yes (Some (at_pair (p + 1) q rets)) None ≡ option_map (with_rets rets) (cond yes (Some (at_pair (p + 1) q [])) None)
  refused_lead true = refl
  refused_lead false = refl

  pub same_lead : (s : Spot) (by : Move) → is_inner s ≡ true → leads_in g p q rets (Some s) by ≡ option_map (with_rets rets) (leads_in g p q [] (Some s) by)
  same_lead (VisitSpot j i a) Skip e = refl
  same_lead (VisitSpot j i a) Try e = refl
  same_lead (VisitSpot j i a) _ e = refl
  same_lead (AskedSpot j i a) Grant e = granted_lead a (g.states.may_grant q a)
  same_lead (AskedSpot j i a) Refuse e = refused_lead (refuses_in g q a)
  same_lead (AskedSpot j i a) _ e = refl
  same_lead (Step n) On e = refl
  same_lead (Step n) _ e = refl
  same_lead (Branch m n) Left e = refl
  same_lead (Branch m n) Right e = refl
  same_lead (Branch m n) _ e = refl
  same_lead (LabelSpot j l n) On e = refl
  same_lead (LabelSpot j l n) _ e = refl
  same_lead (OpenSpot j d n) Opened e = refl
  same_lead (OpenSpot j d n) Failed e = refl
  same_lead (OpenSpot j d n) _ e = refl
  same_lead (CloseSpot j d n) On e = refl
  same_lead (CloseSpot j d n) _ e = refl
  same_lead (CallSpot j f n) by e = cc
  same_lead (SplitCall j f n) by e = cc
  same_lead (Exit f) by e = cc

  -- what `next` gives is where the game leads, from a pair that isn't bad
  pub led : (s : Spot) (by : Move) (pair : ℕ × ℕ) → is_inner s ≡ true → next_in g p q (Some s) by ≡ Some pair
      → (leads_in g p q rets (Some s) by ≡ Some (at_pair pair.0 pair.1 rets)) × (bad_in g q (Some s) ≡ false)
  led s by pair inner e =
      let k = kept_only (is_left_in g q (Some s)) (option_map pair_of (leads_in g p q [] (Some s) by)) pair e in
      let m = mapped pair_of (leads_in g p q [] (Some s) by) pair k.1 in
      (same_lead s by inner ∙ ap (option_map (with_rets rets)) m.1 ∙ ap (λ (r : ℕ × ℕ). Some (at_pair r.0 r.1 rets)) m.2, left_of (bad_in g q (Some s)) _ k.0)

-- the frame is the call that waits, and the frames below it wait in their order
abbrev pub IsCallOf : Frame → Wait → Type 0
IsCallOf frame w = (at : ℕ) × (callee : Callee) × (rest : Frame) × (frame ≡ Todo (Call at w.seam callee) ∷ rest)

abbrev pub Waiting : List Frame → List (Option Caps) → List Wait → Type 0
Waiting [] kept [] = Unit {0}
Waiting (frame ∷ frames) (k ∷ kept) (w ∷ waits) = IsCallOf frame w × (is_some k ≡ w.split) × Waiting frames kept waits
Waiting _ _ _ = ⊥

abbrev pub Least : Game → Meaning
Least g = Reached g.policy g.spots g.states

-- a board with these memories
abbrev pub state_of_board : Board → List ℕ → State
state_of_board b ms = record { board = b; mems = ms }

-- The state of a run is at this landing, over these calls that wait.
pub record Sits (plan : Plan) (g : Game) (s : State) (h : Here) (waits : List Wait) : Type 0 where
  -- by the same moves from the start
  pub goes : Together (record { plan = plan; policy = g.policy }) g s.board (config_of h waits)
  pub stands : Stands (Least g) g s.board (config_of h waits)
  pub mems : s.mems ≡ mems_of h waits
  pub waiting : Waiting (below s.board.stack) s.board.kept waits

module _ (names : Names) (g : Game) (t : Table) (plan : Plan) (right : AreStates g.policy g.spots g.states (Reached g.policy g.spots g.states)) (laid : IsLaidOut plan g) (has : HasRoutines plan g)
    (held : ℕ → Caps) (holds : (q : ℕ) (w : Word) (c : Caps) → Reached g.policy g.spots g.states q w c → held q ≡ c) where
  abbrev pub problem : Problem
  problem = record { plan = plan; policy = g.policy }

  abbrev pub label_of : Here → List ℕ
  label_of h = label_at names g.policy (held h.state) (slice_get g.spots h.pos)

  -- the label that is told where a board stands
  arrived_on : (stack : List Frame) (kept : List (Option Caps)) (caps : Caps) (word : Word) (phase : Phase) (p q : ℕ) (rets : List Ret)
      → StandsOn (Least g) g stack kept caps word phase p q rets
      → reached_lines names g.policy (board_on stack kept caps word phase) phase ≡ label_at names g.policy (held q) (slice_get g.spots p)
  arrived_on [] kept caps word phase p q rets h = absurd h
  arrived_on (frame ∷ frames) kept caps word phase p q rets h =
      let m = holds q word caps (means_in (Least g) g.spots g.policy (g.exit h.0) frame caps word phase p q h.1) in
      reached_on (Least g) g plan laid.main names (frame ∷ frames) kept caps word phase p q rets h
      ∙ ap (λ (k : Caps). label_at names g.policy k (slice_get g.spots p)) (sym m)

  pub arrived : (b : Board) (h : Here) (waits : List Wait) → Stands (Least g) g b (config_of h waits) → reached_lines names g.policy b b.phase ≡ label_of h
  arrived b h waits s = arrived_on b.stack b.kept b.caps b.word b.phase h.pos h.state (map ret_of waits) s

  -- what is told by a move that is made where a board stands
  pub told_by : (b : Board) (h : Here) (waits : List Wait) (by : Move) (spot : Spot) → Stands (Least g) g b (config_of h waits) → slice_get g.spots h.pos ≡ Some spot
      → move_lines names problem b b.phase by ≡ spot_lines names g.policy g.main spot by
  told_by b h waits by spot s es =
      moved_on (Least g) g plan laid.main names b.stack b.kept b.caps b.word b.phase h.pos h.state (map ret_of waits) by s
      ∙ ap (λ (o : Option Spot). lines_at names g.policy g.main o by) es

  -- A move of the environment or the weaver, and where it leads.
  pub record Stepped (s : State) (by : Move) (lines : List ℕ) (to : Here) (waits : List Wait) : Type 0 where
    pub next : State
    pub steps : WovenStep problem t s by next
    pub sits : Sits plan g next to waits
    pub acts : move_lines names problem s.board s.board.phase by ≡ lines
    pub reaches : reached_lines names g.policy next.board next.board.phase ≡ label_of to

  same_spot : (p : ℕ) (one other : Spot) → slice_get g.spots p ≡ Some one → slice_get g.spots p ≡ Some other → one ≡ other
  same_spot p one other e f = same_Some one other (sym e ∙ f)

  -- Within a function.
  inner_on : (frame : Frame) (frames : List Frame) (kept : List (Option Caps)) (caps : Caps) (word : Word) (phase : Phase) (h : Here) (waits : List Wait) (by : Move) (spot : Spot)
      (pair : ℕ × ℕ) (m : ℕ) → let b = board_on (frame ∷ frames) kept caps word phase in Together problem g b (config_of h waits)
      → StandsOn (Least g) g (frame ∷ frames) kept caps word phase h.pos h.state (map ret_of waits) → Waiting frames kept waits → slice_get g.spots h.pos ≡ Some spot → is_inner spot ≡ true
      → weavers_in (Some spot) ≡ false → next_at g h.pos h.state by ≡ Some pair
      → mem_after t h.mem spot by ≡ Some m → Stepped (state_of_board b (mems_of h waits)) by (spot_lines names g.policy g.main spot by) (landing pair m) waits
  inner_on frame frames kept caps word phase h waits by spot pair m goes stands waiting es inner env en em =
      let rets = map ret_of waits in
      let b = board_on (frame ∷ frames) kept caps word phase in
      let c = config_of h waits in
      let sn = see (Least g) g.spots g.policy (g.exit stands.0) frame caps word phase h.pos h.state stands.1 in
      let sees : Sees frame phase spot = subst (λ o. Sees frame phase o) (same_spot h.pos sn.0 spot sn.1 es) sn.2 in
      let l = led g h.pos h.state rets spot by pair inner (sym (ap (λ o. next_in g h.pos h.state o by) es) ∙ en) in
      let leads : leads_to g c by ≡ Some (at_pair pair.0 pair.1 rets) = ap (λ o. leads_in g h.pos h.state rets o by) es ∙ l.0 in
      let good : bad_in g h.state (slice_get g.spots h.pos) ≡ false = ap (bad_in g h.state) es ∙ l.1 in
      let to = board_moves (Least g) g plan right laid has b c (at_pair pair.0 pair.1 rets) by stands good leads in
      let turn = environments_turn (Least g) g plan right laid has b c stands (ap weavers_in es ∙ env) in
      let stay = stays problem t frame frames kept caps word phase by spot to.0 sees inner to.1.1 in
      let ms : List ℕ = map (λ (w : Wait). w.mem) waits in
      let memory = remembered problem t frame frames kept caps word phase by spot h.mem ms sees inner turn to.3 ∙ ap (option_map (λ n. n ∷ ms)) em in
      record {
        next = state_of_board to.0 (m ∷ ms);
        steps = (to.1, memory);
        sits = record {
          goes = by_move b c by to.0 (at_pair pair.0 pair.1 rets) goes to.1 leads;
          stands = to.2;
          mems = refl;
          waiting = subst (λ f. Waiting f to.0.kept waits) (sym stay.0) (subst (λ k. Waiting frames k waits) (sym stay.1) waiting);
        };
        acts = told_by b h waits by spot stands es;
        reaches = arrived to.0 (landing pair m) waits to.2;
      }

  pub inner_step : (s : State) (h : Here) (waits : List Wait) (by : Move) (spot : Spot) (to : Here) → Sits plan g s h waits → slice_get g.spots h.pos ≡ Some spot → is_inner spot ≡ true
      → weavers_in (Some spot) ≡ false → within g t h spot by ≡ Some to → Stepped s by (spot_lines names g.policy g.main spot by) to waits
  inner_step s h waits by spot to sits es inner env e =
      let one = chained (λ (pair : ℕ × ℕ). option_map (landing pair) (mem_after t h.mem spot by)) (next_at g h.pos h.state by) to e in
      let two = mapped (landing one.0) (mem_after t h.mem spot by) to one.2 in
      subst (λ z. Stepped s by (spot_lines names g.policy g.main spot by) z waits) two.2
      (subst (λ ms. Stepped (state_of_board s.board ms) by (spot_lines names g.policy g.main spot by) (landing one.0 two.0) waits) (sym sits.mems)
      (on s.board.stack s.board.kept s.board.caps s.board.word s.board.phase one.0 two.0 sits.goes sits.stands sits.waiting one.1 two.1))
    where
      on : (stack : List Frame) (kept : List (Option Caps)) (caps : Caps) (word : Word) (phase : Phase) (pair : ℕ × ℕ) (m : ℕ)
          → Together problem g (board_on stack kept caps word phase) (config_of h waits) → StandsOn (Least g) g stack kept caps word phase h.pos h.state (map ret_of waits)
          → Waiting (below stack) kept waits → next_at g h.pos h.state by ≡ Some pair
          → mem_after t h.mem spot by ≡ Some m
          → Stepped (state_of_board (board_on stack kept caps word phase) (mems_of h waits)) by (spot_lines names g.policy g.main spot by) (landing pair m) waits
      on [] kept caps word phase pair m goes stands waiting en em = absurd stands
      on (frame ∷ frames) kept caps word phase pair m goes stands waiting en em = inner_on frame frames kept caps word phase h waits by spot pair m goes stands waiting es inner env en em
