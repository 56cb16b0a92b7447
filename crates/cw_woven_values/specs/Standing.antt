-- Where a woven run stands, beside a plain one.
use Rattle.std.specs.Prelude.{◌≡◌, ℕ, suc, List, length, Option, Some, is_some}
use Rattle.std.specs.List.{All}
use Rattle.cw_rights.specs.Policies.{PlainPolicy, policy_of}
use Rattle.cw_rights.specs.Valid.{IsValid}
use Rattle.cw_certs.specs.declared.moves.Move.{Move}
use Rattle.cw_certs.specs.declared.moves.Move.TheVariants.{Refuse}
use Rattle.cw_certs.specs.Tables.{Table}
use Rattle.cw_syntax.specs.Runnable.{IsRunnable}
use Rattle.cw_resolve.specs.Scenes.{names_of}
use Rattle.cw_callgraph.specs.Fitting.{Fits}
use Rattle.cw_points.specs.Graphs.{IsGraph}
use Rattle.cw_positions.specs.Opens.{AssignsNames}
use Rattle.cw_model.specs.Boards.{Problem, problem_of, Phase, Visit, Asked, Refused as RefusedPhase, Free, FreeSplit, begin}
use Rattle.cw_model.specs.Runs.{State, start_state}
use Rattle.cw_game.specs.Conditions.{IsGoodTable}
use Rattle.cw_states.specs.States.{AreLists, lists_of}
use Rattle.cw_product.specs.Product.{Held, game_of}
use Rattle.cw_product.specs.Uses.{uses_of}
use Rattle.cw_trace.specs.Steps.{Step, Follows, state_after}
use Rattle.cw_run.specs.Walks.{Here, Wait, Next}
use Rattle.cw_run.proofs.Sits.{Sits}
use Rattle.cw_value.specs.Machines.{Source}
use Rattle.cw_value.specs.Shown.{Values, IsAnswer}
use Rattle.cw_value.specs.Runs.{Going, Ends, answer_by}
use Rattle.cw_agree.proofs.Paired.{Paired}
use Rattle.cw_agree.proofs.Invariants.{Inv, invariant}
use Rattle.cw_values.specs.Stands.{plan}

-- where an answer leads, by where a grant and a refusal lead
abbrev pub by_answer : Option Next → Option Next → Move → Option Next
by_answer granted refused Refuse = refused
by_answer granted refused _ = granted

-- what is answered, and the answers that are left
abbrev pub given : Option Next → Option Next → List Move → Move × List Move
given granted refused left = answer_by (is_some granted) (is_some refused) left

-- What a woven run goes by: the game is the program's and the policy's, which fits it, and the table is good.
pub record IsWoven (h : Held) (s : Source) (t : Table) : Type 0 where
  pub valid : IsValid (policy_of h.states.policy)
  pub lists : AreLists (uses_of (policy_of h.states.policy) h.graph.nodes.items) (lists_of h.states)
  pub drawn : IsGraph (names_of (policy_of h.states.policy)) s.bytes s.file h.graph
  pub runs : IsRunnable (plan (policy_of h.states.policy) s)
  pub assigns : AssignsNames s.bytes s.file
  pub good : IsGoodTable (game_of h) t
  pub fits : Fits s.bytes s.file (policy_of h.states.policy)

-- nothing is asked or refused
abbrev pub IsCalm : Phase → Type 0
IsCalm (Visit stage a later) = Unit {0}
IsCalm Free = Unit {0}
IsCalm FreeSplit = Unit {0}
IsCalm _ = ⊥

abbrev pub IsAsked : Phase → Type 0
IsAsked (Asked stage a later) = Unit {0}
IsAsked _ = ⊥

-- how many primitives of the front are still to be passed
abbrev pub to_come : Phase → ℕ
to_come (Visit stage a later) = suc (length later)
to_come (Asked stage a later) = suc (length later)
to_come (RefusedPhase stage a later) = suc (length later)
to_come _ = 0

module _ (h : Held) (s : Source) (t : Table) where
  abbrev pub policy : PlainPolicy
  policy = policy_of h.states.policy

  abbrev pub problem : Problem
  problem = problem_of policy s.bytes s.file

  -- the front of a run is new
  abbrev pub IsFresh : Going → Type 0
  IsFresh run = run.woven.board.phase ≡ begin policy run.woven.board.stack

  -- a woven run comes to this state
  abbrev pub Comes : State → Type 0
  Comes state = (steps : List Step) × Follows problem t (start_state problem t) steps × (state_after (start_state problem t) steps ≡ state)

  -- each end of the second state is one of the first
  abbrev pub EndsAlike : Going → Going → Type 0
  EndsAlike run now = (n : ℕ) → (v : Values) → Ends s problem (Some t) (suc n) now v → Ends s problem (Some t) (suc n) run v

  -- the same with one step of the program between them
  abbrev pub EndsBehind : Going → Going → Type 0
  EndsBehind run now = (n : ℕ) → (v : Values) → Ends s problem (Some t) n now v → Ends s problem (Some t) (suc n) run v

  -- Beside a plain run a woven one stands at a landing of the game, over calls that wait; these answers to tries are left, and so many tries were made.
  pub record Weaves (w : IsWoven h s t) (plain : Going) (here : Here) (waits : List Wait) (left : List Move) (made : ℕ) (run : Going) : Type 0 where
    pub paired : Paired s problem (Some t) (Inv policy s w.fits) (invariant policy s w.fits) plain run
    pub sits : Sits problem.plan (game_of h) run.woven here waits
    pub comes : Comes run.woven
    pub tries : run.tries ≡ left
    pub answers : All IsAnswer left
    pub tried : run.tried ≡ made
