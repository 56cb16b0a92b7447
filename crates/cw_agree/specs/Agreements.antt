-- What the plain run and the woven run over values have in common.
use Rattle.std.specs.Prelude.{◌≡◌, ◌≢◌, ◌⊎◌, ℕ, List, ◌∷◌, ◌++◌, true, Option}
use Rattle.cw_core.specs.declared.ids.SeamId.{SeamId}
use Rattle.cw_rights.specs.declared.capabilities.Primitive.{Primitive}
use Rattle.cw_rights.specs.Policies.{PlainPolicy}
use Rattle.cw_certs.specs.declared.moves.Move.{Move}
use Rattle.cw_certs.specs.declared.moves.Move.TheVariants.{Refuse, Stop as StopMove}
use Rattle.cw_certs.specs.Tables.{Table}
use Rattle.cw_syntax.specs.Frames.{Way}
use Rattle.cw_model.specs.Boards.{Problem, Asked, may_grant, move_of}
use Rattle.cw_model.specs.Runs.{State}
use Rattle.cw_value.specs.declared.values.Stop.{Stop}
use Rattle.cw_value.specs.declared.values.Stop.TheVariants.{Ended, Steps, Refused}
use Rattle.cw_value.specs.Expressions.{Made}
use Rattle.cw_value.specs.Machines.{Source, Machine, goes, step}
use Rattle.cw_value.specs.Shown.{Values}
use Rattle.cw_value.specs.Runs.{Going, answer, counted, ended_values, is_split, IsFree, IsWeaving, Leads, Chooses}

-- The weaver has ended the woven run, which only a policy with stop lets it; the calls made so far are the first ones of the plain run's.
pub record IsCut (policy : PlainPolicy) (v w : Values) : Type 0 where
  pub seam : SeamId
  pub refused : w.stop ≡ Refused seam
  pub can_stop : policy.stop ≡ true
  pub more : List Made
  pub made : v.made ≡ w.made ++ more

-- The woven run w makes the external calls of the plain run v, with the same arguments in the same order, and ends as it does; or the weaver has ended it.
abbrev pub Agrees : PlainPolicy → Values → Values → Type 0
Agrees policy v w = ((v.made ≡ w.made) × (v.stop ≡ w.stop)) ⊎ IsCut policy v w

-- a stop at an expression
abbrev pub IsPlaced : Stop → Type 0
IsPlaced Ended = ⊥
IsPlaced Steps = ⊥
IsPlaced (Refused seam) = ⊥
IsPlaced _ = Unit {0}

-- A run comes from a state to a later one by moves of the weaver, answers to it and steps of the program.
pub data Comes (source : Source) (p : Problem) (weaver : Option Table) (s : Going) : Going → Type 0 where
  here : Comes source p weaver s s
  weaves : (t : Going) (m : Move) (next : State) → Comes source p weaver s t → IsWeaving t.woven.board.phase → Chooses source p weaver m → m ≢ StopMove
      → Leads source p weaver t.woven m next → Comes source p weaver s (record t { woven = next; tried = counted m t.tried })
  asks : (t : Going) (stage : ℕ) (a : Primitive) (later : List Primitive) (next : State) → Comes source p weaver s t → t.woven.board.phase ≡ Asked stage a later
      → Leads source p weaver t.woven (answer p t.woven.board a t.tries).0 next
      → Comes source p weaver s (record t { woven = next; tries = (answer p t.woven.board a t.tries).1 })
  steps : (t : Going) (way : Way) (m : Machine) (next : State) → Comes source p weaver s t → IsFree t.woven.board.phase
      → step source (is_split t.woven.board.phase) t.woven.board.stack t.machine ≡ goes way m → Leads source p weaver t.woven (move_of way) next
      → Comes source p weaver s (record t { woven = next; machine = m })

-- A run from a state comes to one where a try is asked that may be granted too, takes a refusal from its list, and the weaver ends it there.
pub record IsRefused (source : Source) (p : Problem) (weaver : Option Table) (s : Going) (v : Values) : Type 0 where
  pub before : Going
  pub comes : Comes source p weaver s before
  pub stage : ℕ
  pub primitive : Primitive
  pub later : List Primitive
  pub asked : before.woven.board.phase ≡ Asked stage primitive later
  pub grantable : may_grant before.woven.board.caps primitive ≡ true
  pub left : List Move
  pub taken : before.tries ≡ Refuse ∷ left
  pub next : State
  pub refuses : Leads source p weaver before.woven Refuse next
  pub seam : SeamId
  pub ends : v ≡ ended_values (record before { woven = next; tries = left }) (Refused seam)

-- no end by a weaver
abbrev pub IsUnrefused : Stop → Type 0
IsUnrefused (Refused seam) = ⊥
IsUnrefused _ = Unit {0}
