-- Worlds by a list of steps: the environment makes those of the list, and after each the weaver moves, in every process whose turn is
-- the weaver's, up to the environment's next turn there.
use Rattle.std.specs.Prelude.{◌≡◌, ℕ, suc, List, [], ◌∷◌, ◌++◌, Bool, true, false, cond, Option, Some, None, option_map, take, length, slice_get}
use Rattle.cw_certs.specs.Tables.{Table}
use Rattle.cw_model.specs.Boards.{Problem, Phase, Visit, Refused}
use Rattle.cw_worlds.specs.Worlds.{World, Act, WorldStep, Step, Goes, world_after, start_world}

-- What a line of the list says: a process, and what it does.
pub record Entry : Type 0 where
  pub process : ℕ
  pub act : Act

abbrev pub is_weavers_in : Phase → Bool
is_weavers_in (Visit stage a later) = true
is_weavers_in (Refused stage a later) = true
is_weavers_in _ = false

-- the first process at which it is the weaver's turn
abbrev pub weavers_first : World → Option ℕ
weavers_first [] = None
weavers_first (s ∷ w) = cond (is_weavers_in s.board.phase) (Some 0) (option_map (λ i. suc i) (weavers_first w))

-- that process is the one that moves, where there is one
abbrev pub IsInTurn : Option ℕ → ℕ → Type 0
IsInTurn None i = Unit {0}
IsInTurn (Some j) i = i ≡ j

abbrev pub AreInTurn : World → List Step → Type 0
AreInTurn w [] = Unit {0}
AreInTurn w (s ∷ later) = IsInTurn (weavers_first w) s.process × AreInTurn s.next later

-- the step as an entry of the list, where no weaver moves
abbrev pub entry_by : Option ℕ → Step → List Entry
entry_by None s = record { process = s.process; act = s.act } ∷ []
entry_by (Some j) s = []

-- the steps that the environment makes, in order
abbrev pub entries_of : World → List Step → List Entry
entries_of w [] = []
entries_of w (s ∷ later) = entry_by (weavers_first w) s ++ entries_of s.next later

-- How a world by a list ends: after all steps, with so many processes; or at the entry with this number, from 0, which is no step of the world.
pub data End : Type 0 where
  Done : ℕ → End
  BadStep : ℕ → End

abbrev pub IsNoStep : Problem → Table → List ℕ → World → Entry → Type 0
IsNoStep p t forks w entry = (next : World) → WorldStep p t forks w entry.process entry.act next → ⊥

-- what has been read of the list, and what holds where the world ends
abbrev pub EndsBy : Problem → Table → List ℕ → List Entry → End → World → List Entry → Type 0
EndsBy p t forks list (Done n) w entries = (entries ≡ list) × (n ≡ length w)
EndsBy p t forks list (BadStep i) w entries = (entries ≡ take i list) × ((entry : Entry) × (slice_get list i ≡ Some entry) × IsNoStep p t forks w entry)

-- These are the steps of the world by the list, from the start.
pub record IsWorldBy (p : Problem) (t : Table) (forks : List ℕ) (list : List Entry) (end : End) (steps : List Step) : Type 0 where
  pub goes : Goes p t forks (start_world p t) steps
  pub turns : AreInTurn (start_world p t) steps
  -- the weaver has made its moves, after the last entry too
  pub rests : weavers_first (world_after (start_world p t) steps) ≡ None
  pub ends : EndsBy p t forks list end (world_after (start_world p t) steps) (entries_of (start_world p t) steps)
