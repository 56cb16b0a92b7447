-- What the conditions of a table are good for.
use Rattle.std.specs.Prelude.{◌≡◌, ℕ, ◌+◌, ◌≤◌, List, [], true, length}
use Rattle.cw_core.specs.Quantities.{limit_of}
use Rattle.cw_core.specs.declared.quantity.Quantity.TheVariants.{Limits}
use Rattle.cw_certs.specs.Tables.{Table}
use Rattle.cw_model.specs.Boards.{Problem, start_board, Forced}
use Rattle.cw_model.specs.Runs.{State, WovenRun, Goes, reached, erased, tries, Sound, Lazy}
use Rattle.cw_game.specs.Games.{AreStates, Game, IsLost}
use Rattle.cw_game.specs.Reached.{Reached}
use Rattle.cw_game.specs.Places.{IsLaidOut, HasRoutines}
use Rattle.cw_game.specs.Closed.{is_closed_table}
use Rattle.cw_game.specs.Conditions.{IsGoodTable}
use Rattle.cw_game.specs.Standing.{IsGameOf}
use Rattle.cw_game.specs.Necessity.{TriesOnlyLost}

-- Each table that meets the nine conditions of a game of a program and its policy is sound, over stacks of any depth: no woven run violates, no path
-- is added, each path is that of a run without a stop, and each stop comes right after a refusal of what could have been granted.
abbrev pub GoodTablesAreSound : Type 0
GoodTablesAreSound = (p : Problem) (g : Game) (t : Table) → IsGameOf p g → IsGoodTable g t → length p.policy.limits ≤ limit_of Limits → Sound p t

-- Where it tries only what is lost to skip, and stops only where going on is lost, it is lazy.
abbrev pub GoodTablesAreLazy : Type 0
GoodTablesAreLazy = (p : Problem) (g : Game) (t : Table) → IsGameOf p g → IsGoodTable g t → TriesOnlyLost g t → Lazy p t

-- Where a game is laid out for a program, and its states are the policy's, each table that is closed under the game's moves is sound, over stacks of
-- any depth.
abbrev pub ConditionsMakeSound : Type 0
ConditionsMakeSound = (p : Problem) (g : Game) (t : Table) → g.policy ≡ p.policy
    → AreStates g.policy g.spots g.states (Reached g.policy g.spots g.states) → IsLaidOut p.plan g
    → is_closed_table g t ≡ true → length p.policy.limits ≤ limit_of Limits → Sound p t

-- Where the program has the functions that are called, too, and the table tries only what is lost to skip and stops only where going on is lost, a
-- primitive is tried, and the program stopped, at a board of a woven run only where the board after a skip is forced.
abbrev pub LostPairsMakeLazy : Type 0
LostPairsMakeLazy = (p : Problem) (g : Game) (t : Table) → g.policy ≡ p.policy
    → AreStates g.policy g.spots g.states (Reached g.policy g.spots g.states) → IsLaidOut p.plan g → HasRoutines p.plan g
    → is_closed_table g t ≡ true → TriesOnlyLost g t → Lazy p t

-- Where the start is lost with all states promised it is forced.
abbrev pub LostStartIsForced : Type 0
LostStartIsForced = (p : Problem) (g : Game) → g.policy ≡ p.policy
    → AreStates g.policy g.spots g.states (Reached g.policy g.spots g.states) → IsLaidOut p.plan g → HasRoutines p.plan g
    → IsLost g (g.entry g.main) g.states.start (λ x. true) → (n : ℕ) × Forced p n (start_board p)

-- Whatever the table, between two steps of the program there are at most two tries more than the policy has limits: 14 for the most that a policy may have, 12.
abbrev pub TriesAreFew : Type 0
TriesAreFew = (p : Problem) (t : Table) (run later : List State) → WovenRun p t run → Goes p t (reached p t run) later
    → erased (reached p t run) later ≡ [] → tries later ≤ length p.policy.limits + 2
