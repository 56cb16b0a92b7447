-- Who wins the game of a program and a policy, and the text that says so.
use Rattle.std.specs.Prelude.{◌≡◌, ◌⊎◌, ℕ, ◌<◌, ◌≤◌, List, None}
use Rattle.cw_core.specs.Quantities.{limit_of}
use Rattle.cw_core.specs.declared.quantity.Quantity.TheVariants.{Cells, Rows}
use Rattle.cw_rights.specs.Policies.{PlainPolicy}
use Rattle.cw_syntax.specs.Trees.{File}
use Rattle.cw_syntax.specs.Marks.{marks_of}
use Rattle.cw_certs.specs.Ascending.{Ascends}
use Rattle.cw_certs.specs.Tables.{Table}
use Rattle.cw_certs.specs.Strategies.{Strategy}
use Rattle.cw_model.specs.Boards.{problem_of, start_board, Forced}
use Rattle.cw_model.specs.Runs.{Sound, Lazy}
use Rattle.cw_game.specs.Games.{Game}
use Rattle.cw_game.specs.Pairs.{all_states}
use Rattle.cw_game.specs.Conditions.{IsGoodTable, IsGoodStrategy}
use Rattle.cw_solve.specs.declared.contexts.Context.{Context}
use Rattle.cw_solve.specs.Contexts.{cells_of, IsHeight, HeightIs, AreTheNeeded, AreTooMany}
use Rattle.cw_lazy_table.specs.Lazy.{IsLazyTable, table_rows}
use Rattle.cw_least_strategy.specs.Backs.{BacksAscend}
use Rattle.cw_least_strategy.specs.Strategies.{IsLeastStrategy, rows_of}
use Rattle.cw_strategy_text.specs.StrategyText.{strategy_text}
use Rattle.cw_emit.specs.Cut.{cut}
use Rattle.cw_emit.specs.Woven.{Stands}
use Rattle.cw_commands.specs.declared.outcome.Reply.TheVariants.{Yes, No}
use Rattle.cw_commands.specs.Outcomes.{Due, Told, Refused}
use Rattle.cw_stages.specs.Refusals.{over}
use Rattle.cw_stages.specs.Strategies.{Wins}

-- whether the pair at which the program begins is lost, all exit states of `main` promised
abbrev pub StartHolds : Game → Type 0
StartHolds g = HeightIs g (g.entry g.main) g.states.start (all_states g) None

abbrev pub StartIsLost : Game → Type 0
StartIsLost g = (n : ℕ) × IsHeight g (g.entry g.main) g.states.start (all_states g) n

-- The text stands for the source and a table, and it is the source but for marked insertions. The table is the lazy one, its lists ascend, and it meets
-- the nine conditions of the game. So every woven run of the program with it, of any length, meets the policy and keeps exactly the source's paths; a primitive is tried,
-- and the program stopped, only where skipping is lost; and nothing can force a violation from the start.
pub record IsWoven (whole : PlainPolicy) (source : List ℕ) (file : File) (g : Game) (text : List ℕ) : Type 0 where
  pub table : Table
  pub stands : Stands text source (marks_of (problem_of whole source file).plan) table whole
  pub inserted : cut text ≡ source
  pub is_lazy : IsLazyTable g table
  pub ascends : Ascends table
  pub few : table_rows table ≤ limit_of Rows
  pub good : IsGoodTable g table
  pub sound : Sound (problem_of whole source file) table
  pub lazy : Lazy (problem_of whole source file) table
  pub never : (n : ℕ) → Forced (problem_of whole source file) n (start_board (problem_of whole source file)) → ⊥

-- The text is that of a strategy, the one by least heights, whose backs ascend and which meets the eight conditions of the game. So from its start row it beats every weaver of
-- the program: whatever is tried, and wherever, it comes to a violation. So a violation is forced from the start, after some number of moves.
pub record IsRefuted (whole : PlainPolicy) (source : List ℕ) (file : File) (g : Game) (text : List ℕ) : Type 0 where
  pub strategy : Strategy
  pub spelled : text ≡ strategy_text whole.format strategy
  pub is_least : IsLeastStrategy g strategy
  pub ascend : BacksAscend strategy
  pub few : rows_of strategy ≤ limit_of Rows
  pub good : IsGoodStrategy g strategy
  pub wins : Wins (problem_of whole source file) g strategy
  pub forced : (n : ℕ) × Forced (problem_of whole source file) n (start_board (problem_of whole source file))

-- The woven text with status 0, or the text of a strategy with status 1.
abbrev pub IsVerdict : PlainPolicy → List ℕ → File → Game → Due → Type 0
IsVerdict whole source file g (Told Yes text) = IsWoven whole source file g text
IsVerdict whole source file g (Told No text) = IsRefuted whole source file g text
IsVerdict whole source file g (Refused cause line) = ⊥

-- the game's lazy table, or where the start is lost its strategy by least heights, has too many rows
abbrev pub HasManyRows : Game → Type 0
HasManyRows g =
    (StartHolds g × ((t : Table) × IsLazyTable g t × (limit_of Rows < table_rows t)))
    ⊎ (StartIsLost g × ((s : Strategy) × IsLeastStrategy g s × (limit_of Rows < rows_of s)))

-- That these rows are too many, or what comes next for the game, which is the verdict or stands on it.
abbrev pub AfterCells : (Game → Due → Type 0) → Game → Due → Type 0
AfterCells Next g due = (HasManyRows g × (due ≡ over Rows)) ⊎ Next g due

-- the cells of the contexts that the game needs are too many, or they are not
abbrev pub HasManyCells : Game → Type 0
HasManyCells g = (contexts : List Context) × AreTooMany g contexts

abbrev pub HasFewCells : Game → Type 0
HasFewCells g = (contexts : List Context) × AreTheNeeded g contexts × (cells_of g contexts ≤ limit_of Cells)

-- That the cells are too many, or what comes behind that.
abbrev pub AfterGame : (Game → Due → Type 0) → Game → Due → Type 0
AfterGame Next g due = (HasManyCells g × (due ≡ over Cells)) ⊎ (HasFewCells g × AfterCells Next g due)
