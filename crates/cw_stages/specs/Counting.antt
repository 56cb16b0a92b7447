-- The numbers of what `weave` makes of a policy and a source.
use Rattle.std.specs.Prelude.{◌≡◌, ℕ, List, length}
use Rattle.cw_rights.specs.Policies.{PlainPolicy}
use Rattle.cw_syntax.specs.Trees.{File}
use Rattle.cw_syntax.specs.Plans.{plan_of}
use Rattle.cw_resolve.specs.Scenes.{names_of}
use Rattle.cw_points.specs.Points.{point_count}
use Rattle.cw_game.specs.Games.{Game}
use Rattle.cw_solve.specs.declared.contexts.Context.{Context}
use Rattle.cw_solve.specs.Contexts.{cells_of, AreTheNeeded}
use Rattle.cw_lazy_table.specs.Lazy.{table_rows}
use Rattle.cw_least_strategy.specs.Strategies.{rows_of}
use Rattle.cw_commands.specs.declared.outcome.Reply.TheVariants.{Yes, No}
use Rattle.cw_commands.specs.Outcomes.{Due, Told, Refused}
use Rattle.cw_stages.specs.declared.numbers.Numbers.{Numbers}
use Rattle.cw_stages.specs.Verdicts.{IsRefuted, IsWoven}

-- the points of the program, the positions and the states of the game, the contexts that it needs and their cells
pub record AreNumbers (whole : PlainPolicy) (source : List ℕ) (file : File) (g : Game) (numbers : Numbers) : Type 0 where
  pub contexts : List Context
  pub needed : AreTheNeeded g contexts
  pub are_points : numbers.points ≡ point_count (plan_of (names_of whole) source file)
  pub are_positions : numbers.positions ≡ length g.spots
  pub are_states : numbers.states ≡ g.states.count
  pub are_contexts : numbers.contexts ≡ length contexts
  pub are_cells : numbers.cells ≡ cells_of g contexts

-- The verdict with these numbers, and the rows of its table, or of its strategy.
abbrev pub IsCounted : Numbers → PlainPolicy → List ℕ → File → Game → Due → Type 0
IsCounted numbers whole source file g (Told Yes text) =
    (woven : IsWoven whole source file g text) × (numbers.rows ≡ table_rows woven.table) × AreNumbers whole source file g numbers
IsCounted numbers whole source file g (Told No text) =
    (refuted : IsRefuted whole source file g text) × (numbers.rows ≡ rows_of refuted.strategy) × AreNumbers whole source file g numbers
IsCounted numbers whole source file g (Refused cause line) = ⊥
