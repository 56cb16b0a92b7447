-- What stands at a point, by its place.
use Rattle.std.specs.Prelude.{ℕ, List, [], ◌∷◌, ◌++◌, Bool, true, false, Option, Some, None, map}
use Rattle.cw_syntax.specs.declared.program.Function.{Function}
use Rattle.cw_syntax.specs.Plans.{Stm, Plain, Return, Open, Close, Call, If, Scene}
use Rattle.cw_syntax.specs.Frames.{Item, Todo, Test, After, End}
use Rattle.cw_resolve.specs.Scenes.{stms_in}
use Rattle.cw_points.specs.Points.{points_in_all}
use Rattle.cw_deeds.specs.declared.items.Row.{Row}
use Rattle.cw_deeds.specs.declared.items.Row.TheVariants as row

abbrev pub statement_row : Stm → Row
statement_row (Plain at) = row.Plain at
statement_row (Return at) = row.Returns at
statement_row (Open at j d) = row.Opens at
statement_row (Close at j d) = row.Closes at
statement_row (Call at j callee) = row.Calls at callee.number callee.result
statement_row (If at s t) = row.Decides at
statement_row _ = row.Rests

abbrev pub test_row : Bool → ℕ → Row
test_row true at = row.Decides at
test_row false at = row.Rests

abbrev pub row_of : Item → Row
row_of (Todo s) = statement_row s
row_of (Test at d u s) = test_row d at
row_of (After at) = row.Steps at
row_of (End f) = row.Ends
row_of _ = row.Rests

abbrev pub init_rows : Option ℕ → List Row
init_rows None = []
init_rows (Some at) = row.Plain at ∷ []

abbrev pub step_rows : Bool → ℕ → List Row
step_rows true at = row.Steps at ∷ []
step_rows false at = []

-- the init, the test and the step of a `for`
abbrev pub head_rows : Option ℕ → (decided stepped : Bool) → ℕ → List Row
head_rows init decided stepped at = init_rows init ++ (test_row decided at ∷ step_rows stepped at)

abbrev pub function_rows : Scene → Function → List Row
function_rows s f = row.Rests ∷ (map row_of (points_in_all (stms_in s f.body.items)) ++ row.Ends ∷ [])
