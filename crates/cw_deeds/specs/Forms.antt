-- A statement of a function by its place, as the code finds it, and what passing it does.
use Rattle.std.specs.Prelude.{ℕ, List, Option, option_and_then, option_map, find}
use Rattle.cw_syntax.specs.Trees.{Trees, none, more, Statement, Form, parts_of}
use Rattle.cw_value.specs.Deeds.{Deed, Rests, Computes, Decides, Opens, Calls, Answers, arguments_if, begins_at, condition, evaluated, form_of, next_turn, plain_if, returned}
use Rattle.cw_deeds.specs.declared.items.Row.{Row}
use Rattle.cw_deeds.specs.declared.items.Row.TheVariants as row

abbrev pub form_in : List Statement → ℕ → Option Form
form_in said at = option_map form_of (find (begins_at at) said)

-- what passing it does in a function that has these statements
abbrev pub deed_among : List Statement → Row → Deed
deed_among said row.Rests = Rests
deed_among said (row.Plain at) = plain_if (form_in said at)
deed_among said (row.Returns at) = Answers (option_and_then returned (form_in said at))
deed_among said (row.Opens at) = Opens (option_and_then evaluated (form_in said at))
deed_among said (row.Closes at) = Computes (option_and_then evaluated (form_in said at))
deed_among said (row.Calls at n x) = Calls (arguments_if (option_and_then evaluated (form_in said at)))
deed_among said (row.Decides at) = Decides (option_and_then condition (form_in said at))
deed_among said (row.Steps at) = Computes (option_and_then next_turn (form_in said at))
deed_among said row.Ends = Rests

-- the parts of the second part
abbrev pub second_parts : Trees → Trees
second_parts (more x (more t rest)) = parts_of t
second_parts _ = none
