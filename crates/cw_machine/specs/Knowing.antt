-- What a run goes by, as the code holds it.
use Rattle.std.specs.Prelude.{◌≡◌, ℕ, List, map, Option, Some, None, slice_get}
use Rattle.std.specs.List.{All}
use Rattle.std.specs.Borrow.{Bor}
use Rattle.cw_syntax.specs.declared.program.Stmt.{Stmt}
use Rattle.cw_syntax.specs.Trees.{Statement, Definition, File}
use Rattle.cw_value.specs.Expressions.{Named}
use Rattle.cw_value.specs.Deeds.{Deed, Rests, said_all}
use Rattle.cw_value.specs.Machines.{Source, function, no_names, own_if, own_names, shared_names}
use Rattle.cw_slots.specs.Standing.{Seen, seen}
use Rattle.cw_slots.specs.Texts.{statement_at}
use Rattle.cw_deeds.specs.declared.items.Row.{Row}
use Rattle.cw_deeds.specs.declared.items.Row.TheVariants as row
use Rattle.cw_deeds.specs.Forms.{deed_among}
use Rattle.cw_starts.specs.Sources.{source_in}
use Rattle.cw_eval.specs.Passings.{deed_in}
use Rattle.cw_machine.specs.declared.known.Known.{Known}
use Rattle.cw_machine.specs.declared.tasks.Task.{Task}

abbrev pub said_in : List (Bor Stmt) → List Statement
said_in said = map statement_at said

-- what passing a row does
abbrev pub deed_for : Option Definition → Row → Deed
deed_for None row = Rests
deed_for (Some f) row = deed_among (said_all f.body) row

-- a task is right: its deed is that of its row, in the function that it names
abbrev pub IsTask : List Definition → Task → Type 0
IsTask functions t = deed_in t.deed ≡ deed_for (slice_get functions t.function) t.row

abbrev pub rows_in : List Task → List Row
rows_in tasks = map (λ t. t.row) tasks

-- what stands in a function with these names
abbrev pub seen_by : List ℕ → File → Named → Seen
seen_by bytes file own = seen bytes own (shared_names bytes file)

-- the names are the file's and its functions', the statements each function's, the tasks right, and what stands in each function is known by its names
pub record IsKnown (k : Known) : Type 0 where
  pub shared : k.shared.now ≡ shared_names (source_in k.source).bytes (source_in k.source).file
  pub none : k.none.now ≡ no_names
  pub own : k.own.now ≡ map (own_names (source_in k.source).bytes) (source_in k.source).file.functions
  pub said : map said_in k.said.now ≡ map (λ f. said_all f.body) (source_in k.source).file.functions
  pub tasks : All (IsTask (source_in k.source).file.functions) k.tasks.now
  pub standing : k.standing.now ≡ map (λ f. seen_by (source_in k.source).bytes (source_in k.source).file (own_names (source_in k.source).bytes f)) (source_in k.source).file.functions
  pub nowhere : k.nowhere.now ≡ seen_by (source_in k.source).bytes (source_in k.source).file no_names

abbrev pub names_for : Source → ℕ → Named
names_for s number = own_if s.bytes (function s number)

abbrev pub standing_for : Source → ℕ → Seen
standing_for s number = seen_by s.bytes s.file (names_for s number)

-- the place of the statement that a row stands for
abbrev pub place_of : Row → ℕ
place_of row.Rests = 0
place_of (row.Plain at) = at
place_of (row.Returns at) = at
place_of (row.Opens at) = at
place_of (row.Closes at) = at
place_of (row.Calls at callee x) = at
place_of (row.Decides at) = at
place_of (row.Steps at) = at
place_of row.Ends = 0
