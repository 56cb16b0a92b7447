-- The names of a source's functions and labels, as a trace tells them.
use Rattle.std.specs.Prelude.{ℕ, List, [], map, option_map, find, nat_eq, unwrap_or}
use Rattle.cw_syntax.specs.Names.{text}
use Rattle.cw_syntax.specs.Trees.{File}
use Rattle.cw_syntax.specs.Plans.{Plan, function_names}
use Rattle.cw_syntax.specs.Marks.{marks_of}
use Rattle.cw_resolve.specs.declared.labelled.Labelled.{Labelled}
use Rattle.cw_resolve.specs.Held.{lists}
use Rattle.cw_resolve.specs.Labels.{labels_in_file}
use Rattle.cw_trace.specs.declared.names.Names.{Names as NamesData}
use Rattle.cw_trace.specs.Traces.{Names}

-- the name of the label whose `:` ends at this place, and the empty one where none does
abbrev pub label_at : List ℕ → List Labelled → ℕ → List ℕ
label_at source labels place = unwrap_or (option_map (λ l. text source l.name) (find (λ l. nat_eq l.mark place) labels)) []

-- Seams are numbered in the order of their marks: the name of the label at each seam's mark. An entry has none; an open, a close and a call have one
-- only right behind a label's `:`, as in `a:f();`, and no line tells it.
abbrev pub seam_names : List ℕ → File → Plan → List (List ℕ)
seam_names source file plan = map (λ m. label_at source (labels_in_file file) m.place) (marks_of plan)

-- the names of a source's program under a plan of it
abbrev pub names_of : List ℕ → File → Plan → Names
names_of source file plan = record { functions = function_names source file; labels = seam_names source file plan }

-- what the program's data stand for
abbrev pub name_lists : NamesData → Names
name_lists names = record { functions = lists names.functions.items; labels = lists names.labels.items }
