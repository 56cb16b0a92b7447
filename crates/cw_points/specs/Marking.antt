-- Working definitions: the mark of a seam, by what stands at its point.
use Rattle.std.specs.Prelude.{ℕ, List, Option, Some, None, option_map, option_and_then, slice_get}
use Rattle.std.specs.List.{filter_map}
use Rattle.cw_syntax.specs.declared.program.Name.{Name}
use Rattle.cw_syntax.specs.Marks.{MarkKind, EntryMark, LabelMark, OpenMark, CloseMark, CallMark, SeamMark}
use Rattle.cw_points.specs.declared.graph.Point.{Point}
use Rattle.cw_points.specs.declared.graph.Point.TheVariants.{Entry, Step, Branch, Label, Open, Close, Call, Exit}
use Rattle.cw_points.specs.declared.graph.Node.{Node}
use Rattle.cw_points.specs.declared.graph.Seam.{Seam}

abbrev pub kind_at : Point → Option Name → Option MarkKind
kind_at Entry result = Some EntryMark
kind_at (Label l) result = Some LabelMark
kind_at (Open d) result = Some (OpenMark d)
kind_at (Close d) result = Some CloseMark
kind_at (Call f) result = Some (CallMark result)
kind_at Step result = None
kind_at Branch result = None
kind_at Exit result = None

abbrev pub mark : ℕ → ℕ → MarkKind → SeamMark
mark place number kind = record { place = place; seam = number; kind = kind }

abbrev pub mark_at : Node → Seam → Option SeamMark
mark_at node seam = option_and_then (λ number. option_map (mark seam.place number.0) (kind_at node.point seam.result)) node.seam

abbrev pub mark_in : List Node → Seam → Option SeamMark
mark_in nodes seam = option_and_then (λ node. mark_at node seam) (slice_get nodes seam.point.0)

unfoldable pub marks_by : List Node → List Seam → List SeamMark
marks_by nodes seams = filter_map (mark_in nodes) seams
