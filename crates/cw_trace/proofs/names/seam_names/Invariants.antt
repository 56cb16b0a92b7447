use Rattle.std.proofs.Common.{◌≡◌, ◌++◌, map, drop}
use Rattle.cw_resolve.specs.Held.{lists}
use Rattle.cw_trace.specs.Labels.{label_at}
use Rattle.cw_trace.proofs.names.seam_names.Given as goal

abbrev pub invariant-loop-seam : goal.invariant-loop-seam
invariant-loop-seam l = lists l.names.items ++ map (λ s. label_at l.source l.labels s.place) (drop l.seam-index l.seams) ≡ map (λ s. label_at l.source l.labels s.place) l.seams
