use Rattle.std.proofs.Common.{◌≡◌, drop}
use Rattle.cw_syntax.specs.Trees.{tree_of}
use Rattle.cw_slots.specs.Shown.{location_in, scope_of}
use Rattle.cw_eval.specs.Parts.{listed_at}
use Rattle.cw_eval.specs.Shown.{memory_of}
use Rattle.cw_eval.proofs.Along.{along}
use Rattle.cw_eval.proofs.declarations.fill.Given as goal

abbrev pub invariant-loop-i : goal.invariant-loop-i
invariant-loop-i l =
    along (λ i e. listed_at (scope_of l.scope) (location_in l.location) l.size i (tree_of e)) l.i (drop l.i l.init) (memory_of l.m)
    ≡ along (λ i e. listed_at (scope_of l.scope) (location_in l.location) l.size i (tree_of e)) 0 l.init (memory_of l.initial.m)
