use Rattle.std.proofs.Common.{◌≡◌, drop}
use Rattle.cw_syntax.specs.Trees.{declared_of}
use Rattle.cw_slots.specs.Shown.{scope_of}
use Rattle.cw_eval.specs.Parts.{declared_one}
use Rattle.cw_eval.specs.Shown.{memory_of}
use Rattle.cw_eval.proofs.Along.{along}
use Rattle.cw_eval.proofs.declarations.declare_all.Given as goal

abbrev pub invariant-loop-item : goal.invariant-loop-item
invariant-loop-item l =
    along (λ i d. declared_one (scope_of l.scope) (declared_of d)) l.item-index (drop l.item-index l.items) (memory_of l.m)
    ≡ along (λ i d. declared_one (scope_of l.scope) (declared_of d)) 0 l.items (memory_of l.initial.m)
