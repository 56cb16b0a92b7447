use Rattle.std.proofs.Common.{List, length, ap, sym}
use Rattle.cw_syntax.specs.declared.program.Function.{Function}
use Rattle.cw_callgraph.proofs.Walked.{all_below}
use Rattle.cw_callgraph.proofs.alone.bar_alone.Goals as goal

pub least_place-requires-clause-within : goal.least_place-requires-clause-within
least_place-requires-clause-within c =
    all_below (length c.deref.result.now) (length c.args.program.now.functions.items) c.in_ok-found.found.numbers.items c.deref-2.result.now c.in_ok-found.ensures.within c.deref-2.ensures.value
    (sym (ap (λ (fs : List Function). length fs) c.deref.ensures.value))
