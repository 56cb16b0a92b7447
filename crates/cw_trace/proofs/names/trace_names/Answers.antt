use Rattle.cw_trace.proofs.Named.{all_named}
use Rattle.cw_trace.proofs.names.trace_names.Goals as goal

pub returns : goal.returns
returns c = record {
  names = λ given drawn.
      all_named given c.args.checked.now.source.now c.args.checked.now.program c.args.graph.now _ _ _ _ _ c.in_ok-functions.ensures.names c.in_ok-labelled.ensures.labels
      c.in_ok-labels.ensures c.deref.ensures.value c.deref-2.ensures.value drawn;
}
