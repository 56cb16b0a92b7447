use Rattle.std.proofs.Common.{refl, arith}
use Rattle.std.proofs.lemmas.Option.{none-some}
use Rattle.cw_core.proofs.Readings.{reads_first, reads_run, reads_last, reads_prefix, reads_next, three_parts, has_more-same}
use Rattle.cw_core.proofs.reading_ranges.set_of_runs.Goals as goal

pub runs-init : goal.runs-init
runs-init c = record {
  reads = λ target below some e. rw c.empty-set.ensures.zero (reads_first c.args.text.now target below some e);
  within = omega arith;
}

pub returns-in_err-least : goal.returns-in_err-least
returns-in_err-least c = record {
  found = λ target below some e.
      absurd (none-some _ (reads_run c.args.text.now target c.runs.set c.runs.at _ (c.runs.invariant.reads target below some e) c.in_err-least.ensures.found).1);
}

pub returns-then-end-text : goal.returns-then-end-text
returns-then-end-text c = record {
  found = λ target below some e.
      let p = reads_run c.args.text.now target c.runs.set c.runs.at _ (c.runs.invariant.reads target below some e) c.in_ok-least.ensures.found in
      let parts = three_parts _ _ _ _ _ _ p.1 in
      let more = has_more-same _ _ c.runs.set c.insert_run.new.set _ _ parts.0 parts.1 c.insert_run.ensures.members in
      rw (reads_last c.args.text.now target c.runs.set c.insert_run.new.set c.runs.at c.in_ok-least.end p.0 more parts.2 c.if-end-text.true) refl;
}

pub returns-then-text-end-ne43 : goal.returns-then-text-end-ne43
returns-then-text-end-ne43 c = record {
  found = λ target below some e.
      let p = reads_run c.args.text.now target c.runs.set c.runs.at _ (c.runs.invariant.reads target below some e) c.in_ok-least.ensures.found in
      let parts = three_parts _ _ _ _ _ _ p.1 in
      absurd (c.if-text-end-ne43.true (reads_prefix c.args.text.now target c.runs.set c.runs.at c.in_ok-least.end p.0 parts.2 (omega (arith, c.in_ok-least.ensures.within.3, c.if-end-text.false))));
}

pub runs-preserved : goal.runs-preserved
runs-preserved c = record {
  reads = λ target below some e.
      let p = reads_run c.args.text.now target c.runs.set c.runs.at _ (c.runs.invariant.reads target below some e) c.in_ok-least.ensures.found in
      let parts = three_parts _ _ _ _ _ _ p.1 in
      let more = has_more-same _ _ c.runs.set c.insert_run.new.set _ _ parts.0 parts.1 c.insert_run.ensures.members in
      reads_next c.args.text.now target c.runs.set c.insert_run.new.set c.runs.at c.in_ok-least.end p.0 more parts.2 (omega (arith, c.in_ok-least.ensures.within.3, c.if-end-text.false));
  within = omega (arith, c.in_ok-least.ensures.within.3, c.if-end-text.false);
}
