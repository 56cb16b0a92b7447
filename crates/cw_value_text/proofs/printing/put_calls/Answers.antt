use Rattle.std.proofs.Common.{◌∙◌, ap, refl, ◌++◌}
use Rattle.cw_value.specs.declared.values.Made.{Made}
use Rattle.cw_value.specs.Shown.{made_of}
use Rattle.cw_value_text.specs.ValuesText.{call_line}
use Rattle.cw_value_text.proofs.Puts.{each_begin, each_step, each_end, each_mapped}
use Rattle.cw_value_text.proofs.printing.put_calls.Goals as goal

pub loop-one-init : goal.loop-one-init
loop-one-init g c = record { text = each_begin (λ (m : Made). call_line c.args.source.now (made_of m)) c.args.writer.now.text; begun = refl; follows = c.requires.follows }

pub loop-one-preserved : goal.loop-one-preserved
loop-one-preserved g c = record {
  text = each_step (λ (m : Made). call_line c.args.source.now (made_of m)) c.args.writer.now.text c.loop-one.writer.text c.put_call.new.writer.text c.args.made.now c.loop-one.one-index
      c.one-item.result c.loop-one-test.true c.loop-one.invariant.text
      (c.put_call.ensures.text ∙ ap (λ (m : Made). c.loop-one.writer.text ++ call_line c.args.source.now (made_of m)) c.one-item.is);
  begun = c.put_call.ensures.begun ∙ c.loop-one.invariant.begun;
  follows = c.put_call.ensures.follows;
}

pub returns-clause-text : goal.returns-clause-text
returns-clause-text g c =
    each_end (λ (m : Made). call_line c.args.source.now (made_of m)) c.args.writer.now.text c.loop-one.writer.text c.args.made.now c.loop-one.one-index c.loop-one-test.false c.loop-one.invariant.text
    ∙ ap (λ t. c.args.writer.now.text ++ t) (each_mapped (call_line c.args.source.now) made_of c.args.made.now)
