use Rattle.std.proofs.Common.{◌∙◌, refl, pos}
use Rattle.cw_value.specs.declared.values.Arg.TheVariants.{Number}
use Rattle.cw_value_text.specs.Working.{behind}
use Rattle.cw_value_text.proofs.Puts.{each_begin, each_step, each_end}
use Rattle.cw_value_text.proofs.printing.put_others.Goals as goal

pub loop-arg-init : goal.loop-arg-init
loop-arg-init g c = record { text = each_begin (behind c.args.source.now) c.args.writer.now.text; begun = refl; follows = c.requires.follows }

pub loop-arg-preserved : goal.loop-arg-preserved
loop-arg-preserved g c = record {
  text = each_step (behind c.args.source.now) c.args.writer.now.text c.loop-arg.writer.text c.put_behind.new.writer.text c.args.args.now c.loop-arg.arg-index (Number (pos 0)) c.loop-arg-test.true
      c.loop-arg.invariant.text c.put_behind.ensures.text;
  begun = c.put_behind.ensures.begun ∙ c.loop-arg.invariant.begun;
  follows = c.put_behind.ensures.follows;
}

pub returns-clause-text : goal.returns-clause-text
returns-clause-text g c = each_end (behind c.args.source.now) c.args.writer.now.text c.loop-arg.writer.text c.args.args.now c.loop-arg.arg-index c.loop-arg-test.false c.loop-arg.invariant.text
