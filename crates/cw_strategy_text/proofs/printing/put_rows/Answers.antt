use Rattle.std.proofs.Common.{◌∙◌, map, refl}
use Rattle.cw_lemmas.proofs.Lists.{get_mapped}
use Rattle.cw_certs.specs.Strategies.{row_of}
use Rattle.cw_strategy_text.proofs.Puts.{nothing_put, lines_step}
use Rattle.cw_strategy_text.proofs.printing.put_rows.Goals as goal

pub loop-number-init : goal.loop-number-init
loop-number-init g c = record { text = nothing_put c.args.format c.args.writer.now.text; begun = refl; follows = c.requires.follows }

pub loop-number-preserved : goal.loop-number-preserved
loop-number-preserved g c = record {
  text = lines_step c.args.format c.args.writer.now.text c.loop-number.writer.text c.put_row.new.writer.text (map row_of c.args.rows.now) c.loop-number.number
      (row_of c.index-rows-number.result) c.loop-number.invariant.text c.put_row.ensures.text
      (get_mapped row_of c.args.rows.now c.loop-number.number c.index-rows-number.result c.loop-number-test.true c.index-rows-number.is);
  begun = c.put_row.ensures.begun ∙ c.loop-number.invariant.begun;
  follows = c.put_row.ensures.follows;
}
