use Rattle.std.proofs.Common.{◌∙◌, refl}
use Rattle.cw_certs.specs.Strategies.{how_of}
use Rattle.cw_strategy_text.proofs.Puts.{nothing_put, lines_step}
use Rattle.cw_stages.proofs.least.put_rows.Goals as goal

pub loop-number-init : goal.loop-number-init
loop-number-init g c = record { text = nothing_put c.args.format c.args.writer.now.text; begun = refl; follows = c.requires.follows }

pub loop-number-preserved : goal.loop-number-preserved
loop-number-preserved g c = record {
  text = lines_step c.args.format c.args.writer.now.text c.loop-number.writer.text c.put_row.new.writer.text c.args.strategy.now.rows c.loop-number.number
      (record { pos = c.row-row.result.pos.0; state = c.row-row.result.state.0; aim = c.row-row.result.aim.now; how = how_of c.row-row.result.how.now }) c.loop-number.invariant.text c.put_row.ensures.text
      c.row-row.ensures;
  begun = c.put_row.ensures.begun ∙ c.loop-number.invariant.begun;
  follows = c.put_row.ensures.follows;
}
