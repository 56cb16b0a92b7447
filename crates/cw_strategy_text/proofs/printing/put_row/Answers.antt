use Rattle.cw_certs.specs.Strategies.{how_of}
use Rattle.cw_strategy_text.proofs.Puts.{row_put}
use Rattle.cw_strategy_text.proofs.printing.put_row.Goals as goal

pub returns-clause-text : goal.returns-clause-text
returns-clause-text g c =
    row_put c.args.format c.args.number (record { pos = c.args.at.0.0; state = c.args.at.1.0; aim = c.args.aim.now; how = how_of c.args.how.now }) c.args.writer.now.text c.put_number.new.self.text
    c.put_row_head.new.writer.text c.put_how.new.writer.text c.put.new.self.text c.put_number.ensures.text c.put_row_head.ensures.text c.put_how.ensures.text c.put.ensures.text
