use Rattle.std.proofs.Common.{rules, ◌≡◌}
use Rattle.cw_strategy_text.proofs.Puts.{empty_put}
use Rattle.cw_strategy_text.proofs.printing.put_aim.Goals as goal

pub returns-then-eq-clause-text : goal.returns-then-eq-clause-text
returns-then-eq-clause-text g c =
    let none : c.args.aim.now ≡ 0 = search rules in
    empty_put c.args.format c.args.aim.now c.args.writer.now.text c.put.new.self.text none c.put.ensures.text
