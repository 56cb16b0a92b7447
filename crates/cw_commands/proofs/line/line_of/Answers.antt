use Rattle.std.proofs.Common.{rules, ◌≡◌, ◌<◌, length, arith}
use Rattle.clap.specs.Words.{app_of, rule_of}
use Rattle.cw_commands.specs.Lines.{argument_rule}
use Rattle.cw_commands.proofs.Collected.{next_line, operand_at}
use Rattle.cw_commands.proofs.line.line_of.Goals as goal

pub loop-operand-preserved : goal.loop-operand-preserved
loop-operand-preserved c =
    let operands = c.args.operands.now in
    let k = c.loop-operand.operand-index in
    let lt : k < length operands = omega (arith, c.loop-operand-test.true) in
    let ruled : rule_of c.required.result ≡ argument_rule (operand_at operands k).now = search rules in
    next_line operands k (app_of c.loop-operand.line) (app_of c.in_ok-line.line) (rule_of c.required.result) lt c.loop-operand.invariant ruled (c.in_ok-line.ensures.shape (search rules))
