use Rattle.std.proofs.Common.{arith}
use Rattle.cw_steps.proofs.Behind.{no_step, few_lines, step_more, steps_fit, count_more}
use Rattle.cw_steps.proofs.reading.read_steps.Goals as goal

pub returns-in_default-clause-fault : goal.returns-in_default-clause-fault
returns-in_default-clause-fault c =
    no_step c.args.text.now c.lines.rest.now c.lines.steps.items c.lines.number c.is_empty.result c.lines.invariant.text c.lines.invariant.fits c.lines.invariant.number c.is_empty.ensures c.lines-test.true
    c.in_default.ensures.none

pub overflow_add-number : goal.overflow_add-number
overflow_add-number c =
    let few = few_lines c.args.text.now c.lines.rest.now c.lines.steps.items c.lines.number c.requires c.lines.invariant.text c.lines.invariant.number in
    omega (arith, few)

pub lines-preserved : goal.lines-preserved
lines-preserved c = record {
  text = step_more c.args.text.now c.lines.rest.now c.in-Some.more.now c.lines.steps.items c.push.new.self.items c.in-Some.step c.in_ok-push.ensures.items c.lines.invariant.text c.in-Some.ensures.some;
  fits = steps_fit c.lines.steps.items c.push.new.self.items c.in-Some.step c.in_ok-push.ensures.items c.lines.invariant.fits c.in-Some.ensures.some.fits;
  number = count_more c.lines.steps.items c.push.new.self.items c.in-Some.step c.lines.number c.in_ok-push.ensures.items c.lines.invariant.number;
}
