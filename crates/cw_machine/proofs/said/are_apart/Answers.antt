use Rattle.std.proofs.Common.{◌+◌, arith, drop, subst}
use Rattle.cw_apart.specs.Starts.{Ascend}
use Rattle.cw_machine.proofs.Behind.{apart, ascend_all, ascend_more}
use Rattle.cw_machine.specs.Knowing.{said_in}
use Rattle.cw_machine.proofs.said.are_apart.Goals as goal

pub loop-statement-preserved : goal.loop-statement-preserved
loop-statement-preserved c =
    let xs = c.args.statements.now in
    let i = c.loop-statement.statement-index in (
      omega arith,
      λ h. c.loop-statement.invariant.1 (ascend_more xs i c.loop-statement.from 4294967296 c.statement-item.result c.loop-statement-test.true c.statement-item.is (omega arith)
          (subst (λ n. Ascend (n + 1) 4294967296 (said_in (drop (i + 1) xs))) c.from-from.ensures h)),
    )

pub returns : goal.returns
returns c = record {
  apart = λ _. apart 4294967296 (said_in c.args.statements.now)
      (c.loop-statement.invariant.1 (ascend_all c.args.statements.now c.loop-statement.statement-index c.loop-statement.from 4294967296 (omega arith) c.loop-statement.invariant.0));
}
