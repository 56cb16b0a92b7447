use Rattle.std.proofs.Common.{◌∙◌, sym}
use Rattle.cw_scope.specs.Held.{nested_of}
use Rattle.cw_resolve.specs.Held.{lists}
use Rattle.cw_detach.specs.Form.{result_in}
use Rattle.cw_detach.proofs.Placing.{first_given}
use Rattle.cw_detach.proofs.spans.first_result.Goals as goal

pub returns-in-Some : goal.returns-in-Some
returns-in-Some c =
    first_given nested_of (λ p. result_in c.args.source.now (lists c.args.names.now) p.statement) c.args.statements.now c.loop-nested.nested-index c.nested-item.result c.in-Some.place
    c.loop-nested-test.true c.nested-item.is (sym c.result_in.ensures ∙ c.in-Some.is) ∙ c.loop-nested.invariant
