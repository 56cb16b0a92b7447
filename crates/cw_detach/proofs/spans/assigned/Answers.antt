use Rattle.std.proofs.Common.{◌≢◌, length, ap, sym, ◌∙◌, arith}
use Rattle.cw_syntax.specs.declared.program.Op.TheVariants.{Assign}
use Rattle.cw_syntax.specs.Trees.{trees_of, Node}
use Rattle.cw_resolve.specs.Held.{lists}
use Rattle.cw_detach.specs.Form.{result_of}
use Rattle.cw_detach.proofs.Nodes.{not_two}
use Rattle.cw_detach.proofs.spans.assigned.Goals as goal

pub returns-in-len1 : goal.returns-in-len1
returns-in-len1 c = λ from to.
    let parts = c.args.parts.now in
    let source = c.args.source.now in
    let names = lists c.args.names.now in
    let n : length parts ≢ 2 = λ e. absurd (omega arith) in
    sym (ap (λ b. result_of source names (Node (Assign b) (trees_of parts) from to)) c.if-by-ne0.false ∙ not_two source names parts from to n)

pub returns-in-len3-up : goal.returns-in-len3-up
returns-in-len3-up c = λ from to.
    let parts = c.args.parts.now in
    let source = c.args.source.now in
    let names = lists c.args.names.now in
    let n : length parts ≢ 2 = λ e. absurd (omega arith) in
    sym (ap (λ b. result_of source names (Node (Assign b) (trees_of parts) from to)) c.if-by-ne0.false ∙ not_two source names parts from to n)
