use Rattle.std.proofs.Common.{◌-◌, nat_le, ap, sym, ◌∙◌}
use Rattle.cw_syntax.specs.Trees.{statements_of}
use Rattle.cw_resolve.specs.Held.{lists}
use Rattle.cw_detach.specs.Form.{nesting_all}
use Rattle.cw_detach.proofs.Depths.{one_more, block_nests}
use Rattle.cw_detach.proofs.nesting.+nesting.Goals as goal

pub is_within-returns-in-Block : goal.is_within-returns-in-Block
is_within-returns-in-Block t c =
    let source = c.args.source.now in
    let names = lists c.args.names.now in
    let kids = c.in-Block.statements in
    c.are_within.ensures
    ∙ ap (λ l. nat_le (nesting_all source names (statements_of l)) (c.args.most - 1)) c.deref.ensures.value
    ∙ one_more (nesting_all source names (statements_of kids.items)) c.args.most c.if-most-eq0.false
    ∙ ap (λ n. nat_le n c.args.most) (sym (block_nests source names c.args.statement.now kids c.in-Block.is))
