use Rattle.std.proofs.Common.{ap, sym, ◌∙◌, arith}
use Rattle.cw_syntax.specs.Trees.{statement_of, statements_of}
use Rattle.cw_points.specs.Sizes.{size, size_all, capped}
use Rattle.cw_points.proofs.Counting.{size_block, size_for, head_size}
use Rattle.cw_points.proofs.count.+counts.Goals as goal

pub count-returns-in-Block : goal.count-returns-in-Block
count-returns-in-Block t c =
    c.count_all.ensures ∙ ap (λ l. capped (size_all (statements_of l))) c.deref.ensures.value
    ∙ sym (ap capped (size_block c.args.statement.now c.in-Block.statements c.in-Block.is))

pub count-returns-in-For : goal.count-returns-in-For
count-returns-in-For t c =
    let e = size_for c.args.statement.now c.in-For.head c.in-For.body c.in-For.is in
    let inner = c.count-in-For.ensures ∙ ap (λ b. capped (size (statement_of b))) c.deref-in-For.ensures in
    let head = c.head_count.ensures ∙ ap head_size c.deref-in-For-2.ensures in
    omega (arith, e, inner, head, c.add-in-For.ensures)
