use Rattle.std.proofs.Common.{ap, ◌∙◌, arith, slice_set, true}
use Rattle.cw_product.proofs.Using.{closed_one, closed_none}
use Rattle.cw_product.proofs.uses.put_close.Goals as goal

pub returns-then-closed-lt8 : goal.returns-then-closed-lt8
returns-then-closed-lt8 c = λ nodes node is same.
    ap (λ xs. slice_set xs c.args.closed true) same ∙ closed_one nodes node c.args.closed is (omega (arith, c.if-closed-lt8.true))

pub returns-else-closed-lt8 : goal.returns-else-closed-lt8
returns-else-closed-lt8 c = λ nodes node is same. same ∙ closed_none nodes node c.args.closed is (omega (arith, c.if-closed-lt8.false))
