use Rattle.cw_figures.proofs.Powers.{wide_fits, product_is}
use Rattle.cw_figures.proofs.operators.product.Goals as goal

-- src/operators.rt:121:5
pub overflow_mul-result : goal.overflow_mul-result
overflow_mul-result c = wide_fits c.args.a c.from.result c.from-2.result c.args.n c.ranges.a c.requires c.from.ensures c.from-2.ensures

-- src/operators.rt:116:1
pub returns : goal.returns
returns c = product_is c.args.a c.from.result c.from-2.result c.args.n c.ranges.a c.requires c.from.ensures c.from-2.ensures
