use Rattle.std.proofs.Common.{sym}
use Rattle.std.specs.Cmp.{nat_cmp_total}
use Rattle.std.specs.FinMap.{nat_cmp-IsAntisymmetric}
use Rattle.std.specs.Ordering.{nat_cmp}
use Rattle.cw_fixpoint.proofs.Numbers.{number_at}
use Rattle.cw_lazy_table.proofs.promises.promise_number_near.Goals as goal

pub returns-then-stands : goal.returns-then-stands
returns-then-stands c =
    sym (number_at nat_cmp nat_cmp_total nat_cmp-IsAntisymmetric c.args.promises.now c.args.near c.args.promise.now c.requires.order (c.stands.ensures c.if-stands.true))
