use Rattle.std.proofs.Common.{ap}
use Rattle.cw_lazy_table.specs.Rowing.{mem_id}
use Rattle.cw_lazy_table.proofs.Numbers.{number_is}
use Rattle.cw_lazy_table.proofs.lists.mem_near.Goals as goal

pub returns-then-stands : goal.returns-then-stands
returns-then-stands c =
    ap mem_id (number_is c.args.mems.now c.args.near c.args.state.0 c.args.promise c.requires.mems.order (c.stands.ensures c.if-stands.true))
