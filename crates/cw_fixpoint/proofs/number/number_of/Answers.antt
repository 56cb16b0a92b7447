use Rattle.std.proofs.Common.{sym, arith}
use Rattle.cw_fixpoint.proofs.Numbers.{found_at, lost_at}
use Rattle.cw_fixpoint.proofs.number.number_of.Goals as goal

pub returns-in-Ok : goal.returns-in-Ok
returns-in-Ok g c = record {
  is = sym (found_at g.T.Ord.cmp g.met.T.Ord.total c.requires.exact c.args.items.now c.args.item.now c.in-Ok.index c.requires.order c.in-Ok.ensures.bound c.in-Ok.ensures.ok);
  within = omega (arith, c.in-Ok.ensures.bound);
}

pub returns-in-Err : goal.returns-in-Err
returns-in-Err g c = record {
  is = sym (lost_at g.T.Ord.cmp g.met.T.Ord.total c.requires.exact c.args.items.now c.args.item.now c.in-Err.field-0 c.requires.order c.in-Err.ensures.position);
  within = omega arith;
}
