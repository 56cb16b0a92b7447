use Rattle.std.proofs.Common.{◌+◌, ◌-◌, ◌<◌, length}
use Rattle.std.specs.Prelude.{IfSome}
use Rattle.cw_links.specs.Lists.{list_at}
use Rattle.cw_links.specs.Flat.{IsWalked}
use Rattle.cw_links.proofs.rows.push_list.Given as goal

abbrev pub invariant-walk : goal.invariant-walk
invariant-walk g l = record {
  known : IfSome l.next (λ cell. cell < length l.trails.values);
  walked : IsWalked l.trails (list_at l.trails.lists l.list) l.fn.values.items l.values.items l.next;
}

abbrev pub decreases-walk : goal.decreases-walk
decreases-walk g l = length (list_at l.trails.lists l.list) + length l.fn.values.items - length l.values.items
