use Rattle.std.proofs.Common.{List, subst}
use Rattle.std.specs.List.{Contains}
use Rattle.cw_fixpoint.specs.Closures.{Exactly}
use Rattle.cw_fixpoint.proofs.order.ascending.Goals as goal

pub returns : goal.returns
returns g c = subst (λ (l : List g.row.T.Denot). Exactly g.T.Ord.cmp (Contains l) c.in_ok-found.found.items) c.deref-2.ensures.value c.in_ok-found.ensures
