-- The laws of lazy tables.
use Rattle.cw_lazy_table.specs.Laws.{LiveIsKept, LazyTablesAreGood, LazyTablesTryOnlyLost}
use Rattle.cw_lazy_table.proofs.Keeping.{safe}
use Rattle.cw_lazy_table.proofs.Only.{only_lost}
use Rattle.cw_lazy_table.proofs.Ranging.{lazy_good}

pub live_is_kept : LiveIsKept
live_is_kept g functions can p q e live =
    let h = safe g functions can.routed can.staged can.first can.kept p q e live in
    record { function = h.function; state = h.state; of = h.of; needed = h.needed; kept = h.kept }

pub tables_are_good : LazyTablesAreGood
tables_are_good g functions can known t lazy = lazy_good g functions can.routed can.staged can.first can.kept known t lazy

pub tables_try_only_lost : LazyTablesTryOnlyLost
tables_try_only_lost g functions can t lazy = only_lost g functions can.routed can.staged can.first can.kept t lazy
