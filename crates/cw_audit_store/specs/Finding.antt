-- What a store has, as a search by its look-ups alone.
use Rattle.std.specs.Prelude.{ℕ, option_map}
use Rattle.cw_audit_store.specs.declared.row_key.Entrance.{Entrance}
use Rattle.cw_audit_store.specs.declared.row_key.RowKey.{RowKey}
use Rattle.cw_audit_store.specs.declared.row_key.Row.{Row}
use Rattle.cw_audit_store.specs.declared.row_key.Way.{Way}
use Rattle.cw_audit_store.specs.declared.row_key.Way.TheVariants as store
use Rattle.cw_audit_store.specs.declared.row_key.Entered.{Entered}
use Rattle.cw_audit_store.specs.declared.row_key.Hit.{Hit}
use Rattle.cw_audit_store.specs.declared.store.Store.{Store}
use Rattle.cw_audit_store.specs.Stores.{row_at, group_at}
use Rattle.cw_audit_search.specs.Searches.{Found}
use Rattle.cw_audit_search.specs.Ways as way

abbrev pub entrance : (f q : ℕ) → Entrance
entrance f q = record { function = f; state = record { 0 = q } }

abbrev pub row_key : (f q p x : ℕ) → RowKey
row_key f q p x = record { entrance = entrance f q; pos = record { 0 = p }; state = record { 0 = x } }

-- what was found, by numbers alone
abbrev pub found_of : Store → Found
found_of s = record {
  reach = λ f q. option_map (λ (e : Entered). e.reach) (group_at s (entrance f q));
  number = λ f q p x. option_map (λ (r : Row). r.inside) (row_at s (row_key f q p x));
  best = option_map (λ (h : Hit). h.distance) s.hit;
}

-- and how it was come to
abbrev pub way_of : Way → way.Way
way_of (store.Begun) = way.Begun
way_of (store.Moved x p by) = way.Moved p.0 x.0 by
way_of (store.Returned x p f y) = way.Returned p.0 x.0 f y.0

abbrev pub caller_of : RowKey → way.Caller
caller_of at = record { function = at.entrance.function; entered = at.entrance.state.0; pos = at.pos.0 }

abbrev pub bad_way_of : Hit → way.BadWay
bad_way_of h = record { function = h.entrance.function; entered = h.entrance.state.0; way = way_of h.way }

abbrev pub ways_of : Store → way.Ways
ways_of s = record {
  row = λ f q p x. option_map (λ (r : Row). way_of r.way) (row_at s (row_key f q p x));
  call = λ f q. option_map (λ (e : Entered). option_map caller_of e.call) (group_at s (entrance f q));
  hit = option_map bad_way_of s.hit;
}
