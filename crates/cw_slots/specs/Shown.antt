-- What the code's scopes stand for.
use Rattle.std.specs.Prelude.{map}
use Rattle.cw_value.specs.Expressions.{Scope}
use Rattle.cw_slots.specs.declared.scope.Scope.{Scope as HeldScope}
pub use Rattle.cw_slots.specs.Locations.{location_in}

abbrev pub scope_of : HeldScope → Scope
scope_of s = record { source = s.source.now; own = s.own.now; shared = s.shared.now; given = map (λ g. (g.0.items, g.1)) s.given.now }
