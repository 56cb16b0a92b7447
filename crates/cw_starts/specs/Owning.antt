-- The names that a function declares, as the code holds them.
use Rattle.std.specs.Prelude.{Bool, false}
use Rattle.cw_syntax.specs.declared.program.Name.{Name}
use Rattle.cw_syntax.specs.Trees.{Declared}
use Rattle.cw_value.specs.Starts.{Own}
use Rattle.cw_starts.specs.declared.owns.Own.{Own as HeldOwn}

abbrev pub own_in : HeldOwn → Own
own_in o = record { name = o.name; fixed = o.fixed }

abbrev pub own_of : Bool → Declared → Own
own_of fixed i = record { name = i.name; fixed = fixed }

abbrev pub param_own : Name → Own
param_own n = record { name = n; fixed = false }
