use Rattle.std.proofs.Common.{◌≤◌, ◌-◌}
use Rattle.cw_rights.specs.Policies.{PlainPolicy}
use Rattle.cw_value.specs.Runs.{Going, most_steps}
use Rattle.cw_starts.specs.Sources.{source_in}
use Rattle.cw_values.specs.Running.{IsRunOf}
use Rattle.cw_values.specs.Stands.{Leads, StandsAt}
use Rattle.cw_values.proofs.looping.steps.Given as goal

abbrev pub invariant-loop-i : goal.invariant-loop-i
invariant-loop-i l =
    (l.i ≤ most_steps)
    × ((policy : PlainPolicy) (g : Going) → IsRunOf policy l.run → StandsAt policy (source_in l.run.known.source) l.fn.start l.initial.m g
    → Leads policy (source_in l.run.known.source) l.point l.m g (most_steps - l.i))
