use Rattle.std.proofs.Common.{◌≤◌, ◌*◌, ◌-◌, [], map}
use Rattle.std.specs.List.{All}
use Rattle.cw_rights.specs.Policies.{policy_of}
use Rattle.cw_product.specs.Product.{game_of}
use Rattle.cw_run.specs.Walks.{IsHere, IsWait, here_of, wait_of}
use Rattle.cw_value.specs.Runs.{Going, most_steps}
use Rattle.cw_starts.specs.Sources.{source_in}
use Rattle.cw_values.specs.Running.{IsRunOf}
use Rattle.cw_woven_values.specs.Standing.{IsWoven}
use Rattle.cw_woven_values.specs.Stepping.{StandsWoven}
use Rattle.cw_woven_values.specs.Ending.{Leads}
use Rattle.cw_woven_values.proofs.looping.steps.Given as goal

abbrev pub invariant-loop-i : goal.invariant-loop-i
invariant-loop-i l =
    record {
      below : l.i ≤ most_steps;
      few : l.tries.made ≤ 14 * l.i;
      here : IsHere (game_of l.game) (here_of l.stand.here);
      waits : All (λ w. IsWait (game_of l.game) (wait_of w)) l.waits.items;
      leads : (w : IsWoven l.game (source_in l.run.known.source) l.table) (woven : Going) → IsRunOf (policy_of l.game.states.policy) l.run
          → StandsWoven l.game (source_in l.run.known.source) l.table w l.fn.start l.initial.m [] l.initial.tries.left.now l.initial.tries.made woven
          → Leads l.game (source_in l.run.known.source) l.table w l.stand l.m (map wait_of l.waits.items) l.tries.left.now l.tries.made woven (most_steps - l.i);
    }
