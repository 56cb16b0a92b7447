use Rattle.std.proofs.Common.{◌≡◌, map, subst}
use Rattle.std.specs.Result.{IfOk}
use Rattle.std.specs.List.{flat_map}
use Rattle.cw_syntax.specs.Plans.{Scene}
use Rattle.cw_resolve.specs.Soonest.{soonest}
use Rattle.cw_scope.specs.Descriptors.{misuse, used}
use Rattle.cw_scope.specs.Held.{whole_of}
use Rattle.cw_scope.proofs.misuses.least_misuse_under.Goals as goal

pub returns : goal.returns
returns c = subst (λ (t : Scene). IfOk c.least_misuse.result (λ place. place ≡ soonest (map (misuse t) (flat_map (used t) (map whole_of c.args.wholes.now))))) c.in_ok-scene.ensures.scene c.least_misuse.ensures
