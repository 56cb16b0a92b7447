use Rattle.std.proofs.Common.{ap}
use Rattle.cw_syntax.specs.Plans.{Scene}
use Rattle.cw_detach.proofs.detaching.name_fault_under.Goals as goal

pub name_fault-requires-clause-functions : goal.name_fault-requires-clause-functions
name_fault-requires-clause-functions c = ap (λ (s : Scene). s.functions) c.in_ok-scene.ensures.scene
