use Rattle.std.proofs.Common.{map, ap, ◌∙◌}
use Rattle.cw_boards.specs.declared.paths.Front.{Front}
use Rattle.cw_boards.proofs.Passing.{erased_is}
use Rattle.cw_boards.proofs.paths.erased.Goals as goal

pub returns : goal.returns
returns c = record { erased = λ item s run seen. ap (map (λ (front : Front). item front.0)) c.in_ok-path.ensures ∙ erased_is item s run c.args.states.now seen }
