use Rattle.cw_resolve.specs.Scenes.{names_of}
use Rattle.cw_stages.specs.Stops.{file_in, source_of, whole_of}
use Rattle.cw_stages.proofs.Withins.{nodes_few}
use Rattle.cw_stages.proofs.games.draw.Goals as goal

pub returns-in-Ok-clause-points : goal.returns-in-Ok-clause-points
returns-in-Ok-clause-points c =
    nodes_few (names_of (whole_of c.args.reading.now)) (source_of c.args.reading.now) (file_in c.args.reading.now) c.in-Ok.graph c.in-Ok.ensures.graph c.in-Ok.ensures.few
