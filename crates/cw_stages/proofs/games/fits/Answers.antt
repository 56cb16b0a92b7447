use Rattle.cw_resolve.specs.Scenes.{names_of}
use Rattle.cw_stages.specs.Stops.{source_of, whole_of}
use Rattle.cw_stages.proofs.Withins.{few_functions}
use Rattle.cw_stages.proofs.games.fits.Goals as goal

pub fit_fault-requires-clause-few : goal.fit_fault-requires-clause-few
fit_fault-requires-clause-few c = few_functions (names_of (whole_of c.args.reading.now)) (source_of c.args.reading.now) c.args.reading.now.checked.program c.requires.is.reads
