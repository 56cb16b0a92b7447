use Rattle.std.proofs.Common.{ap}
use Rattle.cw_rights.specs.Policies.{policy_of}
use Rattle.cw_resolve.specs.Scenes.{names_of}
use Rattle.cw_source_laws.proofs.Leaving.{leaves_main}
use Rattle.cw_source_laws.proofs.Opening.{read_programs_assign}
use Rattle.cw_source.proofs.Runnable.{runnable}
use Rattle.cw_stages.specs.Stops.{file_in, source_of, whole_of}
use Rattle.cw_stages.proofs.Made.{is_made}
use Rattle.cw_stages.proofs.games.make_game.Goals as goal

pub make-requires-clause-graph : goal.make-requires-clause-graph
make-requires-clause-graph c =
    let source = source_of c.args.reading.now in
    let file = file_in c.args.reading.now in
    record { source = source; file = file; runnable = runnable (names_of (whole_of c.args.reading.now)) source file c.requires.is.reads; drawn = c.requires.graph }

pub returns-in-Ok-clause-game : goal.returns-in-Ok-clause-game
returns-in-Ok-clause-game c = record { graph_is = c.in-Ok.ensures.graph; policy_is = ap policy_of c.in-Ok.ensures.policy; lists = c.in-Ok.ensures.lists }

pub returns-in-Ok-clause-made : goal.returns-in-Ok-clause-made
returns-in-Ok-clause-made c =
    let source = source_of c.args.reading.now in
    let file = file_in c.args.reading.now in
    let whole = whole_of c.args.reading.now in
    is_made c.in-Ok.game whole c.args.graph.now c.in-Ok.ensures.graph (ap policy_of c.in-Ok.ensures.policy) c.requires.is.valid
    (record { source = source; file = file; runnable = runnable (names_of whole) source file c.requires.is.reads; drawn = c.requires.graph })
    (leaves_main (names_of whole) whole source file c.args.graph.now c.requires.is.reads c.requires.graph) c.in-Ok.ensures.lists c.in-Ok.ensures.few c.in-Ok.ensures.pairs

pub returns-in-Ok-clause-is_game : goal.returns-in-Ok-clause-is_game
returns-in-Ok-clause-is_game c =
    let source = source_of c.args.reading.now in
    let file = file_in c.args.reading.now in
    let runs = runnable (names_of (whole_of c.args.reading.now)) source file c.requires.is.reads in
    c.in-Ok.ensures.is_game source file c.requires.graph runs (read_programs_assign source file c.requires.is.reads)

pub returns-in-Err-clause-stop : goal.returns-in-Err-clause-stop
returns-in-Err-clause-stop c = λ due d.
    let p = c.game_stop.ensures (whole_of c.args.reading.now) (source_of c.args.reading.now) due d in
    (c.in-Err.fault, p.0, c.in-Err.ensures.cause, p.1)
