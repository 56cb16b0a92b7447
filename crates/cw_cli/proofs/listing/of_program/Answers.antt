use Rattle.std.proofs.Common.{inl}
use Rattle.cw_syntax.specs.Trees.{file_of}
use Rattle.cw_source_graph.specs.Own.{own_names}
use Rattle.cw_commands.proofs.Starting.{unput_one}
use Rattle.cw_stages.proofs.Withins.{few_functions}
use Rattle.cw_cli.proofs.listing.of_program.Goals as goal

pub draw_own-requires : goal.draw_own-requires
draw_own-requires g c =
    let source = c.args.checked.now.source.now in
    let program = c.args.checked.now.program in
    record { few = few_functions (own_names source (file_of program)) source program c.requires.reads }

pub returns-in-Err-TooManyPoints-clause-due : goal.returns-in-Err-TooManyPoints-clause-due
returns-in-Err-TooManyPoints-clause-due g c = inl (c.in-Err-TooManyPoints.ensures.many c.in-Err-TooManyPoints.field-0-is, c.over.ensures.due)

pub returns-in-Err-TooManyPoints-clause-puts : goal.returns-in-Err-TooManyPoints-clause-puts
returns-in-Err-TooManyPoints-clause-puts g c = unput_one g.O.Sink.taken g.O.Sink.faults g.O.Sink.refused c.args.out.now c.over.result c.over.ensures.refused
