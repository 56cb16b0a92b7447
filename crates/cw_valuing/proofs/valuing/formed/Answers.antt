use Rattle.std.proofs.Common.{inl, inr, sym, ◌∙◌}
use Rattle.cw_value.specs.Shown.{answers_of}
use Rattle.cw_stages.specs.Games.{WithGame}
use Rattle.cw_stages.specs.Stops.{file_in, source_of, whole_of}
use Rattle.cw_stages.proofs.Answering.{weaker}
use Rattle.cw_valuing.specs.Refusals.{WithForm}
use Rattle.cw_valuing.specs.Valuing.{IsValuesShown}
use Rattle.cw_valuing.proofs.valuing.formed.Goals as goal

pub returns-in-None-clause-due : goal.returns-in-None-clause-due
returns-in-None-clause-due g c =
    let whole = whole_of c.args.reading.now in
    let source = source_of c.args.reading.now in
    let file = file_in c.args.reading.now in
    let graph = c.args.graph.now in
    let answers = answers_of c.args.answers.now in
    let table = c.args.table.now in
    weaker whole source (WithGame (IsValuesShown source whole file table answers) source whole file graph) (WithForm (IsValuesShown source whole file table answers) source whole file)
    c.with_game.result (λ due h. inr (sym c.in_ok-shape.ensures.shape ∙ c.in-None.is, graph, c.requires.graph, h)) c.with_game.ensures.due

pub returns-in-Some-clause-due : goal.returns-in-Some-clause-due
returns-in-Some-clause-due g c = λ due r. inl (c.in-Some.at, sym c.in_ok-shape.ensures.shape ∙ c.in-Some.is, r)
