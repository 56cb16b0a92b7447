use Rattle.std.proofs.Common.{inl, inr}
use Rattle.std.proofs.lemmas.Result.{err_from_is_err_and}
use Rattle.cw_value.specs.Shown.{answers_of}
use Rattle.cw_stages.specs.Stops.{file_in, source_of, whole_of}
use Rattle.cw_stages.proofs.Answering.{weaker}
use Rattle.cw_valuing.specs.Refusals.{WhereFormed, WithForm}
use Rattle.cw_valuing.specs.Valuing.{IsValuesShown}
use Rattle.cw_valuing.proofs.valuing.fitted.Goals as goal

pub returns-in_err-fits-clause-due : goal.returns-in_err-fits-clause-due
returns-in_err-fits-clause-due g c =
    let p = err_from_is_err_and c.from_residual.result c.from_residual.ensures.1 in
    rw (p.1, p.2) (λ due r. inl (c.in_err-fits.ensures.stop due r))

pub returns-clause-due : goal.returns-clause-due
returns-clause-due g c =
    let whole = whole_of c.args.reading.now in
    let source = source_of c.args.reading.now in
    let file = file_in c.args.reading.now in
    let answers = answers_of c.args.answers.now in
    let table = c.args.table.now in
    weaker whole source (WithForm (IsValuesShown source whole file table answers) source whole file) (WhereFormed (IsValuesShown source whole file table answers) source whole file)
    c.formed.result (λ due h. inr (c.in_ok-fits.ensures.fits, h)) c.formed.ensures.due
