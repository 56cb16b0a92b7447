use Rattle.std.proofs.lemmas.Result.{err_from_is_err_and}
use Rattle.cw_stages.specs.Stops.{file_in, source_of, told_of, whole_of, Nothing}
use Rattle.cw_parting.specs.Parting.{IsParted}
use Rattle.cw_stages.proofs.Onward.{by_fit}
use Rattle.cw_parting.proofs.Behind.{parted_due}
use Rattle.cw_parting.proofs.parting.told.Goals as goal

pub returns-clause-due : goal.returns-clause-due
returns-clause-due g c =
    let reading = c.args.reading.now in
    parted_due (whole_of reading) (source_of reading) (file_in reading) c.in_ok-verdict.verdict.numbers (told_of c.in_ok-verdict.verdict.text) c.in_ok-verdict.ensures.due

pub returns-in_err-verdict-clause-due : goal.returns-in_err-verdict-clause-due
returns-in_err-verdict-clause-due g c =
    let reading = c.args.reading.now in
    let whole = whole_of reading in
    let source = source_of reading in
    let file = file_in reading in
    let p = err_from_is_err_and c.from_residual.result c.from_residual.ensures.1 in
    rw (p.1, p.2) (λ due r. by_fit Nothing (IsParted whole source file) due (λ k never. absurd never) source whole file (c.in_err-verdict.ensures.due due r))
