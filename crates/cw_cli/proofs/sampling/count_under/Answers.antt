use Rattle.std.proofs.Common.{inr, subst, inl}
use Rattle.std.proofs.lemmas.Result.{err_from_is_err_and}
use Rattle.cw_rights.specs.Policies.{policy_of}
use Rattle.cw_source.specs.Read.{ReadsAs}
use Rattle.cw_stages.specs.Counting.{IsCounted}
use Rattle.cw_stages.specs.Reading.{WithSource}
use Rattle.cw_stages.specs.Stops.{file_in, Nothing}
use Rattle.cw_stages.proofs.Answering.{wider_count}
use Rattle.cw_cli.specs.Weaving.{AfterPair}
use Rattle.cw_cli.proofs.sampling.count_under.Goals as goal

pub returns-in_err-reading : goal.returns-in_err-reading
returns-in_err-reading c =
    let p = err_from_is_err_and c.from_residual.result c.from_residual.ensures.1 in
    record { due = rw (p.1, p.2) (λ due r. inl (c.in_err-reading.ensures.stop due r)) }

pub returns : goal.returns
returns c =
    let whole = policy_of c.args.policy.now in
    let source = c.args.source.now in
    let file = file_in c.in_ok-reading.reading in
    let reads = subst (λ s. ReadsAs s file) c.in_ok-reading.ensures.source c.in_ok-reading.ensures.is.reads in
    let due = rw (c.in_ok-reading.ensures.policy, c.in_ok-reading.ensures.source) at c.counted-count.ensures.due in
    record {
      due =
          wider_count whole source (λ numbers. AfterPair (IsCounted numbers whole source file) source whole file)
          (λ numbers. WithSource (λ f. AfterPair (IsCounted numbers whole source f) source whole f) source whole)
          (AfterPair Nothing source whole file) (WithSource (λ f. AfterPair Nothing source whole f) source whole) c.counted-count.result
          (λ numbers due h. inr (file, reads, c.in_ok-reading.ensures.descriptors, h)) (λ due h. inr (file, reads, c.in_ok-reading.ensures.descriptors, h)) due;
    }
