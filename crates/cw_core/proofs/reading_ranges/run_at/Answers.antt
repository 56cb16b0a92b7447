use Rattle.std.proofs.Common.{◌+◌, length, refl, arith, Some}
use Rattle.std.proofs.lemmas.Option.{none-some, some_pair_parts}
use Rattle.cw_core.specs.Ranges.{run_text}
use Rattle.cw_core.proofs.Readings.{first_number, run_answer}
use Rattle.cw_core.proofs.reading_ranges.run_at.Goals.{then-least-greatest-via-then-least-greatest, then-least-greatest-via-else-least-greatest+then-greatest-ge1024}
use Rattle.cw_core.proofs.reading_ranges.run_at.Goals as goal

pub returns-in_err-least-clause-found : goal.returns-in_err-least-clause-found
returns-in_err-least-clause-found c = λ run rest up below e stop. absurd (none-some _ (c.in_err-least.ensures.found run.least (first_number c.args.text.now c.args.at run rest up below e stop)))

pub returns-in_err-greatest-clause-found : goal.returns-in_err-greatest-clause-found
returns-in_err-greatest-clause-found c = λ run rest up below e stop.
    let first = c.in_ok-least.ensures.found run.least (first_number c.args.text.now c.args.at run rest up below e stop) in
    absurd (none-some _ (run_answer c.args.text.now c.args.at run rest c.in_ok-least.least c.in_ok-least.after _ below e stop first c.in_err-greatest.ensures.lone c.in_err-greatest.ensures.long).1)

pub returns-then-least-greatest-clause-found : goal.returns-then-least-greatest-clause-found
returns-then-least-greatest-clause-found c = λ run rest up below e stop.
    let first = c.in_ok-least.ensures.found run.least (first_number c.args.text.now c.args.at run rest up below e stop) in
    let answer = run_answer c.args.text.now c.args.at run rest c.in_ok-least.least c.in_ok-least.after (Some (c.in_ok-greatest.greatest, c.in_ok-greatest.end)) below e stop first c.in_ok-greatest.ensures.lone c.in_ok-greatest.ensures.long in
    let parts = some_pair_parts c.in_ok-greatest.greatest run.greatest c.in_ok-greatest.end (c.args.at + length (run_text run)) answer.1 in
    absurd (elim c.then-least-greatest.branch [
      | then-least-greatest-via-then-least-greatest w ↦ omega (arith, w.if-least-greatest.true, answer.0, parts.0, up)
      | then-least-greatest-via-else-least-greatest+then-greatest-ge1024 w ↦ omega (arith, w.if-greatest-ge1024.true, parts.0, below)
    ])

pub returns-clause-found : goal.returns-clause-found
returns-clause-found c = λ run rest up below e stop.
    let first = c.in_ok-least.ensures.found run.least (first_number c.args.text.now c.args.at run rest up below e stop) in
    let answer = run_answer c.args.text.now c.args.at run rest c.in_ok-least.least c.in_ok-least.after (Some (c.in_ok-greatest.greatest, c.in_ok-greatest.end)) below e stop first c.in_ok-greatest.ensures.lone c.in_ok-greatest.ensures.long in
    let parts = some_pair_parts c.in_ok-greatest.greatest run.greatest c.in_ok-greatest.end (c.args.at + length (run_text run)) answer.1 in
    rw (answer.0, parts.0, parts.1) refl
