use Rattle.std.proofs.Common.{◌+◌, ℕ, length, eqb, ap, rules, tests}
use Rattle.std.proofs.lemmas.Result.{err_from_is_err_and}
use Rattle.std.proofs.lemmas.List.{length_push}
use Rattle.std.proofs.lemmas.Iterator.Splits.{YieldsList-from_slice_split}
use Rattle.std.proofs.lemmas.Iterator.Consumers.{YieldsList-at, YieldsList-turn, YieldsList-end}
use Rattle.cw_text.proofs.Added.{line_more, line_fault, is_tape}
use Rattle.cw_text.proofs.tapes.read_tape.Goals as goal

pub loop-line-preserved : goal.loop-line-preserved
loop-line-preserved c =
    let t = YieldsList-turn (YieldsList-at c.into_iter-line-iterator.ensures.into_iter_gives
    (YieldsList-from_slice_split _ (λ (b : ℕ). eqb b 10) c.args.text.now c.split-line-items.ensures.rest c.split-line-items.ensures.done c.split-line-items.ensures.closure (λ x r q k. search (rules, tests))))
    c.loop-line.yielded _ c.loop-line.yielded_by _ _ c.in-Some.line c.in-Some.is c.next.ensures.steps in
    rw (length_push c.loop-line.yielded c.in-Some.line) (record {
      counted = ap (λ n. n + 1) c.loop-line.invariant.counted;
      names = line_more c.args.play c.args.text.now (length c.loop-line.yielded) c.in-Some.line.now c.loop-line.moves.items c.read_line.new.moves.items t.0 t.1 c.loop-line.invariant.names c.in_ok-read_line.ensures.moves;
    })

pub returns-in_err-read_line-clause-fault : goal.returns-in_err-read_line-clause-fault
returns-in_err-read_line-clause-fault c =
    let t = YieldsList-turn (YieldsList-at c.into_iter-line-iterator.ensures.into_iter_gives
    (YieldsList-from_slice_split _ (λ (b : ℕ). eqb b 10) c.args.text.now c.split-line-items.ensures.rest c.split-line-items.ensures.done c.split-line-items.ensures.closure (λ x r q k. search (rules, tests))))
    c.loop-line.yielded _ c.loop-line.yielded_by _ _ c.in-Some.line c.in-Some.is c.next.ensures.steps in
    let p = err_from_is_err_and c.from_residual.result c.from_residual.ensures.1 in
    rw (p.1, p.2)
    (line_fault c.args.play c.args.text.now (length c.loop-line.yielded) (c.loop-line.number + 1) c.in-Some.line.now c.loop-line.moves.items t.0 t.1
    (ap (λ n. n + 1) c.loop-line.invariant.counted) c.loop-line.invariant.names c.in_err-read_line.field-0.0 c.in_err-read_line.ensures.fault)

pub returns-clause-moves : goal.returns-clause-moves
returns-clause-moves c =
    let t = YieldsList-end (YieldsList-at c.into_iter-line-iterator.ensures.into_iter_gives
    (YieldsList-from_slice_split _ (λ (b : ℕ). eqb b 10) c.args.text.now c.split-line-items.ensures.rest c.split-line-items.ensures.done c.split-line-items.ensures.closure (λ x r q k. search (rules, tests))))
    c.loop-line.yielded _ c.loop-line.yielded_by _ _ c.in-None.is c.next.ensures.steps in
    is_tape c.args.play c.args.text.now (length c.loop-line.yielded) c.loop-line.moves.items t.1 c.loop-line.invariant.names
