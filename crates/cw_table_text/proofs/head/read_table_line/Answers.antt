-- A line is that of a table where its name and its fields are.
use Rattle.std.proofs.Common.{arith, refl}
use Rattle.std.proofs.lemmas.Bool.{false≢true}
use Rattle.cw_table_text.proofs.HeadLines.{no_call, other_name, no_fields, more_fields, all_fields}
use Rattle.cw_table_text.proofs.head.read_table_line.Goals as goal

pub returns-in_err-name : goal.returns-in_err-name
returns-in_err-name c = rw c.from_residual.ensures (no_call c.args.format c.args.line.now c.in_err-name.ensures.none)

pub returns-then-not-is_same : goal.returns-then-not-is_same
returns-then-not-is_same c = other_name c.args.format c.args.line.now c.in_ok-name.name.now c.in_ok-name.inner.now (omega (arith, c.ranges.format)) c.in_ok-name.ensures.some.0
    c.in_ok-name.ensures.some.1 (λ e. false≢true (c.if-not-is_same.ensures.1 e))

pub returns-in_err-head : goal.returns-in_err-head
returns-in_err-head c = rw c.from_residual-in_err-head.ensures
    (no_fields c.args.format c.args.line.now c.in_ok-name.name.now c.in_ok-name.inner.now c.take_head.new.fields (omega (arith, c.ranges.format)) c.in_ok-name.ensures.some.0
    c.in_ok-name.ensures.some.1 (rw c.of-fields.ensures.fields at c.in_err-head.ensures))

pub returns-then-not-is_done : goal.returns-then-not-is_done
returns-then-not-is_done c = more_fields c.args.format c.args.line.now c.in_ok-name.name.now c.in_ok-name.inner.now c.take_head.new.fields c.in_ok-head.head
    (omega (arith, c.ranges.format)) c.in_ok-name.ensures.some.0 c.in_ok-name.ensures.some.1 (rw c.of-fields.ensures.fields at c.in_ok-head.ensures) (λ e. false≢true (c.if-not-is_done.ensures.done.1 e))

pub returns : goal.returns
returns c = all_fields c.args.format c.args.line.now c.in_ok-name.name.now c.in_ok-name.inner.now c.take_head.new.fields c.in_ok-head.head c.in_ok-name.ensures.some.1
    (c.if-not-is_same.ensures.0 refl) (rw c.of-fields.ensures.fields at c.in_ok-head.ensures) (c.if-not-is_done.ensures.done.0 refl)
