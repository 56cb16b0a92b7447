-- A line is that of a row where its name and its fields are.
use Rattle.std.proofs.Common.{refl}
use Rattle.std.proofs.lemmas.Bool.{false≢true}
use Rattle.cw_table_text.proofs.RowLines.{no_call, no_fields, more_fields, all_fields}
use Rattle.cw_table_text.proofs.line.read_row.Goals as goal

pub returns-in_err-name : goal.returns-in_err-name
returns-in_err-name c = rw c.from_residual.ensures (no_call c.args.format c.args.line.now c.in_err-name.ensures.none)

pub returns-in_err-row : goal.returns-in_err-row
returns-in_err-row c = rw c.from_residual-in_err-row.ensures (
    no_fields c.args.format c.args.line.now c.in_ok-name.name.now c.in_ok-name.inner.now c.take_row.new.fields c.in_ok-name.ensures.some.0 c.in_ok-name.ensures.some.1
    (rw c.of-fields.ensures.fields at c.in_err-row.ensures))

pub returns-then-not-is_done : goal.returns-then-not-is_done
returns-then-not-is_done c =
    more_fields c.args.format c.args.line.now c.in_ok-name.name.now c.in_ok-name.inner.now c.take_row.new.fields c.in_ok-row.row c.in_ok-name.ensures.some.0 c.in_ok-name.ensures.some.1
    (rw c.of-fields.ensures.fields at c.in_ok-row.ensures) (λ e. false≢true (c.if-not-is_done.ensures.done.1 e))

pub returns : goal.returns
returns c =
    all_fields c.args.format c.args.line.now c.in_ok-name.name.now c.in_ok-name.inner.now c.take_row.new.fields c.in_ok-row.row c.in_ok-name.ensures.some.1
    (rw c.of-fields.ensures.fields at c.in_ok-row.ensures) (c.if-not-is_done.ensures.done.0 refl)
