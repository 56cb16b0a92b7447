-- What comes next behind the rows so far.
use Rattle.std.proofs.Common.{ℕ, ◌+◌, ap, sym, ◌∙◌}
use Rattle.std.proofs.lemmas.Bool.{false≢true}
use Rattle.cw_table_text.specs.Working.{table_of}
use Rattle.cw_table_text.proofs.Faults.{no_row, goes_on}
use Rattle.cw_table_text.proofs.rows.next_row.Goals as goal

pub returns-in_default-read_row : goal.returns-in_default-read_row
returns-in_default-read_row c = no_row c.args.format (c.args.count + 4) (table_of c.args.draft.now) c.args.text.now c.in-Some.line.now c.in-Some.rest.now
    (ap (λ (n : ℕ). n + 4) c.requires.count) c.in-Some.ensures.parts c.in-Some.ensures.first
    (λ e. false≢true (c.if-is_same.ensures.1 e)) c.in_default-read_row.ensures

pub returns-then-not-is_next : goal.returns-then-not-is_next
returns-then-not-is_next c = (
  ap (λ (n : ℕ). n + 4) c.requires.count,
  c.in-Some.line.now,
  c.in-Some-read_row.row,
  goes_on c.args.text.now c.in-Some.line.now c.in-Some.rest.now c.in-Some.ensures.first c.in-Some.ensures.parts,
  c.in-Some-read_row.ensures.some.0,
  c.in-Some-read_row.ensures.some.1,
  sym c.is_next.ensures ∙ c.if-not-is_next.true,
)

pub returns-then-count-eq-MOST_ROWS : goal.returns-then-count-eq-MOST_ROWS
returns-then-count-eq-MOST_ROWS c = (
  ap (λ (n : ℕ). n + 4) c.requires.count,
  c.in-Some.line.now,
  c.in-Some-read_row.row,
  goes_on c.args.text.now c.in-Some.line.now c.in-Some.rest.now c.in-Some.ensures.first c.in-Some.ensures.parts,
  c.in-Some-read_row.ensures.some.0,
  c.in-Some-read_row.ensures.some.1,
  sym c.is_next.ensures ∙ c.if-not-is_next.false,
  sym c.requires.count ∙ c.if-count-eq-MOST_ROWS.true,
)
