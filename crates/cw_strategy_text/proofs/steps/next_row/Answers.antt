use Rattle.std.proofs.Common.{◌∙◌, sym, refl, arith, inl, inr}
use Rattle.std.proofs.lemmas.Bool.{false≢true}
use Rattle.cw_lemmas.proofs.Texts.{some_bytes}
use Rattle.cw_certs.specs.Strategies.{row_of}
use Rattle.cw_strategy_text.proofs.RowLines.{none_at_all, none_here, end_stands, row_here, no_bytes}
use Rattle.cw_strategy_text.proofs.steps.next_row.Goals as goal

pub returns-in_default-clause-fault : goal.returns-in_default-clause-fault
returns-in_default-clause-fault c = inl (refl, none_at_all c.args.format c.args.text.now c.in_default.ensures.none)

pub returns-then-not-is_empty-clause-fault : goal.returns-then-not-is_empty-clause-fault
returns-then-not-is_empty-clause-fault c = inr (
  omega arith,
  record {
    more = c.in-Some.rest.now;
    text = end_stands c.args.text.now c.in-Some.line.now c.in-Some.rest.now c.in-Some.ensures.parts (c.is_end.ensures.0 c.if-is_end.true);
    some = some_bytes c.in-Some.rest.now c.is_empty.result c.is_empty.ensures c.if-not-is_empty.true;
  },
)

pub returns-then-is_end-clause-over : goal.returns-then-is_end-clause-over
returns-then-is_end-clause-over c = no_bytes c.args.text.now c.in-Some.rest.now c.is_empty.result c.is_empty.ensures c.if-not-is_empty.false
    (end_stands c.args.text.now c.in-Some.line.now c.in-Some.rest.now c.in-Some.ensures.parts (c.is_end.ensures.0 c.if-is_end.true))

pub returns-in_default-2-clause-fault : goal.returns-in_default-2-clause-fault
returns-in_default-2-clause-fault c = inl (
  refl,
  none_here c.args.format c.args.text.now c.in-Some.line.now c.in-Some.rest.now c.in-Some.ensures.parts c.in-Some.ensures.first
      (λ e. false≢true (sym c.if-is_end.false ∙ c.is_end.ensures.1 e)) (rw c.in_default-2.is at c.in_ok-named.ensures),
)

pub returns-then-named-count-clause-fault : goal.returns-then-named-count-clause-fault
returns-then-named-count-clause-fault c = (
  refl,
  record {
    number = c.in-Some-2.named;
    row = row_of c.in-Some-2.row;
    more = c.in-Some.rest.now;
    stands = row_here c.args.format c.args.text.now c.in-Some.line.now c.in-Some.rest.now c.in-Some-2.named (row_of c.in-Some-2.row) c.in-Some.ensures.parts
        (rw c.in-Some-2.is at c.in_ok-named.ensures);
    differs = c.if-named-count.true;
  },
)

pub returns-then-rows-rows_of-gt-ROWS-clause-fault :
    goal.returns-then-rows-rows_of-gt-ROWS-clause-fault
returns-then-rows-rows_of-gt-ROWS-clause-fault c = (
  refl,
  record {
    row = row_of c.in-Some-2.row;
    more = c.in-Some.rest.now;
    stands = rw c.if-named-count.false at (row_here c.args.format c.args.text.now c.in-Some.line.now c.in-Some.rest.now c.in-Some-2.named (row_of c.in-Some-2.row)
        c.in-Some.ensures.parts (rw c.in-Some-2.is at c.in_ok-named.ensures));
    many = let e = c.rows_of.ensures in let lt = c.if-rows-rows_of-gt-ROWS.true in omega (arith, e, lt);
  },
)

pub returns-clause-row : goal.returns-clause-row
returns-clause-row c = rw c.if-named-count.false at (row_here c.args.format c.args.text.now c.in-Some.line.now c.in-Some.rest.now c.in-Some-2.named (row_of c.in-Some-2.row)
    c.in-Some.ensures.parts (rw c.in-Some-2.is at c.in_ok-named.ensures))
