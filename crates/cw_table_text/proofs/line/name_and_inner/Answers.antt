-- A line without both parentheses.
use Rattle.std.proofs.Common.{◌++◌, ◌∷◌, []}
use Rattle.cw_text.proofs.Free.{no_line}
use Rattle.cw_table_text.proofs.RowLines.{no_inner, other_end}
use Rattle.cw_table_text.proofs.line.name_and_inner.Goals as goal

pub returns-in_err-name : goal.returns-in_err-name
returns-in_err-name c = rw c.from_residual.ensures (record { some = tt; none = λ name inner free e. no_line 40 c.args.line.now name (inner ++ 41 ∷ []) c.in_err-name.ensures.none e })

pub returns-in_err-last : goal.returns-in_err-last
returns-in_err-last c = rw c.from_residual-in_err-last.ensures
    (record { some = tt; none = no_inner c.args.line.now c.in_ok-name.name.now c.in_ok-name.rest.now c.in_ok-name.ensures.first c.in_ok-name.ensures.parts c.in_err-last.ensures.cases })

pub returns-then-last-ne41 : goal.returns-then-last-ne41
returns-then-last-ne41 c = record {
  some = tt;
  none = other_end c.args.line.now c.in_ok-name.name.now c.in_ok-name.rest.now c.in_ok-last.inner.now c.in_ok-last.last.now c.in_ok-name.ensures.first c.in_ok-name.ensures.parts
      c.in_ok-last.ensures.cases.0 c.if-last-ne41.true;
}
