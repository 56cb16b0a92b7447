-- A field that no memory spells leaves no row.
use Rattle.cw_table_text.proofs.RowLines.{behind_first}
use Rattle.cw_table_text.proofs.fields.take_into.Goals as goal

pub returns-in_err-callee : goal.returns-in_err-callee
returns-in_err-callee c = rw c.from_residual-in_err-callee.ensures (record {
  some = tt;
  none = λ value rest fits e.
      let e0 = behind_first c.in_ok-seam.ensures.some.1 e in
      let e1 = behind_first c.in_ok-split.ensures.some.1 e0 in
      let e2 = behind_first c.in_ok-mem.ensures.some.1 e1 in
      c.in_err-callee.ensures.none value.callee _ fits.2 e2;
})
