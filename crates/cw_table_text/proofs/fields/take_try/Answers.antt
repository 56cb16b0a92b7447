-- A field that no answer spells leaves no row.
use Rattle.cw_table_text.proofs.RowLines.{behind_first}
use Rattle.cw_table_text.proofs.fields.take_try.Goals as goal

pub returns-in_err-refused : goal.returns-in_err-refused
returns-in_err-refused c = rw c.from_residual-in_err-refused.ensures (record {
  some = tt;
  none = λ value rest fits e.
      let e0 = behind_first c.in_ok-seam.ensures.some.1 e in
      let e1 = behind_first c.in_ok-stage.ensures.some.1 e0 in
      let e2 = behind_first c.in_ok-mem.ensures.some.1 e1 in
      let e3 = behind_first c.in_ok-granted.ensures.some.1 e2 in
      c.in_err-refused.ensures.none value.refused _ fits.4 e3;
})
