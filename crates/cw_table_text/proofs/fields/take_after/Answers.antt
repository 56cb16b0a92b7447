-- A field that no memory spells leaves no row.
use Rattle.cw_table_text.proofs.RowLines.{behind_first}
use Rattle.cw_table_text.proofs.fields.take_after.Goals as goal

pub returns-in_err-after : goal.returns-in_err-after
returns-in_err-after c = rw c.from_residual-in_err-after.ensures (record {
  some = tt;
  none = λ value rest fits e.
      let e0 = behind_first c.in_ok-seam.ensures.some.1 e in
      let e1 = behind_first c.in_ok-mem.ensures.some.1 e0 in
      c.in_err-after.ensures.none value.after _ fits.2 e1;
})
