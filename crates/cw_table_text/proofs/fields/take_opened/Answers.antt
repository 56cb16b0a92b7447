-- A field that no memory spells leaves no row.
use Rattle.cw_table_text.proofs.RowLines.{behind_first}
use Rattle.cw_table_text.proofs.fields.take_opened.Goals as goal

pub returns-in_err-opened : goal.returns-in_err-opened
returns-in_err-opened c = rw c.from_residual-in_err-opened.ensures (record {
  some = tt;
  none = λ value rest fits e.
      let e0 = behind_first c.in_ok-seam.ensures.some.1 e in
      let e1 = behind_first c.in_ok-mem.ensures.some.1 e0 in
      c.in_err-opened.ensures.none value.opened _ fits.2 e1;
})

pub returns-in_err-failed : goal.returns-in_err-failed
returns-in_err-failed c = rw c.from_residual-in_err-failed.ensures (record {
  some = tt;
  none = λ value rest fits e.
      let e0 = behind_first c.in_ok-seam.ensures.some.1 e in
      let e1 = behind_first c.in_ok-mem.ensures.some.1 e0 in
      let e2 = behind_first c.in_ok-opened.ensures.some.1 e1 in
      c.in_err-failed.ensures.none value.failed _ fits.3 e2;
})
