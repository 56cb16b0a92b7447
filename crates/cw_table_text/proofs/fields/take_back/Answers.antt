-- A field that no state or memory spells leaves no row.
use Rattle.cw_table_text.proofs.RowLines.{behind_first}
use Rattle.cw_table_text.proofs.fields.take_back.Goals as goal

pub returns-in_err-exit : goal.returns-in_err-exit
returns-in_err-exit c = rw c.from_residual-in_err-exit.ensures (record {
  some = tt;
  none = λ value rest fits e.
      let e0 = behind_first c.in_ok-seam.ensures.some.1 e in
      let e1 = behind_first c.in_ok-split.ensures.some.1 e0 in
      let e2 = behind_first c.in_ok-mem.ensures.some.1 e1 in
      c.in_err-exit.ensures.none value.exit _ fits.2 e2;
})

pub returns-in_err-after : goal.returns-in_err-after
returns-in_err-after c = rw c.from_residual-in_err-after.ensures (record {
  some = tt;
  none = λ value rest fits e.
      let e0 = behind_first c.in_ok-seam.ensures.some.1 e in
      let e1 = behind_first c.in_ok-split.ensures.some.1 e0 in
      let e2 = behind_first c.in_ok-mem.ensures.some.1 e1 in
      let e3 = behind_first c.in_ok-exit.ensures.some.1 e2 in
      c.in_err-after.ensures.none value.after _ fits.3 e3;
})
