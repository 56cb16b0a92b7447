use Rattle.std.proofs.Common.{◌≡◌, ◌++◌, ◌-◌, ◌+◌, length, replicate, ap, ◌∙◌, arith, List, Option, ℤ}
use Rattle.cw_cells.proofs.Kept.{behind}
use Rattle.cw_cells.proofs.cells.Cells.renew_from.Goals as goal

pub returns : goal.returns
returns c =
    let first = c.in_ok-first.first.items in
    let long : length first ≡ c.len.result = omega (arith, c.deref.ensures.len, ap length c.deref.ensures.value) in
    record {
      made =
          rw (c.in_ok-write.ensures.written, c.renew.ensures.made, c.deref.ensures.value)
          (behind first c.args.count (c.len.result + c.saturating_sub.result) c.args.size c.args.cell (omega (arith, long))
          ∙ ap (λ (cs : List (Option ℤ)). cs ++ replicate (c.args.size - c.args.count) c.args.cell) c.in_ok-first.ensures.first);
    }
