use Rattle.std.proofs.Common.{◌≡◌, ◌+◌, ◌-◌, ◌<◌, ◌++◌, ℕ, length, drop, reverse, subst, sym, arith}
use Rattle.cw_recogniser.proofs.Codes.{put_one}
use Rattle.cw_recogniser.proofs.machine.put.Goals as goal

pub symbols-preserved : goal.symbols-preserved
symbols-preserved c =
    let new = c.args.new.now in
    let below = reverse c.args.stack.now.items in
    let at = c.symbols.at - 1 in
    let short : at < length new = omega (arith, c.symbols.invariant.within, c.symbols-test.true) in
    let next : at + 1 ≡ c.symbols.at = omega (arith, c.symbols-test.true) in
    record {
      within = omega (arith, short);
      put = rw c.in_ok-push.ensures.items (put_one new c.symbols.stack.items below at _ short
          (subst (λ (n : ℕ). reverse c.symbols.stack.items ≡ drop n new ++ below) (sym next) c.symbols.invariant.put));
    }
