use Rattle.std.proofs.Common.{arith}
use Rattle.cw_woven.proofs.Parting.{begins_on, after_within}
use Rattle.cw_woven.proofs.scanning.scan.Goals as goal

pub marks-preserved : goal.marks-preserved
marks-preserved c =
    let here = c.in-Mark.ensures in
    record {
      begins = begins_on _ _ _ _ _ c.in-Mark.insertion here.0 _ c.marks.invariant.begins c.in_ok-push-in-Mark.ensures.items here.1 here.2 here.3;
      short = let w = after_within _ _ here.0 _ _ here.1 here.2 in let s = c.marks.invariant.short in omega (arith, w, s);
    }
