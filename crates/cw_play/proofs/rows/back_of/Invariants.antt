use Rattle.std.proofs.Common.{◌≡◌, drop}
use Rattle.cw_certs.specs.Strategies.{back_of}
use Rattle.cw_echeck.specs.Checks.{backs_of}
use Rattle.cw_play.proofs.rows.back_of.Given as goal

abbrev pub invariant-loop-back : goal.invariant-loop-back
invariant-loop-back l = back_of (backs_of l.backs) l.exit.0 ≡ back_of (backs_of (drop l.back-index l.backs)) l.exit.0
