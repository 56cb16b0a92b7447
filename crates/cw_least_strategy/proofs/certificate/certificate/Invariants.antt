use Rattle.std.proofs.Common.{◌≡◌, map, take}
use Rattle.cw_certs.specs.Strategies.{row_of}
use Rattle.cw_least_strategy.proofs.certificate.certificate.Given as goal

abbrev pub invariant-loop-number : goal.invariant-loop-number
invariant-loop-number l = map row_of l.rows.items ≡ take l.number l.strategy.rows
