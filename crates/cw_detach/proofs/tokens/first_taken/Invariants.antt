use Rattle.std.proofs.Common.{◌≡◌, drop}
use Rattle.std.specs.List.{find}
use Rattle.cw_detach.specs.Faults.{is_taken}
use Rattle.cw_detach.proofs.tokens.first_taken.Given as goal

abbrev pub invariant-loop-token : goal.invariant-loop-token
invariant-loop-token l = find (is_taken l.source) (drop l.token-index l.tokens) ≡ find (is_taken l.source) l.tokens
