use Rattle.std.proofs.Common.{subst, []}
use Rattle.cw_regex.specs.Grammar.{IsTest, IsFaultAt}
use Rattle.cw_regex.proofs.Within.{test_within, settled_end}
use Rattle.cw_regex.proofs.read.read_test.Goals as goal

pub returns-in-Err-clause-fault : goal.returns-in-Err-clause-fault
returns-in-Err-clause-fault c = subst (λ t. IsFaultAt IsTest t c.in-Err.at) c.as_bytes-text.ensures.value c.in-Err.ensures.err

pub returns-in_ok-known-in-Ok-clause-within : goal.returns-in_ok-known-in-Ok-clause-within
returns-in_ok-known-in-Ok-clause-within c = test_within c.args.format c.args.descriptors.now c.as_bytes-text.result.now c.test.result.0.0 c.test.result.0.1 c.in-Ok.ensures.ok
    c.in_ok-known-in-Ok.ensures.ok (λ x s. c.test.ensures.read x [] s.parts (settled_end x.what))
