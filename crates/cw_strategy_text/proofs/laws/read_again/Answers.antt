use Rattle.std.proofs.Common.{◌≡◌, ◌∙◌}
use Rattle.cw_certs.specs.Strategies.{strategy_of}
use Rattle.cw_strategy_text.specs.StrategyText.{strategy_text}
use Rattle.cw_strategy_text.proofs.OneAnswer.{again_same, again_memory}
use Rattle.cw_strategy_text.proofs.laws.read_again.Goals as goal
use Rattle.cw_io.proofs.TwoPuts.{whole_taken}

pub returns-in-Ok-clause-same : goal.returns-in-Ok-clause-same
returns-in-Ok-clause-same c =
    let printed : c.bytes.result.now ≡ strategy_text c.args.format (strategy_of c.args.cert.now) = c.bytes.ensures ∙ whole_taken _ _ _ c.make-sink.ensures c.in-Ok.ensures.bytes in
    again_same c.args.format c.bytes.result.now (strategy_of c.args.cert.now) c.read_env.result printed c.requires.fits c.read_env.ensures.spells

pub returns-in-Ok-clause-memory : goal.returns-in-Ok-clause-memory
returns-in-Ok-clause-memory c =
    let printed : c.bytes.result.now ≡ strategy_text c.args.format (strategy_of c.args.cert.now) = c.bytes.ensures ∙ whole_taken _ _ _ c.make-sink.ensures c.in-Ok.ensures.bytes in
    again_memory c.args.format c.bytes.result.now (strategy_of c.args.cert.now) c.read_env.result printed c.requires.fits c.read_env.ensures.fault
