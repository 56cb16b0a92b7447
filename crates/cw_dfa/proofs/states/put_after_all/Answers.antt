use Rattle.cw_dfa.specs.Verdicts.{rules_of}
use Rattle.cw_dfa.specs.States.{after_mask}
use Rattle.cw_dfa.proofs.Masked.{masks_more}
use Rattle.cw_dfa.proofs.states.put_after_all.Goals as goal

pub loop-mask-preserved : goal.loop-mask-preserved
loop-mask-preserved c = masks_more (after_mask (rules_of c.args.rules.now) c.args.ahead) c.args.keys.now.items c.loop-mask.keys.items c.put_some.new.keys.items c.args.masks.now
    c.loop-mask.mask-index c.after_mask.result c.loop-mask-test.true c.loop-mask.invariant c.after_mask.ensures c.in_ok-put_some.ensures
