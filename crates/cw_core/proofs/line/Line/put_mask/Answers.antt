use Rattle.std.proofs.Common.{arith}
use Rattle.cw_core.proofs.SetTexts.{mask_length}
use Rattle.cw_core.proofs.line.Line.put_mask.Goals as goal

pub put_fitting_mask-requires : goal.put_fitting_mask-requires
put_fitting_mask-requires c =
    let few = mask_length c.args.set.now c.fact_members_are_below_1024.ensures.below in
    record { room = omega (arith, few, c.requires.room) }
