use Rattle.std.proofs.Common.{◌+◌, sym, subst}
use Rattle.cw_syntax.specs.Plans.{numbered_all}
use Rattle.cw_resolve.specs.Scenes.{stms_in}
use Rattle.cw_boards.specs.Numbered.{most_seams, AllSeamsBelow}
use Rattle.cw_boards.proofs.Below.{all_numbered_below}
use Rattle.cw_boards.proofs.steps.frame_from.Goals as goal

pub put_all-requires : goal.put_all-requires
put_all-requires c =
    let s = c.args.scene.now in
    record {
      below = subst (λ l. AllSeamsBelow most_seams (numbered_all (stms_in s l) (c.args.seam + 1))) (sym c.deref.ensures.value)
          (all_numbered_below most_seams (stms_in s c.args.f.now.body.items) (c.args.seam + 1) c.requires.fits);
    }
