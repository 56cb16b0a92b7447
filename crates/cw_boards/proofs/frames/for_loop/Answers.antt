use Rattle.std.proofs.Common.{◌∷◌, ap, ap₂, ◌∙◌}
use Rattle.std.specs.Prelude.{option_map}
use Rattle.cw_syntax.specs.declared.program.Head.{out-Head}
use Rattle.cw_syntax.specs.declared.program.Stmt.{Stmt}
use Rattle.cw_syntax.specs.Plans.{numbered}
use Rattle.cw_syntax.specs.Frames.{Test, LoopEnd, init_if}
use Rattle.cw_resolve.specs.Scenes.{stm_in}
use Rattle.cw_boards.specs.Held.{frame_in}
use Rattle.cw_boards.proofs.frames.for_loop.Goals as goal

pub returns : goal.returns
returns c = λ s.
    let init = option_map (λ (i : Stmt). i.from) (out-Head c.args.head.now).init in
    c.in_ok-next.ensures s
    ∙ ap (init_if init) (c.in_ok-rest.ensures s ∙ ap₂ (λ d t. Test c.args.at d t (numbered (stm_in s c.args.body.now) c.args.seam) ∷ (LoopEnd ∷ frame_in s c.args.rest)) c.is_some-decided.ensures
    c.is_some-stepped.ensures)
