use Rattle.std.proofs.Common.{◌∷◌, sym, ap, ap₂, ◌∙◌, subst}
use Rattle.std.specs.Prelude.{option_map, is_some}
use Rattle.cw_syntax.specs.declared.program.Head.{Head, out-Head}
use Rattle.cw_syntax.specs.declared.program.Stmt.{Stmt}
use Rattle.cw_syntax.specs.Plans.{numbered, numbered_all}
use Rattle.cw_syntax.specs.Frames.{Test, LoopEnd, items_of, init_if}
use Rattle.cw_resolve.specs.Scenes.{stm_in, stms_in}
use Rattle.cw_boards.specs.Held.{frame_in}
use Rattle.cw_resolve.proofs.Shapes.{block_steps}
use Rattle.cw_boards.specs.Numbered.{most_seams, SeamsBelow, AllSeamsBelow}
use Rattle.cw_boards.proofs.Settled.{a_block, a_for}
use Rattle.cw_boards.proofs.frames.rewrite_statement.Goals as goal

pub returns-in_ok-put_all-in-Block : goal.returns-in_ok-put_all-in-Block
returns-in_ok-put_all-in-Block c =
    let s = c.args.scene.now in
    let st = c.args.statement.now in
    let rest = frame_in s c.args.rest in
    a_block s st c.in-Block.statements c.args.seam rest c.in_ok-put_all-in-Block.field-0 c.in-Block.is
    (c.in_ok-put_all-in-Block.ensures ∙ ap (λ l. items_of (numbered_all (stms_in s l) c.args.seam) rest) c.deref.ensures.value)

pub returns-in_ok-for_loop-in-For : goal.returns-in_ok-for_loop-in-For
returns-in_ok-for_loop-in-For c =
    let s = c.args.scene.now in
    let st = c.args.statement.now in
    let rest = frame_in s c.args.rest in
    a_for s st c.in-For.head c.in-For.body c.args.seam rest c.in_ok-for_loop-in-For.field-0 c.in-For.is
    (c.in_ok-for_loop-in-For.ensures s
    ∙ ap₂ (λ (h : Head) (b : Stmt). init_if (option_map (λ (i : Stmt). i.from) (out-Head h).init) (Test st.from (is_some (out-Head h).test) (is_some (out-Head h).step)
    (numbered (stm_in s b) c.args.seam) ∷ (LoopEnd ∷ rest))) c.deref-in-For.ensures c.deref-in-For-2.ensures)

pub put_all-requires : goal.put_all-requires
put_all-requires c =
    let s = c.args.scene.now in
    let st = c.args.statement.now in
    let below = subst (λ x. SeamsBelow most_seams (numbered x c.args.seam)) (block_steps s st.from st.what c.in-Block.statements c.in-Block.is) c.requires.below in
    record { below = subst (λ l. AllSeamsBelow most_seams (numbered_all (stms_in s l) c.args.seam)) (sym c.deref.ensures.value) below }
