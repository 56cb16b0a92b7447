use Rattle.std.proofs.Common.{◌≡◌, ◌<◌, ◌≤◌, ◌+◌, ◌-◌, ◌∷◌, length, get_or, arith, rules}
use Rattle.cw_syntax.specs.Plans.{numbered, seams, seams_all}
use Rattle.cw_syntax.specs.Frames.{Todo}
use Rattle.cw_resolve.specs.Scenes.{stm_in, stms_in}
use Rattle.cw_boards.specs.Held.{frame_in}
use Rattle.cw_boards.specs.Numbered.{most_seams, capped}
use Rattle.cw_boards.proofs.Below.{all_fit, whole}
use Rattle.cw_boards.proofs.Putting.{none_put, one_within, own_fits, one_more}
use Rattle.cw_boards.proofs.frames.put_all.Goals as goal

pub overflow_add-at : goal.overflow_add-at
overflow_add-at c =
    let ss = stms_in c.args.scene.now c.args.statements.now in
    let total : c.args.seam + seams_all ss ≤ most_seams = all_fit most_seams ss c.args.seam (omega (arith, c.ranges.seam)) c.requires.below in
    omega (arith, total, whole c.seams_all.result (seams_all ss) c.seams_all.ensures (omega (arith, total)))

pub loop-i-init : goal.loop-i-init
loop-i-init c =
    let s = c.args.scene.now in
    let xs = c.args.statements.now in
    let ss = stms_in s xs in
    let total : c.args.seam + seams_all ss ≤ most_seams = all_fit most_seams ss c.args.seam (omega (arith, c.ranges.seam)) c.requires.below in
    let count = whole c.seams_all.result (seams_all ss) c.seams_all.ensures (omega (arith, total)) in
    none_put s xs c.args.seam (frame_in s c.args.rest) _ _ (search rules) (omega (arith, count))

pub overflow_sub-at : goal.overflow_sub-at
overflow_sub-at c =
    let s = c.args.scene.now in
    let xs = c.args.statements.now in
    let i = c.loop-i.i in
    let x = c.index-statements-i.result in
    let rest = frame_in s c.args.rest in
    let p : 0 < i = search rules in
    let q : i ≡ (i - 1) + 1 = omega (arith, p) in
    let w = c.loop-i.invariant.within in
    let l : i - 1 < length xs = omega (arith, p, w) in
    let e : x ≡ get_or xs (i - 1) x = search rules in
    let total = all_fit most_seams (stms_in s xs) c.args.seam (omega (arith, c.ranges.seam)) c.requires.below in
    let few = one_within s xs i (i - 1) x q l e in
    let counted : c.seams-own.result ≡ capped (seams (stm_in s x)) = search rules in
    let o = whole c.seams-own.result (seams (stm_in s x)) counted (omega (arith, total, few)) in
    own_fits s xs c.args.seam rest i (i - 1) c.loop-i.at c.seams-own.result (frame_in s c.loop-i.frame) x q l e o c.loop-i.invariant

pub loop-i-preserved : goal.loop-i-preserved
loop-i-preserved c =
    let s = c.args.scene.now in
    let xs = c.args.statements.now in
    let i = c.loop-i.i in
    let x = c.index-statements-i.result in
    let rest = frame_in s c.args.rest in
    let p : 0 < i = search rules in
    let q : i ≡ (i - 1) + 1 = omega (arith, p) in
    let w = c.loop-i.invariant.within in
    let l : i - 1 < length xs = omega (arith, p, w) in
    let e : x ≡ get_or xs (i - 1) x = search rules in
    let total = all_fit most_seams (stms_in s xs) c.args.seam (omega (arith, c.ranges.seam)) c.requires.below in
    let few = one_within s xs i (i - 1) x q l e in
    let counted : c.seams-own.result ≡ capped (seams (stm_in s x)) = search rules in
    let o = whole c.seams-own.result (seams (stm_in s x)) counted (omega (arith, total, few)) in
    let n : frame_in s c.in_ok-frame.frame ≡ Todo (numbered (stm_in s x) (c.loop-i.at - c.seams-own.result)) ∷ frame_in s c.loop-i.frame = search rules in
    one_more s xs c.args.seam rest i (i - 1) c.loop-i.at c.seams-own.result (frame_in s c.loop-i.frame) x q l e o c.loop-i.invariant (frame_in s c.in_ok-frame.frame) n
