use Rattle.std.proofs.Common.{◌≡◌, ◌<◌, ◌≤◌, length, get_or, ap, sym, arith, rules}
use Rattle.std.specs.Prelude.{option_map}
use Rattle.cw_syntax.specs.Frames.{new_frame}
use Rattle.cw_boards.specs.Held.{frame_in}
use Rattle.cw_boards.proofs.Below.{function_fits}
use Rattle.cw_boards.proofs.Routines.{routine_none, frame_at}
use Rattle.cw_boards.proofs.steps.new_frame.Goals as goal

pub returns-then-number-functions : goal.returns-then-number-functions
returns-then-number-functions c =
    let s = c.args.scene.now in
    let fs = c.args.functions.now in
    let l : length fs ≤ c.args.number = omega arith in
    sym (ap (option_map (new_frame c.args.number)) (routine_none s fs 0 c.args.number l))

pub returns : goal.returns
returns c =
    let s = c.args.scene.now in
    let fs = c.args.functions.now in
    let l : c.args.number < length fs = omega arith in
    let x = c.index-functions-number.result in
    let e : x ≡ get_or fs c.args.number x = search rules in
    frame_at s fs c.args.number c.entry_seam-seam.result x (frame_in s c.in_ok-frame.frame) l e c.entry_seam-seam.ensures c.in_ok-frame.ensures

pub frame_from-requires : goal.frame_from-requires
frame_from-requires c =
    let s = c.args.scene.now in
    let fs = c.args.functions.now in
    let l : c.args.number < length fs = omega arith in
    let x = c.index-functions-number.result in
    let e : x ≡ get_or fs c.args.number x = search rules in
    record { fits = omega (arith, function_fits s fs c.args.number x l e, c.entry_seam-seam.ensures, c.requires.few) }
