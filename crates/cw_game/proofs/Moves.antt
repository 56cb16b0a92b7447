-- The moves that are steps of the program.
use Rattle.std.proofs.Common.{◌≡◌, List, Option, Some, None, refl, sym, ap, option_map}
use Rattle.std.proofs.lemmas.Option.{none-some, same_Some}
use Rattle.cw_rights.specs.declared.capabilities.Caps.{Caps}
use Rattle.cw_certs.specs.declared.moves.Move.{Move}
use Rattle.cw_certs.specs.declared.moves.Move.TheVariants.{On, Left, Right, Opened, Failed}
use Rattle.cw_syntax.specs.Frames.{Frame, Way, pass}
use Rattle.cw_syntax.specs.Frames.{On as OnWay, Left as LeftWay, Right as RightWay, Opened as OpenedWay, Failed as FailedWay}
use Rattle.cw_model.specs.Boards.{Problem, Board, way_of, landed, stepped, move_of}

pub move_is : (by : Move) (way : Way) → way_of by ≡ Some way → move_of way ≡ by
move_is On way e = ap move_of (sym (same_Some OnWay way e))
move_is Left way e = ap move_of (sym (same_Some LeftWay way e))
move_is Right way e = ap move_of (sym (same_Some RightWay way e))
move_is Opened way e = ap move_of (sym (same_Some OpenedWay way e))
move_is Failed way e = ap move_of (sym (same_Some FailedWay way e))
move_is _ way e = absurd (none-some way e)

-- a step of the program passes some way
pub step_of : (p : Problem) (mode : Option Caps) (b next : Board) (by : Move) (o : Option Way) → way_of by ≡ o → stepped p mode b o ≡ Some next
    → (way : Way) × (move_of way ≡ by) × ((stack : List Frame) × (pass p.plan b.stack way ≡ Some stack) × (landed p mode b way stack ≡ next))
step_of p mode b next by None eo e = absurd (none-some next e)
step_of p mode b next by (Some way) eo e = (way, move_is by way eo, passed (pass p.plan b.stack way) refl e)
  where
    passed : (o : Option (List Frame)) → pass p.plan b.stack way ≡ o → option_map (landed p mode b way) o ≡ Some next
        → (stack : List Frame) × (pass p.plan b.stack way ≡ Some stack) × (landed p mode b way stack ≡ next)
    passed None ep e = absurd (none-some next e)
    passed (Some stack) ep e = (stack, ep, same_Some (landed p mode b way stack) next e)
