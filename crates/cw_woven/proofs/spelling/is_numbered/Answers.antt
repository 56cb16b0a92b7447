use Rattle.cw_woven.proofs.Fields.{numbered, number_in}
use Rattle.cw_woven.proofs.spelling.is_numbered.Goals as goal

pub returns-in-Some : goal.returns-in-Some
returns-in-Some c =
    let is = c.in-Some.ensures.some in
    (λ t. numbered c.args.front.now c.args.back.now c.args.bytes.now c.in-Some.number.now is (c.is_number.ensures.0 t), λ h. c.is_number.ensures.1 (number_in c.args.front.now c.args.back.now c.args.bytes.now c.in-Some.number.now is h))
