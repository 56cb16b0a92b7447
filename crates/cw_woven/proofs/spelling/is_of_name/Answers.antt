use Rattle.std.proofs.Common.{List, ℕ, ◌++◌, ap, ◌∙◌}
use Rattle.std.specs.Prelude.{codes}
use Rattle.std.specs.Fmt.{decimal}
use Rattle.std.proofs.lemmas.Bool.{false≢true}
use Rattle.cw_woven.proofs.Due.{named, fields_are, fields_is, numbered_is, number_is}
use Rattle.cw_woven.proofs.spelling.is_of_name.Goals as goal

pub returns-in-Some-before-2 : goal.returns-in-Some-before-2
returns-in-Some-before-2 c =
    let fields = c.in-Some.fields.now in
    let numbered = c.in-Some-before.numbered.now in
    let e = c.in-Some.ensures.some in
    let f = c.in-Some-before.ensures.some in
    let g = c.in-Some-before-2.ensures.some in (
      λ t. named c.args.front.now c.args.bytes.now c.args.name.now fields numbered (decimal c.args.seam) e f (g ∙ ap (λ (l : List ℕ). l ++ codes ",") (c.is_decimal.ensures.0 t)),
      λ h. c.is_decimal.ensures.1 (number_is c.args.front.now c.args.bytes.now c.args.name.now fields numbered c.in-Some-before-2.number.now (decimal c.args.seam) e f g h),
    )

pub returns-in-None-before-2 : goal.returns-in-None-before-2
returns-in-None-before-2 c = (
  λ t. absurd (false≢true t),
  λ h. absurd (c.in-None-before-2.ensures.none (decimal c.args.seam)
      (numbered_is c.args.front.now c.args.bytes.now c.args.name.now c.in-Some.fields.now c.in-Some-before.numbered.now (decimal c.args.seam) c.in-Some.ensures.some c.in-Some-before.ensures.some h)),
)

pub returns-in-None-before : goal.returns-in-None-before
returns-in-None-before c = (
  λ t. absurd (false≢true t),
  λ h. absurd (c.in-None-before.ensures.none (decimal c.args.seam ++ codes ",")
      (fields_is c.args.front.now c.args.bytes.now c.args.name.now c.in-Some.fields.now (decimal c.args.seam) c.in-Some.ensures.some h)),
)

pub returns-in-None : goal.returns-in-None
returns-in-None c = (
  λ t. absurd (false≢true t),
  λ h. absurd (c.in-None.ensures.none ((decimal c.args.seam ++ codes ",") ++ c.args.name.now) (fields_are c.args.front.now c.args.bytes.now c.args.name.now (decimal c.args.seam) h)),
)
