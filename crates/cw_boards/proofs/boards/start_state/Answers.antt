use Rattle.std.proofs.Common.{◌≡◌, ap, ◌∙◌, arith}
use Rattle.cw_syntax.specs.Plans.{Scene}
use Rattle.cw_boards.specs.Held.{scene, seams_before}
use Rattle.cw_boards.specs.Numbered.{capped}
use Rattle.cw_boards.proofs.boards.start_state.Goals as goal

pub returns-then-seams_before-clause-many : goal.returns-then-seams_before-clause-many
returns-then-seams_before-clause-many c = λ e.
    let s = scene c.args.checked.now c.args.policy.now in
    let fs = c.args.checked.now.program.functions.items in
    let count : c.seams_before.result ≡ capped (seams_before s fs) = c.seams_before.ensures
    ∙ ap (λ l. capped (seams_before c.args.scene.now l)) c.deref.ensures.value
    ∙ ap (λ (t : Scene). capped (seams_before t fs)) c.requires.scene
    in
    omega (arith, count, c.if-seams_before.true)

pub start_stack-requires-clause-few : goal.start_stack-requires-clause-few
start_stack-requires-clause-few c =
    let s = scene c.args.checked.now c.args.policy.now in
    let fs = c.args.checked.now.program.functions.items in
    let count : c.seams_before.result ≡ capped (seams_before s fs) = c.seams_before.ensures
    ∙ ap (λ l. capped (seams_before c.args.scene.now l)) c.deref.ensures.value
    ∙ ap (λ (t : Scene). capped (seams_before t fs)) c.requires.scene
    in
    omega (arith, count, c.if-seams_before.false)

pub returns-clause-few : goal.returns-clause-few
returns-clause-few c =
    let s = scene c.args.checked.now c.args.policy.now in
    let fs = c.args.checked.now.program.functions.items in
    let count : c.seams_before.result ≡ capped (seams_before s fs) = c.seams_before.ensures
    ∙ ap (λ l. capped (seams_before c.args.scene.now l)) c.deref.ensures.value
    ∙ ap (λ (t : Scene). capped (seams_before t fs)) c.requires.scene
    in
    omega (arith, count, c.if-seams_before.false)
