use Rattle.std.proofs.Common.{◌≡◌, ◌≢◌, length, ap, sym, ◌∙◌, arith}
use Rattle.cw_syntax.specs.Trees.{trees_of, Node}
use Rattle.cw_syntax.specs.declared.program.Op.TheVariants.{Assign}
use Rattle.cw_syntax.specs.Plans.{action_of}
use Rattle.cw_resolve.specs.Acts.{act_of}
use Rattle.cw_resolve.proofs.Acting.{not_two}
use Rattle.cw_resolve.proofs.actions.assignment.Goals as goal

pub returns-in_default : goal.returns-in_default
returns-in_default c = λ from to.
    let s = c.args.scene.now in
    let z : c.args.by ≡ 0 = omega arith in
    let n : length c.args.parts.now ≢ 2 = λ e. absurd (omega arith) in
    sym (ap (λ b. act_of (action_of s (Node (Assign b) (trees_of c.args.parts.now) from to))) z ∙ ap act_of (not_two s c.args.parts.now from to n))

pub returns-in_default-2 : goal.returns-in_default-2
returns-in_default-2 c = λ from to.
    let s = c.args.scene.now in
    let z : c.args.by ≡ 0 = omega arith in
    let n : length c.args.parts.now ≢ 2 = λ e. absurd (omega arith) in
    sym (ap (λ b. act_of (action_of s (Node (Assign b) (trees_of c.args.parts.now) from to))) z ∙ ap act_of (not_two s c.args.parts.now from to n))
