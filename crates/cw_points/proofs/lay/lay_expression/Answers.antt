use Rattle.std.proofs.Common.{◌≡◌, ◌<◌, None, length, ap, sym, subst, ◌∙◌, arith}
use Rattle.cw_syntax.specs.Trees.{tree_of}
use Rattle.cw_syntax.specs.Plans.{Callee, Opens, Closes, Invokes, action_of}
use Rattle.cw_resolve.proofs.Acting.{action_in, acts_back}
use Rattle.cw_resolve.proofs.Bounds.{IsWithin, acts_within}
use Rattle.cw_points.specs.declared.graph.Point.TheVariants as point
use Rattle.cw_points.specs.Drawing.{drawn_of, with_seam}
use Rattle.cw_points.proofs.Adding.{laid_computes, laid_opens, laid_closes, laid_invokes}
use Rattle.cw_points.proofs.Told.{on_ok}
use Rattle.cw_points.proofs.lay.lay_expression.Goals as goal

pub returns-in-Computes : goal.returns-in-Computes
returns-in-Computes c =
    let s = c.args.scene.now in
    let e = tree_of c.args.e.now in
    let d = drawn_of c.args.draft.now in
    let act = sym (acts_back (action_of s e)) ∙ ap action_in (sym c.action_of.ensures.act ∙ c.in-Computes.is) in
    on_ok c.put_step.result c.put_step.ensures (λ h to. h ∙ laid_computes s c.args.function e c.args.place to c.args.ways d act)

pub returns-in-Opens : goal.returns-in-Opens
returns-in-Opens c =
    let s = c.args.scene.now in
    let e = tree_of c.args.e.now in
    let d = drawn_of c.args.draft.now in
    let act = sym (acts_back (action_of s e)) ∙ ap action_in (sym c.action_of.ensures.act ∙ c.in-Opens.is) in
    on_ok c.put_seam.result c.put_seam.ensures (λ h to.
    h ∙ ap (λ i. with_seam (point.Open i) c.args.function c.args.ways.next c.args.place None d) c.descriptor_number-d.ensures
    ∙ laid_opens s c.args.function e c.args.place to c.args.ways d c.in-Opens.d act)

pub returns-in-Closes : goal.returns-in-Closes
returns-in-Closes c =
    let s = c.args.scene.now in
    let e = tree_of c.args.e.now in
    let d = drawn_of c.args.draft.now in
    let act = sym (acts_back (action_of s e)) ∙ ap action_in (sym c.action_of.ensures.act ∙ c.in-Closes.is) in
    on_ok c.put_seam-in-Closes.result c.put_seam-in-Closes.ensures (λ h to.
    h ∙ ap (λ i. with_seam (point.Close i) c.args.function c.args.ways.next c.args.place None d) c.descriptor_number-d-in-Closes.ensures
    ∙ laid_closes s c.args.function e c.args.place to c.args.ways d c.in-Closes.d act)

pub returns-in-Invokes : goal.returns-in-Invokes
returns-in-Invokes c =
    let s = c.args.scene.now in
    let e = tree_of c.args.e.now in
    let d = drawn_of c.args.draft.now in
    let callee : Callee = record { number = c.in-Invokes.callee; split = c.in-Invokes.split; result = c.in-Invokes.taken } in
    let act = sym (acts_back (action_of s e)) ∙ ap action_in (sym c.action_of.ensures.act ∙ c.in-Invokes.is) in
    on_ok c.put_seam-in-Invokes.result c.put_seam-in-Invokes.ensures (λ h to.
    h ∙ ap (λ i. with_seam (point.Call i) c.args.function c.args.ways.next c.args.place c.in-Invokes.taken d) c.function_number-callee.ensures
    ∙ laid_invokes s c.args.function e c.args.place to c.args.ways d callee act)

pub descriptor_number-d-requires : goal.descriptor_number-d-requires
descriptor_number-d-requires c =
    let s = c.args.scene.now in
    let e = tree_of c.args.e.now in
    let act : action_of s e ≡ Opens c.in-Opens.d = sym (acts_back (action_of s e)) ∙ ap action_in (sym c.action_of.ensures.act ∙ c.in-Opens.is) in
    let within : c.in-Opens.d < length s.names.descriptors = subst (IsWithin s) act (acts_within s e) in
    record { few = omega (arith, within, c.requires.descriptors) }

pub descriptor_number-d-requires-in-Closes : goal.descriptor_number-d-requires-in-Closes
descriptor_number-d-requires-in-Closes c =
    let s = c.args.scene.now in
    let e = tree_of c.args.e.now in
    let act : action_of s e ≡ Closes c.in-Closes.d = sym (acts_back (action_of s e)) ∙ ap action_in (sym c.action_of.ensures.act ∙ c.in-Closes.is) in
    let within : c.in-Closes.d < length s.names.descriptors = subst (IsWithin s) act (acts_within s e) in
    record { few = omega (arith, within, c.requires.descriptors) }

pub function_number-callee-requires : goal.function_number-callee-requires
function_number-callee-requires c =
    let s = c.args.scene.now in
    let e = tree_of c.args.e.now in
    let callee : Callee = record { number = c.in-Invokes.callee; split = c.in-Invokes.split; result = c.in-Invokes.taken } in
    let act : action_of s e ≡ Invokes callee = sym (acts_back (action_of s e)) ∙ ap action_in (sym c.action_of.ensures.act ∙ c.in-Invokes.is) in
    let within : c.in-Invokes.callee < length s.functions = subst (IsWithin s) act (acts_within s e) in
    record { few = omega (arith, within, c.requires.functions) }
