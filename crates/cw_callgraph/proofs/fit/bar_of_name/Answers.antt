use Rattle.std.proofs.Common.{◌≡◌, None, Some, length, refl, sym, ap, ◌∙◌}
use Rattle.cw_rights.specs.Policies.{policy_of}
use Rattle.cw_syntax.specs.Names.{number_in}
use Rattle.cw_syntax.specs.Plans.{Scene}
use Rattle.cw_callgraph.proofs.Barred.{named_within}
use Rattle.cw_callgraph.proofs.Forbidden.{none_bars, one_bars}
use Rattle.cw_callgraph.proofs.fit.bar_of_name.Goals as goal

pub returns-in-None-clause-none : goal.returns-in-None-clause-none
returns-in-None-clause-none c = λ f e.
    let z : None ≡ Some f = c.in-None.ensures.number ∙ ap (λ (s : Scene). number_in s.functions c.args.name.now) c.requires.scene ∙ e in
    absurd (cc)

pub returns-in-Some-clause-none : goal.returns-in-Some-clause-none
returns-in-Some-clause-none c =
    none_bars c.args.checked.now (policy_of c.args.policy.now) c.args.name.now c.in-Some.function
    (c.in-Some.ensures.number ∙ ap (λ (s : Scene). number_in s.functions c.args.name.now) c.requires.scene) c.bar_of_number.result c.bar_of_number.ensures

pub returns-in-Some-clause-some : goal.returns-in-Some-clause-some
returns-in-Some-clause-some c =
    one_bars c.args.checked.now (policy_of c.args.policy.now) c.args.name.now c.in-Some.function
    (c.in-Some.ensures.number ∙ ap (λ (s : Scene). number_in s.functions c.args.name.now) c.requires.scene) c.bar_of_number.result c.bar_of_number.ensures

pub bar_of_number-requires-clause-within : goal.bar_of_number-requires-clause-within
bar_of_number-requires-clause-within c =
    named_within c.args.checked.now c.args.name.now c.in-Some.function (length c.args.checked.now.program.functions.items)
    (sym (c.in-Some.ensures.number ∙ ap (λ (s : Scene). number_in s.functions c.args.name.now) c.requires.scene))
    refl
