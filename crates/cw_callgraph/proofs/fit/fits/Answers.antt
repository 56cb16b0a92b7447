use Rattle.std.proofs.Common.{◌≡◌, ℕ, List, Vec, Global, map, Some, None, rules, sym, ap₂, ◌∙◌}
use Rattle.cw_syntax.specs.Plans.{function_names}
use Rattle.cw_syntax.specs.Trees.{file_of}
use Rattle.cw_rights.specs.Policies.{policy_of}
use Rattle.cw_callgraph.specs.declared.table.Effect.{Effect}
use Rattle.cw_callgraph.specs.Fitting.{first_unlabelled, first_undefined}
use Rattle.cw_callgraph.specs.Barring.{first_barred}
use Rattle.cw_callgraph.proofs.Barred.{at_none, all_may_be, first_forbidden}
use Rattle.cw_callgraph.proofs.fit.fits.Goals as goal

pub returns-in-None-clause-fits : goal.returns-in-None-clause-fits
returns-in-None-clause-fits c =
    let source = c.args.checked.now.source.now in
    let file = file_of c.args.checked.now.program in
    let policy = policy_of c.args.policy.now in
    let none : c.first_barred.result ≡ None = search rules in
    let barred =
    ap₂ (λ (es : List Effect) (l : List (Vec ℕ Global)). first_barred es (function_names source file) 0 (map (λ n. n.items) l)) (sym c.deref-3.ensures.value) (sym c.deref-4.ensures.value)
    ∙ sym c.first_barred.ensures
    ∙ none
    in (
      at_none c.missing.result (first_unlabelled source file policy.labels ≡ None) c.in_default.not-Some c.missing.ensures.labelled,
      at_none c.missing.result (first_undefined source file policy.split ≡ None) c.in_default.not-Some c.missing.ensures.defined,
      all_may_be c.args.checked.now policy c.args.effects.now.of.items c.requires.effects policy.split barred,
    )

pub returns-in-Some-first_barred-clause-fault : goal.returns-in-Some-first_barred-clause-fault
returns-in-Some-first_barred-clause-fault c =
    let source = c.args.checked.now.source.now in
    let file = file_of c.args.checked.now.program in
    let policy = policy_of c.args.policy.now in
    let function = c.in-Some-first_barred.function in
    let place = c.in-Some-first_barred.place in
    let some : c.first_barred.result ≡ Some (function, place) = search rules in
    let barred =
    ap₂ (λ (es : List Effect) (l : List (Vec ℕ Global)). first_barred es (function_names source file) 0 (map (λ n. n.items) l)) (sym c.deref-3.ensures.value) (sym c.deref-4.ensures.value)
    ∙ sym c.first_barred.ensures
    ∙ some
    in (
      at_none c.missing.result (first_unlabelled source file policy.labels ≡ None) c.in_default.not-Some c.missing.ensures.labelled,
      at_none c.missing.result (first_undefined source file policy.split ≡ None) c.in_default.not-Some c.missing.ensures.defined,
      first_forbidden c.args.checked.now policy c.args.effects.now.of.items c.requires.effects policy.split function place barred,
    )
