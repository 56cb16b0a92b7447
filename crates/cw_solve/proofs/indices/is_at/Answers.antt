use Rattle.std.proofs.Common.{Some, length, sym, ap, ◌∙◌, arith}
use Rattle.std.proofs.lemmas.Bool.{ltb-true}
use Rattle.std.proofs.lemmas.Option.{slice_get-get_or, slice_get_within}
use Rattle.cw_solve.specs.declared.contexts.Context.{Context}
use Rattle.cw_solve.specs.Contexts.{context}
use Rattle.cw_solve.proofs.Calling.{the_context}
use Rattle.cw_solve.proofs.Indexed.{is_other}
use Rattle.cw_solve.proofs.indices.is_at.Goals as goal

pub returns-in-None-clause-other : goal.returns-in-None-clause-other
returns-in-None-clause-other c = λ fails is.
    let past = c.in-None.ensures.lookup in
    let within = slice_get_within c.args.contexts.now c.args.number (context c.args.function c.args.promise.now) is in
    omega (arith, past, within)

pub returns-in-Some-clause-there : goal.returns-in-Some-clause-there
returns-in-Some-clause-there c = λ passes.
    let x = c.in-Some.context.now in
    let contexts = c.args.contexts.now in
    let found = c.in-Some.ensures.lookup in
    slice_get-get_or contexts c.args.number x (ltb-true c.args.number (length contexts) (sym found.0))
    ∙ ap (λ (y : Context). Some y) (sym found.1 ∙ the_context x c.args.function c.args.promise.now (sym c.is_context.ensures ∙ passes))

pub returns-in-Some-clause-other : goal.returns-in-Some-clause-other
returns-in-Some-clause-other c = λ fails is.
    let x = c.in-Some.context.now in
    let contexts = c.args.contexts.now in
    let found = c.in-Some.ensures.lookup in
    let here = slice_get-get_or contexts c.args.number x (ltb-true c.args.number (length contexts) (sym found.0)) ∙ ap (λ (y : Context). Some y) (sym found.1) in
    is_other contexts c.args.function c.args.promise.now c.args.number x c.is_context.result here c.is_context.ensures fails is
