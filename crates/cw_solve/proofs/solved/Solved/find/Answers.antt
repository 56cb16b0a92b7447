use Rattle.std.proofs.Common.{◌≡◌, List, Some, subst, arith}
use Rattle.std.specs.Prelude.{slice_get, Contains}
use Rattle.std.proofs.lemmas.Option.{slice_get_within}
use Rattle.cw_solve.specs.declared.contexts.Context.{Context}
use Rattle.cw_solve.specs.Contexts.{context}
use Rattle.cw_solve.specs.Solved.{Held}
use Rattle.cw_solve.proofs.Keeping.{kept_few}
use Rattle.cw_solve.proofs.solved.Solved.find.Goals as goal

found : (c : goal.In-Some) → slice_get c.self.inside.table.blocks.contexts.items c.in-Some.number ≡ Some (context c.args.function c.args.promise.now)
found c = subst (λ (xs : List Context). slice_get xs c.in-Some.number ≡ Some (context c.args.function c.args.promise.now)) c.deref.ensures.value c.in-Some.ensures.some

pub overflow_cast-result : goal.overflow_cast-result
overflow_cast-result c =
    let few = kept_few c.self.inside.game.now c.self.inside.table c.self.invariant in
    let within = slice_get_within c.self.inside.table.blocks.contexts.items c.in-Some.number (context c.args.function c.args.promise.now) (found c) in
    omega (arith, few, within)

pub returns-in-Some-clause-found : goal.returns-in-Some-clause-found
returns-in-Some-clause-found c =
    subst (λ (h : Held). slice_get h.contexts c.in-Some.number ≡ Some (context c.args.function c.args.promise.now)) c.self.view_is (found c)

pub returns-in-None-clause-none : goal.returns-in-None-clause-none
returns-in-None-clause-none c =
    let d = context c.args.function c.args.promise.now in
    let none = subst (λ (xs : List Context). Contains xs d → ⊥) c.deref.ensures.value c.in-None.ensures.none in
    subst (λ (h : Held). Contains h.contexts d → ⊥) c.self.view_is none
