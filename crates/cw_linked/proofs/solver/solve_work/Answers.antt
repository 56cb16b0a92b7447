use Rattle.std.proofs.Common.{◌≡◌, ℕ, ◌++◌, ◌∷◌, [], List, false, sym, subst}
use Rattle.std.specs.Prelude.{nat_eq}
use Rattle.cw_product.specs.Product.{game_of}
use Rattle.cw_game.specs.Pairs.{all_states}
use Rattle.cw_solve.specs.declared.contexts.Context.{Context}
use Rattle.cw_solve.specs.Contexts.{context}
use Rattle.cw_solve.specs.Indexed.{numbers_of}
use Rattle.cw_linked.specs.Listed.{HasListed}
use Rattle.cw_linked.specs.declared.spans.Spans.{Spans}
use Rattle.cw_linked.specs.Spans.{AreSpanned}
use Rattle.cw_linked.proofs.Listing.{listed_more}
use Rattle.cw_linked.proofs.solver.solve_work.Goals as goal

pub steps-requires-clause-listed : goal.steps-requires-clause-listed
steps-requires-clause-listed c =
    let g = game_of c.args.game.now in
    let first : Context = context g.main (all_states g) in
    subst (λ (cs : List Context). HasListed c.push.new.self cs) (sym c.in_ok-work.ensures.alone)
    (listed_more c.args.indices.now c.push.new.self [] first c.requires.listed c.in_ok-push.ensures.count
    (subst (λ (f : ℕ). numbers_of c.push.new.self f ≡ numbers_of c.args.indices.now f ++ c.args.indices.now.count ∷ []) c.main.ensures c.in_ok-push.ensures.here)
    (subst (λ (m : ℕ). (f : ℕ) → nat_eq m f ≡ false → numbers_of c.push.new.self f ≡ numbers_of c.args.indices.now f) c.main.ensures c.in_ok-push.ensures.others))

pub begun-requires-clause-spans : goal.begun-requires-clause-spans
begun-requires-clause-spans c = subst (λ (spans : List Spans). AreSpanned (game_of c.args.game.now) spans) (sym c.deref.ensures.value) c.in_ok-spans.ensures

pub steps-requires-clause-spans : goal.steps-requires-clause-spans
steps-requires-clause-spans c = subst (λ (spans : List Spans). AreSpanned (game_of c.args.game.now) spans) (sym c.deref-2.ensures.value) c.in_ok-spans.ensures
