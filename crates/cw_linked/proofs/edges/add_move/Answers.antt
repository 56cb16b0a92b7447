use Rattle.std.proofs.Common.{ℕ, Option, length, sym, ap, ◌∙◌, subst, arith}
use Rattle.std.specs.Prelude.{IfSome, ◌++◌, ◌∷◌, []}
use Rattle.cw_core.specs.declared.ids.PosId.{PosId}
use Rattle.cw_core.specs.declared.ids.StateId.{StateId}
use Rattle.cw_links.specs.Lists.{with_front}
use Rattle.cw_product.specs.Moves.{IsPosition, IsState, numbers}
use Rattle.cw_product.specs.Product.{game_of}
use Rattle.cw_linked.specs.declared.edges.Pair.{Pair}
use Rattle.cw_linked.proofs.Edging.{a_move_more}
use Rattle.cw_linked.proofs.edges.add_move.Goals as goal

pub list_of-list-requires-clause-flagged : goal.list_of-list-requires-clause-flagged
list_of-list-requires-clause-flagged c =
    c.requires.flagged c.in-Some.to.0 c.in-Some.then.0 (sym c.requires.leads ∙ ap (λ (o : Option (PosId × StateId)). numbers o) c.in-Some.is)

pub list_of-list-requires-clause-state : goal.list_of-list-requires-clause-state
list_of-list-requires-clause-state c =
    let g = game_of c.args.game.now in
    (subst (λ (o : Option (PosId × StateId)). IfSome o (λ r. IsPosition g r.0.0 × IsState g r.1.0)) c.in-Some.is c.requires.within).1

pub returns-in_ok-push_front : goal.returns-in_ok-push_front
returns-in_ok-push_front c =
    let g = game_of c.args.game.now in
    let old = c.args.pairs.now in
    let pair = c.args.pair in
    let leads = sym c.requires.leads ∙ ap (λ (o : Option (PosId × StateId)). numbers o) c.in-Some.is in
    let within = subst (λ (o : Option (PosId × StateId)). IfSome o (λ r. IsPosition g r.0.0 × IsState g r.1.0)) c.in-Some.is c.requires.within in
    a_move_more g c.args.flags.now old c.push_front.new.self pair.pos.0 pair.state.0 c.in-Some.to.0 c.in-Some.then.0 c.args.by c.requires.changing c.requires.moved leads
    c.requires.position c.requires.state (c.requires.flagged c.in-Some.to.0 c.in-Some.then.0 leads) within.1
    (omega (arith, c.list_of-list.ensures.is, c.list_of-list.ensures.within, c.requires.lists))
    (c.in_ok-push_front.ensures.lists ∙ ap (λ (y : ℕ). with_front old.lists c.list_of-list.result y) c.in_ok-push_front.ensures.number
    ∙ ap (λ (y : ℕ). with_front old.lists y (length old.values)) c.list_of-list.ensures.is)
    (c.in_ok-push_front.ensures.values ∙ ap (λ (y : Pair). old.values ++ y ∷ []) c.requires.is_pair)
