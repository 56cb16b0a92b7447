use Rattle.std.proofs.Common.{ℕ, ◌+◌, ◌<◌, Option, Some, length, sym, ap, ◌∙◌, subst}
use Rattle.std.specs.Prelude.{slice_get, option_map, IfSome}
use Rattle.cw_core.specs.declared.ids.StateId.{StateId}
use Rattle.cw_product.specs.Moves.{IsState}
use Rattle.cw_product.specs.Product.{game_of}
use Rattle.cw_linked.specs.Grants.{leap, number_of}
use Rattle.cw_linked.proofs.Granting.{grant_read, granted_leads, leap_within}
use Rattle.cw_linked.proofs.grants.granted.Goals as goal

pub returns-in-None-clause-is : goal.returns-in-None-clause-is
returns-in-None-clause-is c =
    let g = game_of c.args.game.now in
    let p = c.args.pos.0 in
    let q = c.args.state.0 in
    let grants = c.args.grants.now in
    let own = grant_read g p q grants c.index.result.now c.requires.grants c.requires.state c.index.ensures in
    ap (λ (o : Option StateId). option_map (λ (x : ℕ). (p + leap grants.prim, x)) (number_of o)) (sym c.in-None.is)
    ∙ granted_leads g p q grants.prim c.index.result.now c.requires.grants.asked own

pub returns-in-Some-clause-is : goal.returns-in-Some-clause-is
returns-in-Some-clause-is c =
    let g = game_of c.args.game.now in
    let p = c.args.pos.0 in
    let q = c.args.state.0 in
    let grants = c.args.grants.now in
    let own = grant_read g p q grants c.index.result.now c.requires.grants c.requires.state c.index.ensures in
    ap (λ (n : ℕ). Some (p + n, c.in-Some.next.0)) c.leap.ensures
    ∙ ap (λ (o : Option StateId). option_map (λ (x : ℕ). (p + leap grants.prim, x)) (number_of o)) (sym c.in-Some.is)
    ∙ granted_leads g p q grants.prim c.index.result.now c.requires.grants.asked own

pub returns-in-Some-clause-within : goal.returns-in-Some-clause-within
returns-in-Some-clause-within c =
    let g = game_of c.args.game.now in
    let p = c.args.pos.0 in
    let grants = c.args.grants.now in
    let own = grant_read g p c.args.state.0 grants c.index.result.now c.requires.grants c.requires.state c.index.ensures in (
      subst (λ (n : ℕ). p + n < length g.spots) (sym c.leap.ensures)
          (leap_within (length g.spots) (length c.args.game.now.graph.parts.items) p grants.prim (slice_get g.spots p) c.requires.grants.asked (c.fact_is_closed.ensures.leads p)),
      subst (λ (o : Option StateId). IfSome o (λ x. IsState g x.0)) c.in-Some.is own.within,
    )
