use Rattle.std.proofs.Common.{◌≡◌, ℕ, Bool, Option, sym, ap, ◌∙◌, subst, inl, inr}
use Rattle.std.specs.Prelude.{slice_get}
use Rattle.cw_certs.specs.declared.moves.Move.{Move}
use Rattle.cw_product.specs.Moves.{numbers, next_at}
use Rattle.cw_product.specs.MovesAt.{first_move}
use Rattle.cw_product.specs.Product.{game_of}
use Rattle.cw_linked.specs.declared.edges.Pair.{Pair}
use Rattle.cw_linked.specs.Edges.{AddsMove}
use Rattle.cw_linked.specs.Waiting.{lone, next_by, is_sole}
use Rattle.cw_linked.proofs.Edging.{one_move, two_moves}
use Rattle.cw_linked.proofs.edges.add_moves.Goals as goal

pub add_move-requires-clause-is_pair : goal.add_move-requires-clause-is_pair
add_move-requires-clause-is_pair c =
    let g = game_of c.args.game.now in
    let p = c.args.pos.0 in
    let q = c.args.state.0 in
    let spot = slice_get g.spots p in
    let sole : c.is_lone-sole.result ≡ is_sole g p q
    = c.is_lone-sole.ensures
    ∙ ap (λ (a : Option (ℕ × ℕ)). lone a (numbers c.second_next-second.result)) (c.first_next-first.ensures.is ∙ ap (λ (m : Move). next_at g p q m) c.requires.first)
    ∙ ap (λ (b : Option (ℕ × ℕ)). lone (next_at g p q (first_move spot)) b) (c.second_next-second.ensures.is ∙ ap (λ (m : Option Move). next_by g p q spot m) c.requires.second) in
    let pair : Bool → Pair = λ sole. record { pos = c.args.pos; state = c.args.state; sole = sole } in
    ap pair sole

pub add_move-requires-clause-moved : goal.add_move-requires-clause-moved
add_move-requires-clause-moved c = inl (sym c.requires.first)

pub add_move-requires-clause-flagged : goal.add_move-requires-clause-flagged
add_move-requires-clause-flagged c r x e = c.requires.flagged r x (c.args.moves.now.0, inl (sym c.requires.first), e)

pub add_move-requires-in-Some-clause-is_pair : goal.add_move-requires-in-Some-clause-is_pair
add_move-requires-in-Some-clause-is_pair c =
    let g = game_of c.args.game.now in
    let p = c.args.pos.0 in
    let q = c.args.state.0 in
    let spot = slice_get g.spots p in
    let sole : c.is_lone-sole.result ≡ is_sole g p q
    = c.is_lone-sole.ensures
    ∙ ap (λ (a : Option (ℕ × ℕ)). lone a (numbers c.second_next-second.result)) (c.first_next-first.ensures.is ∙ ap (λ (m : Move). next_at g p q m) c.requires.first)
    ∙ ap (λ (b : Option (ℕ × ℕ)). lone (next_at g p q (first_move spot)) b) (c.second_next-second.ensures.is ∙ ap (λ (m : Option Move). next_by g p q spot m) c.requires.second) in
    let pair : Bool → Pair = λ sole. record { pos = c.args.pos; state = c.args.state; sole = sole } in
    ap pair sole

pub add_move-requires-in-Some-clause-moved : goal.add_move-requires-in-Some-clause-moved
add_move-requires-in-Some-clause-moved c = inr (sym c.requires.second ∙ c.in-Some.is)

pub add_move-requires-in-Some-clause-leads : goal.add_move-requires-in-Some-clause-leads
add_move-requires-in-Some-clause-leads c =
    let g = game_of c.args.game.now in
    c.second_next-second.ensures.is ∙ ap (λ (m : Option Move). next_by g c.args.pos.0 c.args.state.0 (slice_get g.spots c.args.pos.0) m) c.in-Some.is

pub add_move-requires-in-Some-clause-flagged : goal.add_move-requires-in-Some-clause-flagged
add_move-requires-in-Some-clause-flagged c r x e = c.requires.flagged r x (c.in-Some.by, inr (sym c.requires.second ∙ c.in-Some.is), e)

pub returns-in-None : goal.returns-in-None
returns-in-None c =
    let g = game_of c.args.game.now in
    let flags = c.args.flags.now in
    one_move g flags c.args.pairs.now c.add_move.new.pairs c.args.pos.0 c.args.state.0 (sym c.requires.second ∙ c.in-None.is)
    (subst (λ (m : Move). AddsMove g flags c.args.pairs.now c.add_move.new.pairs c.args.pos.0 c.args.state.0 m) c.requires.first c.in_ok-add_move.ensures)

pub returns-in_ok-add_move-in-Some : goal.returns-in_ok-add_move-in-Some
returns-in_ok-add_move-in-Some c =
    let g = game_of c.args.game.now in
    let flags = c.args.flags.now in
    two_moves g flags c.args.pairs.now c.add_move.new.pairs c.add_move-in-Some.new.pairs c.args.pos.0 c.args.state.0 c.in-Some.by (sym c.requires.second ∙ c.in-Some.is)
    (subst (λ (m : Move). AddsMove g flags c.args.pairs.now c.add_move.new.pairs c.args.pos.0 c.args.state.0 m) c.requires.first c.in_ok-add_move.ensures) c.in_ok-add_move-in-Some.ensures
