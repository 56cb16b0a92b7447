use Rattle.std.proofs.Common.{◌≡◌, ◌+◌, ◌-◌, ℕ, subst, arith}
use Rattle.cw_product.specs.Product.{game_of}
use Rattle.cw_solve.specs.Contexts.{size}
use Rattle.cw_solve.specs.Rounds.{positions}
use Rattle.cw_linked.specs.Added.{PushesIndices}
use Rattle.cw_linked.proofs.Lengthening.{at_least, first_flagged}
use Rattle.cw_linked.proofs.room.push_first.Goals as goal

pub overflow_sub-rest : goal.overflow_sub-rest
overflow_sub-rest c =
    let least = at_least (game_of c.args.game.now) c.args.function c.requires.routed.some in omega (arith, least, c.size.ensures.is, c.positions.ensures.is)

pub push_state-requires-clause-state : goal.push_state-requires-clause-state
push_state-requires-clause-state c = c.requires.routed.some

pub push_state-requires-clause-few : goal.push_state-requires-clause-few
push_state-requires-clause-few c =
    let least = at_least (game_of c.args.game.now) c.args.function c.requires.routed.some in omega (arith, least, c.size.ensures.is, c.positions.ensures.is, c.requires.few)

pub returns : goal.returns
returns c =
    let g = game_of c.args.game.now in
    let f = c.args.function in
    let old = c.args.store.now in
    let new = c.push_state.new.store in
    let rest = c.size.result - c.positions.result in
    let least = at_least g f c.requires.routed.some in
    let all : positions g f + rest ≡ size g f = omega (arith, least, c.size.ensures.is, c.positions.ensures.is) in
    let first = c.in_ok-push_state.ensures in
    record {
      indices = subst (λ (n : ℕ). PushesIndices old new n) all first.indices;
      flagged = first_flagged g old new f (size g f) (c.requires.spans.whole c.requires.whole) first.flagged;
    }
