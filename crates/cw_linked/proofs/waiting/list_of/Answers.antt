use Rattle.std.proofs.Common.{◌≡◌, ◌<◌, ◌≤◌, ◌+◌, ◌*◌, ◌∙◌, ℕ, ap, subst, sym, arith}
use Rattle.std.proofs.lemmas.Nat.{mul-le}
use Rattle.cw_links.specs.Flags.{number, rank}
use Rattle.cw_links.proofs.Ranks.{rank-le_index, flagged_within}
use Rattle.cw_product.specs.Product.{game_of}
use Rattle.cw_linked.specs.Waiting.{list_of}
use Rattle.cw_linked.proofs.Reaching.{list_within}
use Rattle.cw_linked.proofs.waiting.list_of.Goals as goal

pub rank-requires : goal.rank-requires
rank-requires c = c.requires.flagged

pub overflow_mul-result : goal.overflow_mul-result
overflow_mul-result c =
    let index = flagged_within c.args.flags.now c.args.pos.0 c.requires.flagged in
    let most : c.rank.result ≤ 1048576 = omega (arith, c.rank.ensures, rank-le_index c.args.flags.now c.args.pos.0, index, c.requires.long, c.requires.routed.short) in
    let product = mul-le c.rank.result c.from.result 1048576 1024 most (omega (arith, c.requires.routed.few)) in
    omega (arith, product)

pub overflow_add-result : goal.overflow_add-result
overflow_add-result c =
    let index = flagged_within c.args.flags.now c.args.pos.0 c.requires.flagged in
    let most : c.rank.result ≤ 1048576 = omega (arith, c.rank.ensures, rank-le_index c.args.flags.now c.args.pos.0, index, c.requires.long, c.requires.routed.short) in
    let product = mul-le c.rank.result c.from.result 1048576 1024 most (omega (arith, c.requires.routed.few)) in
    omega (arith, product, c.requires.routed.few, c.requires.state)

pub returns-clause-is : goal.returns-clause-is
returns-clause-is c =
    let g = game_of c.args.game.now in
    let states : c.from.result ≡ g.states.count = omega arith in
    let state : c.from-2.result ≡ c.args.state.0 = omega arith in
    ap (λ (y : ℕ). y * c.from.result + c.from-2.result) c.rank.ensures ∙ ap (λ (y : ℕ). rank c.args.flags.now c.args.pos.0 * y + c.from-2.result) states
    ∙ ap (λ (y : ℕ). rank c.args.flags.now c.args.pos.0 * g.states.count + y) state

pub returns-clause-within : goal.returns-clause-within
returns-clause-within c =
    let g = game_of c.args.game.now in
    let flags = c.args.flags.now in
    let states : c.from.result ≡ g.states.count = omega arith in
    let state : c.from-2.result ≡ c.args.state.0 = omega arith in
    let is : c.rank.result * c.from.result + c.from-2.result ≡ list_of g flags c.args.pos.0 c.args.state.0
    = ap (λ (y : ℕ). y * c.from.result + c.from-2.result) c.rank.ensures ∙ ap (λ (y : ℕ). rank flags c.args.pos.0 * y + c.from-2.result) states
    ∙ ap (λ (y : ℕ). rank flags c.args.pos.0 * g.states.count + y) state in
    subst (λ (y : ℕ). y < number flags * g.states.count) (sym is) (list_within g flags c.args.pos.0 c.args.state.0 c.requires.flagged c.requires.state)
