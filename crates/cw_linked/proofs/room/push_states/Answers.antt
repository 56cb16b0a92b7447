use Rattle.std.proofs.Common.{◌≡◌, ◌≤◌, ◌+◌, ◌*◌, ℕ, sym, subst, arith}
use Rattle.std.proofs.Math.Nat.{mul-le-mul}
use Rattle.cw_product.specs.Product.{game_of}
use Rattle.cw_solve.specs.Contexts.{size}
use Rattle.cw_solve.specs.Rounds.{positions}
use Rattle.cw_linked.specs.Added.{PushesIndices, FlagsLinks}
use Rattle.cw_linked.proofs.Lengthening.{no_indices, more_indices, none_flagged, run_more, more_flagged}
use Rattle.cw_linked.proofs.room.push_states.Goals as goal

pub loop-x-init : goal.loop-x-init
loop-x-init c =
    let g = game_of c.args.game.now in
    let none : 0 ≡ 0 * positions g c.args.function = omega arith in
    record {
      indices = subst (λ (n : ℕ). PushesIndices c.args.store.now c.args.store.now n) none (no_indices c.args.store.now);
      flagged = subst (λ (n : ℕ). FlagsLinks g c.args.store.now.flags c.args.store.now.flags c.args.function n) none (none_flagged g c.args.store.now.flags c.args.function);
    }

pub push_state-requires-clause-few : goal.push_state-requires-clause-few
push_state-requires-clause-few c =
    let g = game_of c.args.game.now in
    let runs : c.loop-x.x + 1 ≤ g.states.count = omega (arith, c.loop-x-test.true, c.states-x-end.ensures) in
    let same : positions g c.args.function ≤ positions g c.args.function = omega arith in
    let less = mul-le-mul runs same in
    let run = run_more g c.args.function c.loop-x.x in
    let swapped : g.states.count * positions g c.args.function ≡ positions g c.args.function * g.states.count = omega arith in
    omega (arith, c.loop-x.invariant.indices.long, run, less, swapped, c.requires.few)

pub loop-x-preserved : goal.loop-x-preserved
loop-x-preserved c =
    let g = game_of c.args.game.now in
    let old = c.args.store.now in
    let mid = c.loop-x.store in
    let new = c.push_state.new.store in
    let inv = c.loop-x.invariant in
    let ensured = c.in_ok-push_state.ensures in
    let run : positions g c.args.function + 0 ≡ positions g c.args.function = omega arith in
    let indices = subst (λ (n : ℕ). PushesIndices mid new n) run ensured.indices in
    record {
      indices = subst (λ (n : ℕ). PushesIndices old new n) (run_more g c.args.function c.loop-x.x)
          (more_indices old mid new (c.loop-x.x * positions g c.args.function) (positions g c.args.function) inv.indices indices);
      flagged = more_flagged g old mid new c.args.function c.loop-x.x inv.indices indices inv.flagged ensured.flagged;
    }

pub returns : goal.returns
returns c =
    let g = game_of c.args.game.now in
    let inv = c.loop-x.invariant in
    let e : c.loop-x.x ≡ g.states.count = omega (arith, c.loop-x-test.false, c.loop-x.auto.x-end, c.states-x-end.ensures) in
    let all : c.loop-x.x * positions g c.args.function ≡ size g c.args.function = subst (λ (n : ℕ). n * positions g c.args.function ≡ size g c.args.function) (sym e) (omega arith) in
    record {
      indices = subst (λ (n : ℕ). PushesIndices c.args.store.now c.loop-x.store n) all inv.indices;
      flagged = subst (λ (n : ℕ). FlagsLinks g c.args.store.now.flags c.loop-x.store.flags c.args.function n) all inv.flagged;
    }
