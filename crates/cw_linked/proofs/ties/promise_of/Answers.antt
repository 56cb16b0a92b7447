use Rattle.std.proofs.Common.{◌≡◌, ℕ, Bool, sym, ap, ◌∙◌, nat_lt, ◌&&◌, arith}
use Rattle.cw_core.specs.StateSet.{has}
use Rattle.cw_game.specs.Games.{returned}
use Rattle.cw_game.specs.Pairs.{kept_at}
use Rattle.cw_product.specs.Product.{game_of}
use Rattle.cw_solve.specs.Rounds.{holds_by}
use Rattle.cw_linked.specs.Works.{known_of, heights_of}
use Rattle.cw_linked.proofs.Promising.{one_more_in, one_more_out}
use Rattle.cw_linked.proofs.ties.promise_of.Goals as goal
use Rattle.cw_linked.proofs.ties.promise_of.Goals.{then-stays, else-stays}

pub loop-x-preserved : goal.loop-x-preserved
loop-x-preserved c =
    let g = game_of c.args.game.now in
    let kept : ℕ → Bool = λ q. holds_by c.args.moves (heights_of g (known_of c.args.work.now) c.args.link.now.at.number c.args.back.0 q) in
    let holds : ℕ → Bool = λ y. kept (returned g.states (kept_at c.args.split c.args.link.now.state.0) y) in
    let here : c.stays.result ≡ holds c.loop-x.x = c.stays.ensures ∙ ap kept c.returned-then.ensures.is in
    elim c.if-stays.branch [
      | then-stays w ↦ λ y. ap (λ (s : ℕ). has s y) w.set-is ∙ w.insert.ensures.members y ∙ one_more_in (has c.loop-x.set) holds c.loop-x.x c.loop-x.invariant (sym here ∙ w.if-stays.true) y
      | else-stays w ↦ λ y. ap (λ (s : ℕ). has s y) w.set-is ∙ one_more_out (has c.loop-x.set) holds c.loop-x.x c.loop-x.invariant (sym here ∙ w.if-stays.false) y
    ]

pub returns : goal.returns
unfolding has
returns c =
    let g = game_of c.args.game.now in
    let e : c.loop-x.x ≡ c.states-x-end.result = omega (arith, c.loop-x-test.false, c.loop-x.auto.x-end) in
    λ x. c.loop-x.invariant x
    ∙ ap (λ k. nat_lt x k && holds_by c.args.moves (heights_of g (known_of c.args.work.now) c.args.link.now.at.number c.args.back.0
    (returned g.states (kept_at c.args.split c.args.link.now.state.0) x)))
    (e ∙ c.states-x-end.ensures)
