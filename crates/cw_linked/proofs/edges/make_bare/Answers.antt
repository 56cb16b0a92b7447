use Rattle.std.proofs.Common.{◌≡◌, ℕ, length, subst, arith}
use Rattle.cw_product.specs.Product.{game_of}
use Rattle.cw_linked.specs.Plain.{ArePlain}
use Rattle.cw_linked.proofs.Plain.{no_plain, plain_more}
use Rattle.cw_linked.proofs.edges.make_bare.Goals as goal

pub loop-p-init : goal.loop-p-init
loop-p-init c = no_plain (game_of c.args.game.now) 0 c.in_ok-plain.plain.items c.in_ok-plain.ensures.items

pub loop-p-preserved : goal.loop-p-preserved
loop-p-preserved c =
    plain_more (game_of c.args.game.now) 0 c.loop-p.p c.loop-p.plain.items c.push.new.self.items c.is_bare.result c.loop-p.invariant c.is_bare.ensures c.in_ok-push.ensures.items

pub returns : goal.returns
returns c =
    let g = game_of c.args.game.now in
    let all : c.loop-p.p ≡ length g.spots = omega (arith, c.positions-p-end.ensures, c.loop-p-test.false, c.loop-p.auto.p-end) in
    subst (λ (n : ℕ). ArePlain g 0 n c.loop-p.plain.items) all c.loop-p.invariant
