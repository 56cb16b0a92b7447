use Rattle.std.proofs.Common.{◌≡◌, ◌≤◌, ℕ, length, min, ap, ◌∙◌, arith}
use Rattle.cw_points.specs.declared.graph.Graph.{Graph}
use Rattle.cw_product.specs.Product.{game_of}
use Rattle.cw_linked.proofs.Plain.{entry_flagged, fewer_functions}
use Rattle.cw_linked.proofs.edges.make_plain.Goals as goal

pub loop-f-preserved : goal.loop-f-preserved
loop-f-preserved c =
    let g = game_of c.args.game.now in
    entry_flagged g c.loop-f.f (length g.spots) c.loop-f.plain.items c.entry-entry.result.0 c.loop-f.invariant c.entry-entry.ensures.is c.entry-entry.ensures.within

pub returns : goal.returns
returns c =
    let g = game_of c.args.game.now in
    let parts : length c.graph.result.now.parts.items ≡ length c.args.game.now.graph.parts.items = ap (λ (graph : Graph). length graph.parts.items) c.graph.ensures in
    let many : c.len.result ≡ length c.graph.result.now.parts.items = omega (arith, c.len.ensures, c.graph.result.now.parts.ok.0) in
    let same : min c.len.result 65536 ≡ min (length c.args.game.now.graph.parts.items) 65536 = ap (λ (n : ℕ). min n 65536) (many ∙ parts) in
    let le : min (length c.args.game.now.graph.parts.items) 65536 ≤ c.loop-f.f = omega (arith, same, c.min-f-end.ensures, c.loop-f-test.false) in
    fewer_functions g c.loop-f.f (min (length c.args.game.now.graph.parts.items) 65536) (length g.spots) c.loop-f.plain.items le c.loop-f.invariant
