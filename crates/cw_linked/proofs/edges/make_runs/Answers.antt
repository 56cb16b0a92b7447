use Rattle.std.proofs.Common.{◌≡◌, ◌+◌, ◌≤◌, length, min, ap, arith}
use Rattle.std.proofs.Math.Nat.{le-min}
use Rattle.cw_points.specs.declared.graph.Graph.{Graph}
use Rattle.cw_linked.proofs.edges.make_runs.Goals as goal

pub returns : goal.returns
returns c = record {
  are = c.loop-f.invariant.are;
  all = λ f below small.
      let parts : length c.graph.result.now.parts.items ≡ length c.args.game.now.graph.parts.items = ap (λ (graph : Graph). length graph.parts.items) c.graph.ensures in
      let many : c.len.result ≡ length c.graph.result.now.parts.items = omega (arith, c.len.ensures, c.graph.result.now.parts.ok.0) in
      let first : f + 1 ≤ min c.len.result 65536 = le-min (omega (arith, below, parts, many)) (omega (arith, small)) in
      omega (arith, first, c.min-f-end.ensures, c.loop-f-test.false, c.loop-f.invariant.long);
}
