-- The pairs of a position stand side by side.
use Rattle.std.proofs.Common.{rules, ◌≤◌}
use Rattle.cw_certs.proofs.Middle.{middle, in_order}
use Rattle.cw_certs.proofs.live.between.Goals as goal

pub slice_bounds-result-count : goal.slice_bounds-result-count
slice_bounds-result-count c = in_order (λ r. r.0.0) c.args.pos.0 c.args.rows.now _ _ c.first_from.ensures.point c.first_after.ensures.point c.first_from.ensures.bound

pub slice_bounds-result-start : goal.slice_bounds-result-start
slice_bounds-result-start c =
    let le : c.first_from.result ≤ c.first_after.result = in_order (λ r. r.0.0) c.args.pos.0 c.args.rows.now _ _ c.first_from.ensures.point c.first_after.ensures.point c.first_from.ensures.bound in
    search rules

pub returns : goal.returns
returns c = middle (λ r. r.0.0) c.args.pos.0 c.args.rows.now _ _ c.first_from.ensures.point c.first_after.ensures.point c.first_from.ensures.bound
