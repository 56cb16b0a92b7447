use Rattle.std.proofs.Common.{◌≡◌, None, length}
use Rattle.cw_product.specs.Product.{game_of}
use Rattle.cw_audit_check.proofs.Orders.{RangesFrom}
use Rattle.cw_audit_check.proofs.ranges.first_bad_range.Given as goal

abbrev pub invariant-loop-number : goal.invariant-loop-number
invariant-loop-number l =
    let g = game_of l.game in
    let functions = length l.game.graph.parts.items in
    RangesFrom g functions l.groups None 0 ≡ RangesFrom g functions l.groups l.last l.number
