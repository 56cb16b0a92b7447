use Rattle.std.proofs.Common.{◌≡◌, take}
use Rattle.cw_product.specs.Uses.{uses_in}
use Rattle.cw_product.proofs.uses.uses_of.Given as goal

abbrev pub invariant-loop-node : goal.invariant-loop-node
invariant-loop-node l = l.uses ≡ uses_in l.other (take l.node-index l.nodes)
