use Rattle.std.proofs.Common.{◌≡◌, map, take}
use Rattle.cw_policy.proofs.parts.listed.Given as goal

abbrev pub invariant-labels : goal.invariant-labels
invariant-labels l = map (λ name. name.items) l.list.items ≡ map (λ name. name.items) (take l.label-index l.label-items)
