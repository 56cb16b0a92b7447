use Rattle.std.proofs.Common.{◌≡◌, drop}
use Rattle.cw_callgraph.specs.Scoping.{latest}
use Rattle.cw_callgraph.proofs.scopes.latest.Given as goal

abbrev pub invariant-loop-one : goal.invariant-loop-one
invariant-loop-one l = latest l.source l.means (drop l.one-index l.known) l.name ≡ latest l.source l.fn.before l.known l.name
