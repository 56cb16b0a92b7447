-- A name that is known within hides the one at file scope.
use Rattle.std.proofs.Common.{◌∙◌}
use Rattle.cw_callgraph.proofs.Scoped.{hidden, unhidden}
use Rattle.cw_callgraph.proofs.scopes.name_means.Goals as goal

pub returns-in-Some : goal.returns-in-Some
returns-in-Some c =
    hidden c.args.scope.now.source.now c.args.name.now c.args.scope.now.file.now c.args.scope.now.inner.now c.latest.result c.in-Some.means c.latest.ensures c.in-Some.is

pub returns-in-None : goal.returns-in-None
returns-in-None c =
    c.latest-in-None.ensures
    ∙ unhidden c.args.scope.now.source.now c.args.name.now c.args.scope.now.file.now c.args.scope.now.inner.now c.latest.result c.latest.ensures c.in-None.is
