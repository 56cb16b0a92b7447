use Rattle.std.proofs.Common.{sym, ◌∙◌}
use Rattle.cw_callgraph.proofs.Nodes.{meaning_is}
use Rattle.cw_callgraph.proofs.expressions.meaning_of.Goals as goal

pub returns : goal.returns
returns c = let s = c.args.scope.now in c.meaning_at.ensures ∙ sym (meaning_is s.source.now s.file.now s.inner.now c.args.e.now)
