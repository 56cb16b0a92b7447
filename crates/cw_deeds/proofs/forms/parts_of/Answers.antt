use Rattle.std.proofs.Common.{sym, ap, ◌∙◌}
use Rattle.cw_syntax.specs.Trees.{trees_of, parts_of}
use Rattle.cw_syntax.proofs.Shapes.{node_is}
use Rattle.cw_deeds.proofs.forms.parts_of.Goals as goal

pub returns : goal.returns
returns c = ap trees_of c.deref.ensures.value ∙ sym (ap parts_of (node_is c.args.e.now))
