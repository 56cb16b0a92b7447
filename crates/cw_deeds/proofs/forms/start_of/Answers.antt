use Rattle.std.proofs.Common.{sym, ap}
use Rattle.cw_syntax.proofs.Shapes.{node_is}
use Rattle.cw_value.specs.Expressions.{from_of}
use Rattle.cw_deeds.proofs.forms.start_of.Goals as goal

pub returns : goal.returns
returns c = sym (ap from_of (node_is c.args.e.now))
