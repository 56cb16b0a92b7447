use Rattle.std.proofs.Common.{sym, ap, ◌∙◌}
use Rattle.cw_syntax.proofs.Shapes.{node_is}
use Rattle.cw_value.specs.Expressions.{bare_location}
use Rattle.cw_slots.specs.Shown.{scope_of}
use Rattle.cw_eval.proofs.reads.bare_location.Goals as goal

pub returns : goal.returns
returns c = c.bare_at.ensures ∙ ap (bare_location (scope_of c.args.scope.now)) (sym (node_is c.args.e.now))
