use Rattle.std.proofs.Common.{sym, ◌∙◌}
use Rattle.cw_items.proofs.Operands.{one_part, many_parts}
use Rattle.cw_items.proofs.forks.is_fork_operand.Goals as goal

pub returns-in-len1 : goal.returns-in-len1
returns-in-len1 c =
    c.calls_fork.ensures
    ∙ sym (one_part c.args.checked.now.source.now c.args.parts.now c.call-item.result c.in-len1.len_at_least c.in-len1.len_below c.call-item.is)

pub returns-in_default-2 : goal.returns-in_default-2
returns-in_default-2 c = sym (many_parts c.args.checked.now.source.now c.args.parts.now c.in_default.len_at_least)
