use Rattle.cw_policy.proofs.Same.{refused_spells_none}
use Rattle.cw_commands.proofs.files.is_of_format_two.Goals as goal

pub returns-else-is_memory-clause-other : goal.returns-else-is_memory-clause-other
returns-else-is_memory-clause-other c = λ e s. c.is_memory.ensures.other c.if-is_memory.false (refused_spells_none c.args.policy.now s.0 c.in-Err.fault s.1 c.in-Err.ensures.fault)
