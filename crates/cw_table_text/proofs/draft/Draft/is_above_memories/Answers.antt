use Rattle.std.proofs.Common.{◌∙◌, ap}
use Rattle.cw_certs.specs.Ascending.{mem_cmp}
use Rattle.cw_table_text.specs.Working.{is_above}
use Rattle.cw_table_text.proofs.draft.Draft.is_above_memories.Goals as goal

pub returns : goal.returns
returns c = c.is_above.ensures ∙ ap (λ xs. is_above mem_cmp xs c.args.memory.now) c.deref.ensures.value
