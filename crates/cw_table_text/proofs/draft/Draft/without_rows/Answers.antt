-- A table without rows.
use Rattle.cw_table_text.proofs.Faults.{is_empty}
use Rattle.cw_table_text.proofs.draft.Draft.without_rows.Goals as goal

pub returns-clause-empty : goal.returns-clause-empty
returns-clause-empty c = rw (
  c.new.ensures.items,
  c.new-2.ensures.items,
  c.new-3.ensures.items,
  c.new-4.ensures.items,
  c.new-5.ensures.items,
  c.new-6.ensures.items,
  c.new-7.ensures.items,
  c.new-8.ensures.items,
) (is_empty c.args.states c.args.start)
