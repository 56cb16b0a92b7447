use Rattle.std.proofs.Common.{sym, ◌∙◌, inr}
use Rattle.std.proofs.lemmas.Bool.{true≢false}
use Rattle.cw_woven.proofs.scanning.next_part.Goals as goal

pub returns-else-is_spelling : goal.returns-else-is_spelling
returns-else-is_spelling c = (
  c.in-Some.gap.now,
  c.in-Some.ensures.some,
  inr (c.in-Some-cut_at.inner.now, c.in-Some-cut_at.after.now, c.in-Some-cut_at.ensures.some, λ s. true≢false (sym (c.is_spelling.ensures.1 s) ∙ c.if-is_spelling.false)),
)
