use Rattle.std.proofs.Common.{refl, inr}
use Rattle.cw_lemmas.proofs.Truths.{not_both}
use Rattle.cw_linked.proofs.room.push_next.Goals as goal

pub returns-else-is_link : goal.returns-else-is_link
returns-else-is_link c = inr (refl, refl, λ call is class. not_both c.is_link.result (c.is_link.ensures call is class) c.if-is_link.false)
