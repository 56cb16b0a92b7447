use Rattle.std.proofs.Common.{List, ℕ, Bool, [], sym, subst}
use Rattle.cw_links.specs.Marked.{AreMarked}
use Rattle.cw_links.proofs.Ranking.{none_marked}
use Rattle.cw_links.proofs.marks.Marks.make.Goals as goal

pub invariant_of-result : goal.invariant_of-result
invariant_of-result c =
    subst (λ (ms : List Bool). AreMarked ms c.new.result.items) (sym c.make.ensures.empty) (subst (λ (xs : List ℕ). AreMarked [] xs) (sym c.new.ensures.items) none_marked)
