use Rattle.std.proofs.Common.{◌≡◌, ◌++◌, ◌∷◌, [], ℕ, List, sym, ap, ◌∙◌, subst, arith}
use Rattle.std.proofs.lemmas.Bool.{cond-true}
use Rattle.cw_links.specs.Keys.{Keyed, AreQueued}
use Rattle.cw_links.proofs.Queueing.{pushed_link}
use Rattle.cw_links.proofs.keys.Keys.push_link.Goals as goal

pub invariant_of-self : goal.invariant_of-self
invariant_of-self c =
    let s = c.self.inside in
    let spare = ap (λ (k : Keyed). k.spare_links) c.self.view_is in
    let items : c.push.new.self.items ≡ s.due.items ++ 0 ∷ [] = c.push.ensures.items ∙ cond-true _ _ _ (c.push.ensures.succeeds (omega (arith, spare, c.requires.room))) in
    subst (λ (ys : List ℕ). AreQueued s.cells.asked ys s.queue) (sym items)
    (pushed_link s.cells.asked s.due.items s.queue c.self.invariant (omega (arith, spare, c.requires.room)))
