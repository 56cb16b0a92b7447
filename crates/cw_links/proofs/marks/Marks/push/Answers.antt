use Rattle.std.proofs.Common.{◌≡◌, ◌<◌, ◌++◌, ◌∷◌, [], ℕ, List, Bool, true, length, sym, ap, ◌∙◌, subst, arith}
use Rattle.std.proofs.lemmas.Bool.{cond-true}
use Rattle.cw_links.specs.Marked.{AreMarked}
use Rattle.cw_links.proofs.Ranking.{marked_more}
use Rattle.cw_links.proofs.marks.Marks.push.Goals as goal

pub invariant_of-self-2 : goal.invariant_of-self-2
invariant_of-self-2 c =
    let s = c.self.inside in
    let few : length s.flags < 4294967295 = rw (← c.self.view_is) at c.requires.few in
    let index : c.len-index.result ≡ length s.flags = c.len-index.ensures.value in
    let items : c.push-2.new.self.items ≡ s.indices.items ++ c.len-index.result ∷ []
    = c.push-2.ensures.items ∙ cond-true _ _ _ (c.push-2.ensures.succeeds (omega (arith, c.in_ok-reserve.ensures.ok))) ∙ ap (λ (xs : List ℕ). xs ++ c.len-index.result ∷ []) c.reserve.ensures.items in
    subst (λ (ms : List Bool). AreMarked ms c.push-2.new.self.items) (sym c.in_ok-push.ensures.pushed)
    (subst (λ (xs : List ℕ). AreMarked (s.flags ++ true ∷ []) xs) (sym (items ∙ ap (λ (n : ℕ). s.indices.items ++ n ∷ []) index))
    (marked_more s.flags s.indices.items c.self.invariant few))
