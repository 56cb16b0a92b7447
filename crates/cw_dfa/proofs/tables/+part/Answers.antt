use Rattle.std.proofs.Common.{rules, ◌≡◌, [], ◌∷◌, ◌-◌, length, drop, take, ap, sym, ◌∙◌, subst, arith, length-drop}
use Rattle.cw_rights.specs.Trees.{tree_of, seq_of, alt_of, star, plus}
use Rattle.cw_dfa.specs.Tables.{Gains, firsts}
use Rattle.cw_rights.proofs.Along.{drop_item}
use Rattle.std.proofs.lemmas.List.{drop_all, take_all}
use Rattle.cw_dfa.proofs.Gaining.{same_row, gains_again, gains_seq, gains_alt}
use Rattle.cw_dfa.proofs.tables.+part.Goals as goal

pub add_part-returns-in-Lit-clause-gains : goal.add_part-returns-in-Lit-clause-gains
add_part-returns-in-Lit-clause-gains t c = subst (λ r. Gains (tree_of r) c.args.k c.args.follow.now c.args.follow.now) (sym c.in-Lit.is) (λ p l. same_row c.args.follow.now p)

pub add_part-returns-in-Star-clause-gains : goal.add_part-returns-in-Star-clause-gains
add_part-returns-in-Star-clause-gains t c =
    let body = tree_of c.deref-in-Star.result.now in
    let is : tree_of c.args.r.now ≡ star body = ap tree_of c.in-Star.is ∙ ap (λ x. star (tree_of x)) (sym c.deref-in-Star.ensures) in
    let own = c.add_part-p.ensures.is in
    subst (λ r. Gains r c.args.k c.args.follow.now c.link.new.follow) (sym is) (gains_again body c.args.k _ c.add_part-p.new.follow _ _ _ c.add_part-p.ensures.gains c.link.ensures own.last own.first)

pub add_part-returns-in-Plus-clause-gains : goal.add_part-returns-in-Plus-clause-gains
add_part-returns-in-Plus-clause-gains t c =
    let body = tree_of c.deref-in-Plus.result.now in
    let is : tree_of c.args.r.now ≡ plus body = ap tree_of c.in-Plus.is ∙ ap (λ x. plus (tree_of x)) (sym c.deref-in-Plus.ensures) in
    let own = c.add_part-p-in-Plus.ensures.is in
    subst (λ r. Gains r c.args.k c.args.follow.now c.link-in-Plus.new.follow) (sym is) (gains_again body c.args.k _ c.add_part-p-in-Plus.new.follow _ _ _ c.add_part-p-in-Plus.ensures.gains
    c.link-in-Plus.ensures own.last own.first)

pub alternative_of-returns-in-empty-clause-gains : goal.alternative_of-returns-in-empty-clause-gains
alternative_of-returns-in-empty-clause-gains t c =
    let none : c.args.parts.now ≡ [] = drop_all 0 c.args.parts.now (omega arith) in
    subst (λ l. Gains (alt_of l) c.args.k c.args.follow.now c.args.follow.now) (sym none) (λ p l. same_row c.args.follow.now p)

pub alternative_of-returns-in-len1-up-clause-gains : goal.alternative_of-returns-in-len1-up-clause-gains
alternative_of-returns-in-len1-up-clause-gains t c =
    let cut : c.args.parts.now ≡ c.first-item.result ∷ drop 1 c.args.parts.now = drop_item c.args.parts.now 0 c.first-item.result (search rules) (search rules) in
    let rest : take (length c.args.parts.now - 1) (drop 1 c.args.parts.now) ≡ drop 1 c.args.parts.now = take_all _ _ (grind (arith, length-drop)) in
    let others = subst (λ l. Gains (alt_of l) c.add_part-p.result.next c.add_part-p.new.follow c.alternative_of-q.new.follow) rest c.alternative_of-q.ensures.gains in
    subst (λ l. Gains (alt_of l) c.args.k c.args.follow.now c.alternative_of-q.new.follow) (sym cut)
    (gains_alt (tree_of c.first-item.result) (alt_of (drop 1 c.args.parts.now)) c.args.k c.add_part-p.result.next _ c.add_part-p.new.follow _ c.add_part-p.ensures.gains others
    c.add_part-p.ensures.is.next)

pub sequence_of-returns-in-empty-clause-gains : goal.sequence_of-returns-in-empty-clause-gains
sequence_of-returns-in-empty-clause-gains t c =
    let none : c.args.parts.now ≡ [] = drop_all 0 c.args.parts.now (omega arith) in
    subst (λ l. Gains (seq_of l) c.args.k c.args.follow.now c.args.follow.now) (sym none) (λ p l. same_row c.args.follow.now p)

pub sequence_of-returns-in-len1-up-clause-gains : goal.sequence_of-returns-in-len1-up-clause-gains
sequence_of-returns-in-len1-up-clause-gains t c =
    let cut : c.args.parts.now ≡ c.first-item.result ∷ drop 1 c.args.parts.now = drop_item c.args.parts.now 0 c.first-item.result (search rules) (search rules) in
    let rest : take (length c.args.parts.now - 1) (drop 1 c.args.parts.now) ≡ drop 1 c.args.parts.now = take_all _ _ (grind (arith, length-drop)) in
    let others = subst (λ l. Gains (seq_of l) c.add_part-p.result.next c.add_part-p.new.follow c.sequence_of-q.new.follow) rest c.sequence_of-q.ensures.gains in
    let front = c.sequence_of-q.ensures.is.first ∙ ap (λ l. firsts (seq_of l) c.add_part-p.result.next) rest in
    subst (λ l. Gains (seq_of l) c.args.k c.args.follow.now c.link.new.follow) (sym cut) (gains_seq (tree_of c.first-item.result) (seq_of (drop 1 c.args.parts.now)) c.args.k
    c.add_part-p.result.next _ c.add_part-p.new.follow c.sequence_of-q.new.follow _ _ _ c.add_part-p.ensures.gains others c.link.ensures c.add_part-p.ensures.is.next
    c.add_part-p.ensures.is.last front)
