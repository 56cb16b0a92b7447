use Rattle.std.proofs.Common.{ℕ, List, refl, sym, ap, ◌∙◌, subst, arith, inl, inr}
use Rattle.cw_links.specs.Nearest.{all_stacks, AreNear}
use Rattle.cw_links.proofs.Nearing.{takes_later, none_waits}
use Rattle.cw_links.proofs.nearest.take_later.Goals as goal

pub returns-in-None-clause-kept : goal.returns-in-None-clause-kept
returns-in-None-clause-kept c = subst (λ (ls : List (List ℕ)). AreNear c.args.near.now ls) (sym c.in-None.ensures.left) c.requires.kept

pub returns-in-None-clause-empty : goal.returns-in-None-clause-empty
returns-in-None-clause-empty c = elim c.requires.lower [ inl e ↦ e | inr lower ↦ absurd (lower.2 (c.in-None.ensures.none.0 refl lower.0)) ]

pub returns-in-None-clause-none : goal.returns-in-None-clause-none
returns-in-None-clause-none c =
    let n = c.args.near.now in
    let empty = returns-in-None-clause-empty c in
    none_waits n.present.items n.present_key n.soon.items n.soon_key c.args.later.now empty (c.requires.alone empty) (c.in-None.ensures.none.0 refl)

pub returns-in-None-clause-left : goal.returns-in-None-clause-left
returns-in-None-clause-left c = ap (λ (ls : List (List ℕ)). all_stacks c.args.near.now ls) c.in-None.ensures.left

pub returns-in-Some-clause-kept : goal.returns-in-Some-clause-kept
returns-in-Some-clause-kept c =
    let t = c.in-Some.ensures.taken in
    record {
      some = c.requires.kept.some;
      behind = c.requires.kept.behind;
      above = λ k lt. sym (t.undone.others k (λ e. omega (arith, e, lt))) ∙ t.least k lt;
    }

pub returns-in-Some-clause-taken : goal.returns-in-Some-clause-taken
returns-in-Some-clause-taken c =
    let n = c.args.near.now in
    takes_later n.present.items n.present_key n.soon.items n.soon_key c.args.later.now c.take.new.self c.in-Some.element c.in-Some.key c.requires.kept.behind c.requires.alone c.requires.lower
    c.in-Some.ensures.taken
