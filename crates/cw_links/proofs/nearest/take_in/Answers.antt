use Rattle.std.proofs.Common.{◌≡◌, ◌<◌, ℕ, List, length, sym, ap, ◌∙◌, subst, arith, inl, inr}
use Rattle.cw_links.specs.declared.nearest.Near.{Near}
use Rattle.cw_links.specs.Nearest.{all_stacks, AreNear}
use Rattle.cw_links.specs.Queues.{HasLower}
use Rattle.cw_links.proofs.Nearing.{takes_same, some_still, none_still, none_both, stacks_still, near_still, same_then}
use Rattle.cw_links.proofs.nearest.take_in.Goals as goal

pub is_first-requires : goal.is_first-requires
is_first-requires c = c.advance.ensures.kept c.args.later.now c.requires

pub take_now-requires : goal.take_now-requires
take_now-requires c =
    let later = c.args.later.now in
    let near = c.is_first.new.near in
    let f = c.is_first.ensures.first in
    let yes = f.yes c.if-is_first.true in
    record {
      kept = subst (λ (ls : List (List ℕ)). AreNear near ls) (sym c.is_first.ensures.later)
          (near_still c.advance.new.near near later f.same f.above (c.advance.ensures.kept later c.requires));
      some = subst (λ (xs : List ℕ). 0 < length xs) (sym f.same.now) yes.0;
      least = omega (arith, yes.1, f.same.now_key);
    }

pub take_later-requires : goal.take_later-requires
take_later-requires c =
    let later = c.args.later.now in
    let near = c.is_first.new.near in
    let f = c.is_first.ensures.first in
    record {
      kept = subst (λ (ls : List (List ℕ)). AreNear near ls) (sym c.is_first.ensures.later)
          (near_still c.advance.new.near near later f.same f.above (c.advance.ensures.kept later c.requires));
      alone = λ e.
          let was : length c.advance.new.near.present.items ≡ 0 = ap (λ (xs : List ℕ). length xs) (sym f.same.now) ∙ e in
          ap (λ (xs : List ℕ). length xs) f.same.soon ∙ (c.advance.ensures.none was).0;
      lower = elim (f.no c.if-is_first.false) [
        | inl e ↦ inl (ap (λ (xs : List ℕ). length xs) f.same.now ∙ e)
        | inr lower ↦ inr (subst (λ (ls : List (List ℕ)). HasLower ls near.present_key) (sym c.is_first.ensures.later) (subst (λ (k : ℕ). HasLower later k) (sym f.same.now_key) lower))
      ];
    }

pub returns-then-is_first-clause-taken : goal.returns-then-is_first-clause-taken
returns-then-is_first-clause-taken c =
    let later = c.args.later.now in
    let same_later = c.is_first.new.later in
    let near = c.is_first.new.near in
    some_still c.take_now.result (λ t h.
    takes_same (all_stacks c.args.near.now later) (all_stacks near same_later) (all_stacks c.take_now.new.near same_later) t.0 t.1
    (same_then c.args.near.now c.advance.new.near near later same_later c.is_first.ensures.later c.advance.ensures c.is_first.ensures.first.same) h) c.take_now.ensures.taken

pub returns-then-is_first-clause-none : goal.returns-then-is_first-clause-none
returns-then-is_first-clause-none c = none_still c.take_now.result (λ (b : ⊥). absurd b) c.take_now.ensures.some

pub returns-then-is_first-clause-left : goal.returns-then-is_first-clause-left
returns-then-is_first-clause-left c = none_still c.take_now.result (λ (b : ⊥). absurd b) c.take_now.ensures.some

pub returns-clause-taken : goal.returns-clause-taken
returns-clause-taken c =
    let later = c.args.later.now in
    let same_later = c.is_first.new.later in
    let near = c.is_first.new.near in
    some_still c.take_later.result (λ t h.
    takes_same (all_stacks c.args.near.now later) (all_stacks near same_later) (all_stacks c.take_later.new.near c.take_later.new.later) t.0 t.1
    (same_then c.args.near.now c.advance.new.near near later same_later c.is_first.ensures.later c.advance.ensures c.is_first.ensures.first.same) h) c.take_later.ensures.taken

pub returns-clause-none : goal.returns-clause-none
returns-clause-none c =
    none_still c.take_later.result (λ none key.
    sym (same_then c.args.near.now c.advance.new.near c.is_first.new.near c.args.later.now c.is_first.new.later c.is_first.ensures.later c.advance.ensures
    c.is_first.ensures.first.same key) ∙ none key)
    c.take_later.ensures.none

pub returns-clause-left : goal.returns-clause-left
returns-clause-left c =
    let later = c.args.later.now in
    let near = c.is_first.new.near in
    let f = c.is_first.ensures.first.same in
    none_both c.take_later.result (λ left empty.
    let was : length c.advance.new.near.present.items ≡ 0 = ap (λ (xs : List ℕ). length xs) (sym f.now) ∙ empty in
    left ∙ ap (λ (ls : List (List ℕ)). all_stacks near ls) c.is_first.ensures.later ∙ stacks_still c.advance.new.near near later f
    ∙ ap (λ (n : Near). all_stacks n later) (c.advance.ensures.none was).1)
    c.take_later.ensures.left c.take_later.ensures.empty
