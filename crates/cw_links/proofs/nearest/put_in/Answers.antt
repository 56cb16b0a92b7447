use Rattle.std.proofs.Common.{◌++◌, ◌∷◌, [], ℕ, List, sym, ◌∙◌, subst, arith, inr}
use Rattle.cw_links.specs.Queues.{Puts}
use Rattle.cw_links.specs.Nearest.{all_stacks}
use Rattle.cw_links.proofs.Nearing.{three, puts_first, puts_now, puts_soon, puts_next, puts_later, puts_same}
use Rattle.cw_links.proofs.nearest.put_in.Goals as goal

pub returns-in_ok-push-in-Now-clause-put : goal.returns-in_ok-push-in-Now-clause-put
returns-in_ok-push-in-Now-clause-put c =
    let n = c.args.near.now in
    let later = c.args.later.now in
    let e = c.args.element in
    subst (λ (xs : List ℕ). Puts (all_stacks n later) (three xs n.present_key n.soon.items n.soon_key later) e c.args.key) (sym c.in_ok-push-in-Now.ensures.items)
    (subst (λ (k : ℕ). Puts (all_stacks n later) (three (n.present.items ++ e ∷ []) n.present_key n.soon.items n.soon_key later) e k) (sym c.in-Now.ensures)
    (puts_now n.present.items n.present_key n.soon.items n.soon_key later c.requires.kept.behind e))

pub returns-in_ok-push-in-Now-clause-kept : goal.returns-in_ok-push-in-Now-clause-kept
returns-in_ok-push-in-Now-clause-kept c =
    record { some = λ _. omega (arith, c.in-Now.ensures, c.requires.some); behind = c.requires.kept.behind; above = c.requires.kept.above }

pub returns-in_ok-push-in-Soon-clause-put : goal.returns-in_ok-push-in-Soon-clause-put
returns-in_ok-push-in-Soon-clause-put c =
    let n = c.args.near.now in
    let later = c.args.later.now in
    let e = c.args.element in
    subst (λ (xs : List ℕ). Puts (all_stacks n later) (three n.present.items n.present_key xs n.soon_key later) e c.args.key) (sym c.in_ok-push-in-Soon.ensures.items)
    (subst (λ (k : ℕ). Puts (all_stacks n later) (three n.present.items n.present_key (n.soon.items ++ e ∷ []) n.soon_key later) e k) (sym c.in-Soon.ensures.1)
    (puts_soon n.present.items n.present_key n.soon.items n.soon_key later c.requires.kept.behind e))

pub returns-in_ok-push-in-Soon-clause-kept : goal.returns-in_ok-push-in-Soon-clause-kept
returns-in_ok-push-in-Soon-clause-kept c =
    record { some = c.requires.kept.some; behind = λ _. c.requires.kept.behind c.in-Soon.ensures.0; above = c.requires.kept.above }

pub returns-in_ok-push-in-Next-clause-put : goal.returns-in_ok-push-in-Next-clause-put
returns-in_ok-push-in-Next-clause-put c =
    let n = c.args.near.now in
    let later = c.args.later.now in
    let e = c.args.element in
    subst (λ (xs : List ℕ). Puts (all_stacks n later) (three n.present.items n.present_key xs c.args.key later) e c.args.key) (sym c.in_ok-push-in-Next.ensures.items)
    (puts_next n.present.items n.present_key n.soon.items n.soon_key later c.requires.kept.behind e c.args.key c.in-Next.ensures.0)

pub returns-in_ok-push-in-Next-clause-kept : goal.returns-in_ok-push-in-Next-clause-kept
returns-in_ok-push-in-Next-clause-kept c = record { some = c.requires.kept.some; behind = λ _. c.in-Next.ensures.1; above = c.requires.kept.above }

pub returns-in_ok-put-in-Later-clause-put : goal.returns-in_ok-put-in-Later-clause-put
returns-in_ok-put-in-Later-clause-put c =
    let n = c.args.near.now in
    puts_later n.present.items n.present_key n.soon.items n.soon_key c.args.later.now c.requires.kept.behind c.put.new.self c.args.element c.args.key
    (inr (λ e. omega (arith, e, c.in-Later.ensures.0))) (inr c.in-Later.ensures.1) c.in_ok-put-in-Later.ensures.put

pub returns-in_ok-put-in-Later-clause-kept : goal.returns-in_ok-put-in-Later-clause-kept
returns-in_ok-put-in-Later-clause-kept c =
    let p = c.in_ok-put-in-Later.ensures.put in
    record {
      some = c.requires.kept.some;
      behind = c.requires.kept.behind;
      above = λ k lt. p.others k (λ e. omega (arith, e, lt, c.min-near.ensures)) ∙ c.requires.kept.above k (omega (arith, lt, c.min-near.ensures));
    }

pub returns-in_ok-push-in-Before-clause-put : goal.returns-in_ok-push-in-Before-clause-put
returns-in_ok-push-in-Before-clause-put c =
    let n = c.set_aside.new.near in
    let later = c.set_aside.new.later in
    let e = c.args.element in
    let aside = c.in_ok-set_aside-in-Before.ensures.aside in
    puts_same (all_stacks c.args.near.now c.args.later.now) (all_stacks n later) (three c.push-in-Before.new.self.items c.args.key n.soon.items n.soon_key later) e c.args.key
    c.set_aside.ensures.same
    (subst (λ (xs : List ℕ). Puts (all_stacks n later) (three xs c.args.key n.soon.items n.soon_key later) e c.args.key) (sym c.in_ok-push-in-Before.ensures.items)
    (puts_first n.present.items n.present_key n.soon.items n.soon_key later c.set_aside.ensures.kept.behind e c.args.key aside.now aside.soon))

pub returns-in_ok-push-in-Before-clause-kept : goal.returns-in_ok-push-in-Before-clause-kept
returns-in_ok-push-in-Before-clause-kept c =
    record {
      some = λ _. c.requires.some;
      behind = λ lt. absurd (omega (arith, lt, c.in_ok-set_aside-in-Before.ensures.aside.soon));
      above = c.set_aside.ensures.kept.above;
    }
