use Rattle.std.proofs.Common.{rules, ◌≡◌, length, subst}
use Rattle.std.proofs.lemmas.List.{nil_from_length}
use Rattle.cw_least_strategy.specs.Descents.{Joins}
use Rattle.cw_least_strategy.proofs.Searching.{one_taken}
use Rattle.cw_least_strategy.proofs.search.greatest.Goals as goal

pub returns-in-None-clause-none : goal.returns-in-None-clause-none
returns-in-None-clause-none c =
    let old = c.args.waiting.now.keys in
    let mid = c.wait_for.new.waiting.keys in
    let joined : Joins old c.args.keys.now.items mid = subst (λ l. Joins old l mid) c.deref.ensures.value c.in_ok-wait_for.ensures in
    let empty : length mid ≡ 0 = search rules in
    subst (λ l. Joins old c.args.keys.now.items l) (nil_from_length mid empty) joined

pub returns-in-Some-clause-taken : goal.returns-in-Some-clause-taken
returns-in-Some-clause-taken c =
    let old = c.args.waiting.now.keys in
    let mid = c.wait_for.new.waiting.keys in
    let joined : Joins old c.args.keys.now.items mid = subst (λ l. Joins old l mid) c.deref.ensures.value c.in_ok-wait_for.ensures in
    subst (λ l. Joins old c.args.keys.now.items l) c.in-Some.ensures.removal joined

pub returns-then-are_below-clause-taken : goal.returns-then-are_below-clause-taken
returns-then-are_below-clause-taken c =
    one_taken c.args.waiting.now.keys c.args.keys.now.items c.pop.new.self.items c.pop.result c.pop.ensures.items (search rules)
