use Rattle.std.proofs.Common.{rules, ◌≡◌, ◌*◌, ◌<◌, ◌≤◌, length, refl, sym, ap, ap₂, ◌∙◌, subst, arith}
use Rattle.std.proofs.lemmas.List.{length-map}
use Rattle.cw_states.specs.declared.order.Ranked.{Ranked}
use Rattle.cw_rights.specs.Policies.{PlainPolicy, policy_of}
use Rattle.cw_dfa.specs.Verdicts.{rules_of as rules_in}
use Rattle.cw_states.specs.Growing.{all_caps}
use Rattle.cw_fixpoint.specs.Closures.{Exactly}
use Rattle.cw_states.specs.Rights.{IsRightsState, caps_cmp}
use Rattle.cw_states.specs.States.{Lists, AreLists, IsCause, count}
use Rattle.cw_states.proofs.Letters.{sets_reached, many_cause}
use Rattle.cw_states.proofs.pairs.Pairs.make.Goals as goal

pub returns-then-len-most-clause-cause : goal.returns-then-len-most-clause-cause
returns-then-len-most-clause-cause c =
    let policy : PlainPolicy = policy_of c.args.policy.now in
    let sets = c.in_ok-sets.sets.items in
    let v : Lists = record { policy = policy; rights = all_caps c.in-Some.rights.items; sets = sets } in
    let same : c.rules_of-rules.result ≡ c.args.policy.now.rules.items = c.rules_of-rules.ensures in
    let all = sets_reached policy c.args.uses (rules_in c.rules_of-rules.result) v.rights (all_caps c.deref.result.now) c.label_count.result
    c.in_ok-masks.masks.items c.deref-2.result.now (ap rules_in same) (ap all_caps c.deref.ensures.value) c.label_count.ensures c.deref-2.ensures.value
    c.in_ok-masks.ensures sets c.in_ok-sets.ensures.all in
    let lists : AreLists c.args.uses v = record { rights = search rules; sets = all } in
    let n = length-map c.in-Some.rights.items (λ (state : Ranked). state.caps) in
    let few : length c.in-Some.rights.items ≤ 128 = search rules in
    let few_rights : length v.rights ≤ 128 = omega (arith, few, n) in
    let few_sets : length v.sets ≤ 64 = search rules in
    let rows : c.len.result ≡ length sets = search rules in
    let columns : c.len-2.result ≡ length c.in-Some.rights.items = search rules in
    let size : c.len.result * c.len-2.result ≡ count v = ap₂ (λ a b. a * b) rows (columns ∙ sym n) in
    let test : c.limit_in-most.result < c.len.result * c.len-2.result = search rules in
    let over = subst (λ most. most < count v) c.limit_in-most.ensures.limit (subst (λ all. c.limit_in-most.result < all) size test) in
    (v, refl, lists, few_rights, few_sets, over)

pub returns-in_err-sets-clause-cause : goal.returns-in_err-sets-clause-cause
returns-in_err-sets-clause-cause c =
    let policy : PlainPolicy = policy_of c.args.policy.now in
    let rights = all_caps c.in-Some.rights.items in
    let exact : Exactly caps_cmp (IsRightsState policy c.args.uses) rights = search rules in
    let n = length-map c.in-Some.rights.items (λ (state : Ranked). state.caps) in
    let few : length c.in-Some.rights.items ≤ 128 = search rules in
    let few_rights : length rights ≤ 128 = omega (arith, few, n) in
    let cause = many_cause policy c.args.uses (rules_in c.rules_of-rules.result) rights (all_caps c.deref.result.now) c.label_count.result
    c.in_ok-masks.masks.items c.deref-2.result.now (ap rules_in c.rules_of-rules.ensures) (ap all_caps c.deref.ensures.value) c.label_count.ensures
    c.deref-2.ensures.value c.in_ok-masks.ensures exact few_rights in
    let all : IsCause policy c.args.uses c.in_err-sets.field-0.0 = cause c.in_err-sets.field-0.0 c.in_err-sets.ensures.many in
    search (rules, all)

pub returns-clause-lists : goal.returns-clause-lists
returns-clause-lists c =
    let policy : PlainPolicy = policy_of c.args.policy.now in
    let rights = all_caps c.in-Some.rights.items in
    let all = sets_reached policy c.args.uses (rules_in c.rules_of-rules.result) rights (all_caps c.deref.result.now) c.label_count.result
    c.in_ok-masks.masks.items c.deref-2.result.now (ap rules_in c.rules_of-rules.ensures) (ap all_caps c.deref.ensures.value) c.label_count.ensures
    c.deref-2.ensures.value c.in_ok-masks.ensures c.in_ok-sets.sets.items c.in_ok-sets.ensures.all in
    let exact : Exactly caps_cmp (IsRightsState policy c.args.uses) rights = search rules in
    record { rights = exact; sets = all }
