use Rattle.std.proofs.Common.{rules, ◌≡◌, ◌+◌, map, length, sym, ap, ◌∙◌}
use Rattle.std.proofs.lemmas.List.{length-map}
use Rattle.cw_rights.specs.declared.capabilities.Limit.{Limit as ALimit}
use Rattle.cw_rights.specs.declared.capabilities.Primitive.TheVariants.{Limit}
use Rattle.cw_rights.specs.declared.policy.Policy.{Policy}
use Rattle.cw_rights.specs.Policies.{policy_of, descriptor_of}
use Rattle.cw_states.specs.declared.acts.Act.TheVariants.{Granted, Opened, Closed}
use Rattle.cw_states.specs.States.{Lists, lists_of}
use Rattle.cw_states.specs.Tables.{indices_after, entries, tabled}
use Rattle.cw_states.proofs.tables.tables_of.Goals as goal

pub returns : goal.returns
returns c =
    let v : Lists = lists_of c.args.pairs.now in
    let policy = c.args.policy.now in
    let same : policy ≡ c.args.pairs.now.policy = sym c.requires.policy in
    let limits : c.deref.result.now ≡ v.policy.limits = c.deref.ensures.value ∙ ap (λ (p : Policy). p.limits.items) same in
    let size : length policy.descriptors.items ≡ length v.policy.descriptors =
    ap (λ (p : Policy). length p.descriptors.items) same ∙ sym (length-map c.args.pairs.now.policy.descriptors.items descriptor_of) in
    let labels : length policy.labels.items ≡ length v.policy.labels =
    sym (length-map policy.labels.items (λ name. name.items)) ∙ ap (λ (p : Policy). length (policy_of p).labels) same in
    let first : c.len.result ≡ length policy.descriptors.items = search rules in
    let second : c.len-2.result ≡ length policy.descriptors.items = search rules in
    let third : c.len-3.result ≡ length policy.labels.items = search rules in
    record {
      entered = c.in_ok-entered.ensures;
      split = c.in_ok-split.ensures;
      limited = c.in_ok-limited.ensures ∙ ap (map (λ (limit : ALimit). indices_after v (Granted (Limit limit)))) limits;
      opened = c.in_ok-opened.ensures ∙ ap (tabled (λ d. indices_after v (Opened d))) (first ∙ size);
      closed = c.in_ok-closed.ensures ∙ ap (tabled (λ d. indices_after v (Closed d))) (second ∙ size);
      lettered = c.in_ok-lettered.ensures ∙ ap (λ n. tabled (entries v) (n + 1)) (third ∙ labels);
    }
