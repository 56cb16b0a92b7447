use Rattle.std.proofs.Common.{◌≡◌, List, ◌++◌, ap, ap₂, ◌∙◌}
use Rattle.cw_rights.specs.declared.policy.Rule.{Rule}
use Rattle.cw_dfa.specs.Tables.{named}
use Rattle.cw_dfa.specs.Verdicts.{rules_of}
use Rattle.cw_states.specs.Masks.{rows}
use Rattle.cw_states.specs.States.{Held, Lists, lists_of}
use Rattle.cw_states.proofs.Rowed.{entries_are}
use Rattle.cw_states.proofs.pairs.Pairs.entries.Goals as goal

pub returns : goal.returns
returns c =
    let v : Lists = lists_of c.args.self.now in
    let label = c.args.label in
    let names : c.named-named.result ≡ named v.policy.rules label = c.named-named.ensures
    ∙ ap (λ (own : List Rule). named (rules_of own) label) c.self.invariant.same ∙ ap (λ (h : Held). named (lists_of h).policy.rules label) c.self.view_is in
    let all : rows v c.named-named.result c.deref.result.now c.deref-2.result.now ≡ rows v (named v.policy.rules label) c.args.masks.now.aheads.items c.args.masks.now.tested.items =
    ap (λ n. rows v n c.deref.result.now c.deref-2.result.now) names ∙ ap₂ (λ a t. rows v (named v.policy.rules label) a t) c.deref.ensures.value c.deref-2.ensures.value in
    c.in_ok-put_rows.ensures ∙ ap₂ (λ x y. x ++ y) c.new-indices.ensures.items all ∙ entries_are v label c.args.masks.now c.requires
