use Rattle.std.proofs.Common.{◌≡◌, List, ℕ, ◌++◌, ap₂, ◌∙◌, subst}
use Rattle.cw_dfa.specs.Verdicts.{rules_of as rules_in}
use Rattle.cw_states.specs.Growing.{all_caps}
use Rattle.cw_states.specs.Masks.{HaveSame, met}
use Rattle.cw_states.proofs.Letters.{are_masks}
use Rattle.cw_states.proofs.masks.masks_below.Goals as goal

pub returns : goal.returns
returns c =
    let names = c.distinct-named.result.items in
    let tests = c.distinct-tested.result.items in
    let all : c.put_all_met.new.masks.items ≡ met names tests =
    c.in_ok-put_all_met.ensures ∙ ap₂ (λ x y. x ++ y) c.new-masks.ensures.items (ap₂ met c.deref.ensures.value c.deref-2.ensures.value) in
    are_masks (rules_in c.args.rules.now) c.args.labels (all_caps c.args.rights.now) names tests c.put_all_met.new.masks.items
    (subst (λ (l : List ℕ). HaveSame names l) c.in_ok-named.ensures c.distinct-named.ensures)
    (subst (λ (l : List ℕ). HaveSame tests l) c.in_ok-tested.ensures c.distinct-tested.ensures) all
