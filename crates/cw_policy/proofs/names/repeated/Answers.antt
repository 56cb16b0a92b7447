use Rattle.std.proofs.Common.{◌≡◌, ◌<◌, length, get_or, take, false, ap, ◌∙◌, ◌+◌, arith}
use Rattle.std.proofs.lemmas.Grind.{common_steps}
use Rattle.toml.specs.View.{view, items_view}
use Rattle.cw_policy.specs.Names.{name_of, names_of, is_among}
use Rattle.cw_policy.proofs.Items.{repeated_on}
use Rattle.cw_policy.proofs.names.repeated.Goals as goal

pub items-preserved : goal.items-preserved
items-preserved c =
    let vs = c.args.items.now in
    let i = c.items.item-index in
    let v = c.item-item.result in
    let within : i < length vs = grind (arith, common_steps) in
    let at : get_or vs i v ≡ v = grind (arith, common_steps) in
    let no : is_among (names_of (items_view (take i vs))) (name_of (view v)) ≡ false = grind (arith, common_steps) in
    let n : c.items.index ≡ i = c.items.invariant.1 in
    let step = repeated_on vs i v within (rw at no) in
    let was = rw n at c.items.invariant.0 in
    (rw n (step ∙ was), ap (λ k. k + 1) n)
