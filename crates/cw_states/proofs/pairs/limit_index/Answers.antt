use Rattle.std.proofs.Common.{◌≡◌, ◌∙◌, Some, sym, subst}
use Rattle.std.specs.Prelude.{slice_get}
use Rattle.std.proofs.lemmas.Option.{none-some, same_Some}
use Rattle.cw_states.proofs.Indices.{limit_found}
use Rattle.cw_states.proofs.pairs.limit_index.Goals as goal

pub unreachable-requires : goal.unreachable-requires
unreachable-requires c =
    let f = limit_found c.args.limits.now c.args.limit c.find_limit.result c.find_limit.ensures c.requires in
    none-some f.0 (sym c.in-None.is ∙ f.1)

pub returns : goal.returns
returns c =
    let f = limit_found c.args.limits.now c.args.limit c.find_limit.result c.find_limit.ensures c.requires in
    subst (λ i. slice_get c.args.limits.now i ≡ Some c.args.limit) (same_Some f.0 c.in-Some.index (sym f.1 ∙ c.in-Some.is)) f.2
