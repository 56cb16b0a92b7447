use Rattle.std.proofs.Common.{◌≡◌, false, replicate, length, ap, ◌∙◌, rules}
use Rattle.std.proofs.lemmas.List.{length-replicate}
use Rattle.cw_callgraph.proofs.Kept.{nothing_found}
use Rattle.cw_callgraph.proofs.found.nothing.Goals as goal

pub returns : goal.returns
returns c =
    let e : c.in_ok-vec.field-0.items ≡ replicate c.args.count false = c.in_ok-vec.ensures.items_if_clones_equal (λ y k. search rules) in
    (c.new.ensures.items, nothing_found c.args.count (record { flags = c.in_ok-vec.field-0; numbers = c.new.result }) c.new.ensures.items e, ap length e ∙ length-replicate c.args.count false)
