use Rattle.std.proofs.Common.{◌∙◌, ◌≤◌, Bool, length, List, ℕ, sym, arith}
use Rattle.std.specs.Borrow.{Bor}
use Rattle.std.specs.Str.{bytes_eq}
use Rattle.cw_resolve.specs.Listed.{text_at}
use Rattle.cw_resolve.proofs.Indices.{seeks_here, seeks_none, position_map}
use Rattle.cw_resolve.proofs.name_list.index_of.Goals as goal

pub returns : goal.returns
returns c =
    let xs = c.args.names.now in
    let name = c.args.name.now in
    let q : Bor (List ℕ) → Bool = λ t. bytes_eq name (text_at t) in
    let l : length xs ≤ c.loop-i.i = omega arith in
    seeks_none q xs c.loop-i.i l c.loop-i.invariant ∙ sym (position_map (bytes_eq name) text_at xs)

pub returns-then-is_same : goal.returns-then-is_same
returns-then-is_same c =
    let xs = c.args.names.now in
    let name = c.args.name.now in
    let q : Bor (List ℕ) → Bool = λ t. bytes_eq name (text_at t) in
    seeks_here q xs c.loop-i.i _ c.loop-i-test.true (sym c.is_same.ensures ∙ c.if-is_same.true) c.loop-i.invariant ∙ sym (position_map (bytes_eq name) text_at xs)
