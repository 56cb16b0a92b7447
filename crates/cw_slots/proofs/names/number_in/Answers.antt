use Rattle.std.proofs.Common.{◌∙◌, ◌≤◌, Bool, length, List, ℕ, sym, arith}
use Rattle.std.specs.Borrow.{Bor}
use Rattle.std.specs.Str.{bytes_eq}
use Rattle.cw_resolve.proofs.Indices.{seeks_here, seeks_none, position_map}
use Rattle.cw_slots.specs.Texts.{text_at}
use Rattle.cw_slots.proofs.names.number_in.Goals as goal

pub returns : goal.returns
returns c =
    let xs = c.args.texts.now in
    let name = c.args.name.now in
    let q : Bor (List ℕ) → Bool = λ t. bytes_eq name (text_at t) in
    let l : length xs ≤ c.loop-i.i = omega arith in
    seeks_none q xs c.loop-i.i l c.loop-i.invariant ∙ sym (position_map (bytes_eq name) text_at xs)

pub returns-then-eq : goal.returns-then-eq
returns-then-eq c =
    let xs = c.args.texts.now in
    let name = c.args.name.now in
    let q : Bor (List ℕ) → Bool = λ t. bytes_eq name (text_at t) in
    seeks_here q xs c.loop-i.i _ c.loop-i-test.true (sym c.eq.ensures ∙ c.if-eq.true) c.loop-i.invariant ∙ sym (position_map (bytes_eq name) text_at xs)
