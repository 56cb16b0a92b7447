use Rattle.std.proofs.Common.{◌≡◌, ◌<◌, ℕ, ◌∙◌, length, map, sym, subst, arith}
use Rattle.std.specs.Prelude.{IfSome}
use Rattle.std.proofs.lemmas.List.{length-map}
use Rattle.cw_links.specs.Lists.{AreApart}
use Rattle.cw_links.specs.Rows.{lists_of}
use Rattle.cw_links.proofs.Moves.{next_answer, next_known, apart}
use Rattle.cw_links.proofs.Trailing.{read_of}
use Rattle.cw_links.proofs.trails.Trails.next.Goals as goal

pub returns-clause-within : goal.returns-clause-within
returns-clause-within g c =
    let s = c.self.inside in
    let next = map (λ x. x.after) s.cells.items in
    let lists = lists_of s.first.items next in
    let known : c.args.cell < length (map (λ x. x.value) s.cells.items) = rw (← c.self.view_is) at c.requires in
    let there : c.args.cell < length s.cells.items = omega (arith, known, length-map s.cells.items (λ x. x.value)) in
    let i : c.args.cell < length next = omega (arith, there, length-map s.cells.items (λ x. x.after)) in
    rw (← c.self.view_is)
    (next_answer s.first.items next c.self.invariant.before lists c.self.invariant.links c.args.cell _ _ i (read_of (λ x. x.after) s.cells.items c.args.cell c.index.result.now there c.index.ensures)
    c.cell_of.ensures.some c.cell_of.ensures.none)

pub returns-clause-known : goal.returns-clause-known
returns-clause-known g c =
    let s = c.self.inside in
    let next = map (λ x. x.after) s.cells.items in
    let lists = lists_of s.first.items next in
    let same : length next ≡ length (map (λ x. x.value) s.cells.items) = length-map s.cells.items _ ∙ sym (length-map s.cells.items _) in
    let known : c.args.cell < length (map (λ x. x.value) s.cells.items) = rw (← c.self.view_is) at c.requires in
    let there : c.args.cell < length s.cells.items = omega (arith, known, length-map s.cells.items (λ x. x.value)) in
    let i : c.args.cell < length next = omega (arith, known, same) in
    rw (← c.self.view_is)
    (subst (λ (n : ℕ). IfSome c.cell_of.result (λ cell. cell < n)) same
    (next_known s.first.items next c.self.invariant.before lists c.self.invariant.links c.args.cell _ _ i (read_of (λ x. x.after) s.cells.items c.args.cell c.index.result.now there c.index.ensures)
    c.cell_of.ensures.some))

pub returns-clause-apart : goal.returns-clause-apart
returns-clause-apart g c =
    let s = c.self.inside in
    let next = map (λ x. x.after) s.cells.items in
    let lists = lists_of s.first.items next in
    let same : length next ≡ length (map (λ x. x.value) s.cells.items) = length-map s.cells.items _ ∙ sym (length-map s.cells.items _) in
    rw (← c.self.view_is) (subst (λ (n : ℕ). AreApart lists n) same (apart s.first.items next c.self.invariant.before lists c.self.invariant.links))
