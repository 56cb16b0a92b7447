use Rattle.std.proofs.Common.{◌≡◌, ◌<◌, ℕ, ◌∙◌, length, map, sym, subst}
use Rattle.std.specs.Prelude.{IfSome}
use Rattle.std.proofs.lemmas.List.{length-map}
use Rattle.cw_links.specs.Lists.{AreApart}
use Rattle.cw_links.specs.Rows.{lists_of}
use Rattle.cw_links.proofs.Moves.{first_answer, first_known, apart}
use Rattle.cw_links.proofs.trails.Trails.first.Goals as goal

pub returns-clause-first : goal.returns-clause-first
returns-clause-first g c =
    let s = c.self.inside in
    let next = map (λ x. x.after) s.cells.items in
    let lists = lists_of s.first.items next in
    let i : c.args.list < length lists = rw (← c.self.view_is) at c.requires in
    rw (← c.self.view_is) (first_answer s.first.items next c.self.invariant.before lists c.self.invariant.links c.args.list _ _ i c.index.ensures c.cell_of.ensures.some c.cell_of.ensures.none)

pub returns-clause-known : goal.returns-clause-known
returns-clause-known g c =
    let s = c.self.inside in
    let next = map (λ x. x.after) s.cells.items in
    let lists = lists_of s.first.items next in
    let same : length next ≡ length (map (λ x. x.value) s.cells.items) = length-map s.cells.items _ ∙ sym (length-map s.cells.items _) in
    let i : c.args.list < length lists = rw (← c.self.view_is) at c.requires in
    rw (← c.self.view_is)
    (subst (λ (n : ℕ). IfSome c.cell_of.result (λ cell. cell < n)) same
    (first_known s.first.items next c.self.invariant.before lists c.self.invariant.links c.args.list _ _ i c.index.ensures c.cell_of.ensures.some))

pub returns-clause-apart : goal.returns-clause-apart
returns-clause-apart g c =
    let s = c.self.inside in
    let next = map (λ x. x.after) s.cells.items in
    let lists = lists_of s.first.items next in
    let same : length next ≡ length (map (λ x. x.value) s.cells.items) = length-map s.cells.items _ ∙ sym (length-map s.cells.items _) in
    rw (← c.self.view_is) (subst (λ (n : ℕ). AreApart lists n) same (apart s.first.items next c.self.invariant.before lists c.self.invariant.links))
