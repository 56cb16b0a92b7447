use Rattle.std.proofs.Common.{◌≡◌, ◌<◌, length, ◌∙◌, ap, drop, ◌+◌, set}
use Rattle.std.proofs.lemmas.List.{take_at, length-set}
use Rattle.cw_links.specs.Lists.{without, with_front}
use Rattle.cw_links.specs.Rows.{lists_of, AreLinks}
use Rattle.cw_links.proofs.Moves.{first_within, puts_front, linked, lists_are}
use Rattle.cw_links.proofs.links.Links.put_front.Goals as goal

pub set_before-requires-clause-cell : goal.set_before-requires-clause-cell
set_before-requires-clause-cell c =
    let s = c.self.inside in
    let ls = lists_of s.first.items s.next.items in
    let i : c.args.cell < length s.next.items = rw (← c.self.view_is) at c.requires.cell in
    let j : c.args.list < length ls = rw (← c.self.view_is) at c.requires.list in
    let alone : without ls c.args.cell ≡ ls = rw (← c.self.view_is) at c.requires.unlinked in
    rw (c.deref_mut.ensures.value, length-set s.before.items c.args.cell (4294967296 + c.args.list))
    (first_within s.first.items s.next.items s.before.items ls c.args.cell c.args.list _ c.self.invariant i j alone c.index-after.ensures)

-- the vectors after the writes are the links of the lists with the cell in front
put : (c : goal.After-self-4-1) → AreLinks (set c.self.inside.first.items c.args.list c.args.cell) (set c.self.inside.next.items c.args.cell c.index-after.result.now) c.set_before.new.before (with_front (lists_of c.self.inside.first.items c.self.inside.next.items) c.args.list c.args.cell)
put c =
    let s = c.self.inside in
    let ls = lists_of s.first.items s.next.items in
    let i : c.args.cell < length s.next.items = rw (← c.self.view_is) at c.requires.cell in
    let j : c.args.list < length ls = rw (← c.self.view_is) at c.requires.list in
    let alone : without ls c.args.cell ≡ ls = rw (← c.self.view_is) at c.requires.unlinked in
    puts_front s.first.items s.next.items s.before.items ls c.args.cell c.args.list _ c.self.invariant i j alone c.index-after.ensures
    c.set_before.new.before
    (c.set_before.auto.before ∙ ap length c.deref_mut.ensures.value ∙ length-set s.before.items c.args.cell (4294967296 + c.args.list))
    (rw (c.deref_mut.ensures.value, length-set s.before.items c.args.cell (4294967296 + c.args.list)) at c.set_before.ensures)

pub invariant_of-self : goal.invariant_of-self
invariant_of-self c =
    let s = c.self.inside in
    let put_before = set s.before.items c.args.cell (4294967296 + c.args.list) in
    rw (take_at c.set_before.new.before (drop (length c.set_before.new.before) put_before) s.before.len (c.set_before.auto.before ∙ c.deref_mut.ensures.len))
    (linked _ _ _ _ (put c))

pub returns-clause-lists : goal.returns-clause-lists
returns-clause-lists c = rw (← c.self.view_is) (lists_are _ _ _ _ (put c))
