use Rattle.std.proofs.Common.{◌≡◌, ℕ, ◌<◌, List, length, sym, ◌∙◌, ap, take, drop, ◌++◌, set}
use Rattle.std.proofs.lemmas.List.{take_at}
use Rattle.cw_links.specs.Lists.{without}
use Rattle.cw_links.specs.Rows.{lists_of, AreLinks}
use Rattle.cw_links.proofs.Moves.{stays_out, p_cell, p_head, x_within, takes_out, linked, lists_are}
use Rattle.cw_links.proofs.links.Links.unlink.Goals as goal

pub returns-then-before-clause-lists : goal.returns-then-before-clause-lists
returns-then-before-clause-lists c =
    let s = c.self.inside in
    let i : c.args.cell < length s.next.items = rw (← c.self.view_is) at c.requires in
    rw (← c.self.view_is) (sym (stays_out s.first.items s.next.items s.before.items (lists_of s.first.items s.next.items) c.args.cell _ c.self.invariant i c.index-before.ensures c.if-before.true))

pub set_after-requires-clause-cell : goal.set_after-requires-clause-cell
set_after-requires-clause-cell c =
    let s = c.self.inside in
    let i : c.args.cell < length s.next.items = rw (← c.self.view_is) at c.requires in
    rw c.deref_mut-2.ensures.value (p_cell s.first.items s.next.items s.before.items (lists_of s.first.items s.next.items) c.args.cell _ _ c.self.invariant i c.index-before.ensures c.if-before.false c.index-after.ensures)

pub set_after-requires-clause-head : goal.set_after-requires-clause-head
set_after-requires-clause-head c =
    let s = c.self.inside in
    let i : c.args.cell < length s.next.items = rw (← c.self.view_is) at c.requires in
    rw c.deref_mut.ensures.value (p_head s.first.items s.next.items s.before.items (lists_of s.first.items s.next.items) c.args.cell _ _ c.self.invariant i c.index-before.ensures c.if-before.false c.index-after.ensures)

pub set_before-requires-clause-cell : goal.set_before-requires-clause-cell
set_before-requires-clause-cell c =
    let s = c.self.inside in
    let i : c.args.cell < length s.next.items = rw (← c.self.view_is) at c.requires in
    rw c.deref_mut-3.ensures.value (x_within s.first.items s.next.items s.before.items (lists_of s.first.items s.next.items) c.args.cell _ _ c.self.invariant i c.index-before.ensures c.if-before.false c.index-after.ensures)

-- the vectors after the writes are the links of the lists without the cell
taken : (c : goal.After-self-5-1) → AreLinks c.set_after.new.first (set c.set_after.new.next c.args.cell 4294967295) (set c.set_before.new.before c.args.cell 18446744073709551615) (without (lists_of c.self.inside.first.items c.self.inside.next.items) c.args.cell)
taken c =
    let s = c.self.inside in
    let i : c.args.cell < length s.next.items = rw (← c.self.view_is) at c.requires in
    takes_out s.first.items s.next.items s.before.items (lists_of s.first.items s.next.items) c.args.cell _ _ c.self.invariant i c.index-before.ensures c.if-before.false c.index-after.ensures
    c.set_after.new.first c.set_after.new.next c.set_before.new.before
    (c.set_after.auto.first ∙ ap length c.deref_mut.ensures.value)
    (c.set_after.auto.next ∙ ap length c.deref_mut-2.ensures.value)
    (c.set_before.auto.before ∙ ap length c.deref_mut-3.ensures.value)
    (rw (c.deref_mut.ensures.value, c.deref_mut-2.ensures.value) at c.set_after.ensures)
    (rw c.deref_mut-3.ensures.value at c.set_before.ensures)

refilled : (n : ℕ) (xs ws : List ℕ) → length ws ≡ n → take n (ws ++ drop (length ws) xs) ≡ ws
refilled n xs ws e = take_at ws (drop (length ws) xs) n e

pub invariant_of-self : goal.invariant_of-self
invariant_of-self c =
    let s = c.self.inside in
    rw (
      refilled s.first.len s.first.items c.set_after.new.first (c.set_after.auto.first ∙ c.deref_mut.ensures.len),
      refilled s.next.len s.next.items c.set_after.new.next (c.set_after.auto.next ∙ c.deref_mut-2.ensures.len),
      refilled s.before.len s.before.items c.set_before.new.before (c.set_before.auto.before ∙ c.deref_mut-3.ensures.len),
    )
    (linked _ _ _ _ (taken c))

pub returns-clause-lists : goal.returns-clause-lists
returns-clause-lists c =
    let s = c.self.inside in
    rw (
      refilled s.first.len s.first.items c.set_after.new.first (c.set_after.auto.first ∙ c.deref_mut.ensures.len),
      refilled s.next.len s.next.items c.set_after.new.next (c.set_after.auto.next ∙ c.deref_mut-2.ensures.len),
    )
    (rw (← c.self.view_is) (lists_are _ _ _ _ (taken c)))
