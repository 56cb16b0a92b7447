use Rattle.std.proofs.Common.{◌≡◌, ◌<◌, ◌++◌, ◌∷◌, [], length, arith, min, ◌-◌, vec_len, vec_capacity, ◌∙◌}
use Rattle.std.proofs.lemmas.Bool.{cond-true}
use Rattle.cw_links.specs.Rows.{lists_of, AreLinks}
use Rattle.cw_links.proofs.Moves.{adds_cell, new_unlinked, linked, lists_are}
use Rattle.cw_links.proofs.links.Links.add_cell.Goals as goal

added : (c : goal.After-push-2) → AreLinks c.self.inside.first.items c.push.new.self.items c.push-2.new.self.items (lists_of c.self.inside.first.items c.self.inside.next.items)
added c =
    let s = c.self.inside in
    let few : length s.next.items < 4294967295 = rw (← c.self.view_is) at c.requires.few in
    let room : 0 < min (vec_capacity s.next - vec_len s.next) (vec_capacity s.before - vec_len s.before) = rw (← c.self.view_is) at c.requires.room in
    let next : c.push.new.self.items ≡ s.next.items ++ 4294967295 ∷ [] = c.push.ensures.items ∙ cond-true _ _ _ (c.push.ensures.succeeds (omega arith)) in
    let before : c.push-2.new.self.items ≡ s.before.items ++ 18446744073709551615 ∷ [] = c.push-2.ensures.items ∙ cond-true _ _ _ (c.push-2.ensures.succeeds (omega arith)) in
    rw (next, before) (adds_cell s.first.items s.next.items s.before.items (lists_of s.first.items s.next.items) c.self.invariant few)

pub invariant_of-self : goal.invariant_of-self
invariant_of-self c = linked _ _ _ _ (added c)

pub returns-clause-lists : goal.returns-clause-lists
returns-clause-lists c = rw (← c.self.view_is) (lists_are _ _ _ _ (added c))

pub returns-clause-unlinked : goal.returns-clause-unlinked
returns-clause-unlinked c =
    let s = c.self.inside in
    rw (← c.self.view_is) (new_unlinked s.first.items s.next.items s.before.items (lists_of s.first.items s.next.items) c.self.invariant)
