use Rattle.std.proofs.Common.{◌<◌, length}
use Rattle.cw_links.specs.Rows.{lists_of}
use Rattle.cw_links.proofs.Moves.{next_answer, next_known, next_unlinked, apart}
use Rattle.cw_links.proofs.links.Links.next.Goals as goal

pub returns-clause-within : goal.returns-clause-within
returns-clause-within c =
    let s = c.self.inside in
    let i : c.args.cell < length s.next.items = rw (← c.self.view_is) at c.requires in
    rw (← c.self.view_is) (next_answer s.first.items s.next.items s.before.items (lists_of s.first.items s.next.items) c.self.invariant c.args.cell _ _ i c.index.ensures c.cell_of.ensures.some c.cell_of.ensures.none)

pub returns-clause-unlinked : goal.returns-clause-unlinked
returns-clause-unlinked c =
    let s = c.self.inside in
    let i : c.args.cell < length s.next.items = rw (← c.self.view_is) at c.requires in
    rw (← c.self.view_is) (next_unlinked s.first.items s.next.items s.before.items (lists_of s.first.items s.next.items) c.self.invariant c.args.cell _ _ i c.index.ensures c.cell_of.ensures.some c.cell_of.ensures.none)

pub returns-clause-apart : goal.returns-clause-apart
returns-clause-apart c =
    let s = c.self.inside in
    rw (← c.self.view_is) (apart s.first.items s.next.items s.before.items (lists_of s.first.items s.next.items) c.self.invariant)

pub returns-clause-known : goal.returns-clause-known
returns-clause-known c =
    let s = c.self.inside in
    let i : c.args.cell < length s.next.items = rw (← c.self.view_is) at c.requires in
    rw (← c.self.view_is) (next_known s.first.items s.next.items s.before.items (lists_of s.first.items s.next.items) c.self.invariant c.args.cell _ _ i c.index.ensures c.cell_of.ensures.some)
