use Rattle.std.proofs.Common.{◌<◌, length}
use Rattle.cw_links.specs.Rows.{lists_of}
use Rattle.cw_links.proofs.Moves.{first_answer, first_known, apart}
use Rattle.cw_links.proofs.links.Links.first.Goals as goal

pub returns-clause-first : goal.returns-clause-first
returns-clause-first c =
    let s = c.self.inside in
    let i : c.args.list < length (lists_of s.first.items s.next.items) = rw (← c.self.view_is) at c.requires in
    rw (← c.self.view_is) (first_answer s.first.items s.next.items s.before.items (lists_of s.first.items s.next.items) c.self.invariant c.args.list _ _ i c.index.ensures c.cell_of.ensures.some c.cell_of.ensures.none)

pub returns-clause-apart : goal.returns-clause-apart
returns-clause-apart c =
    let s = c.self.inside in
    rw (← c.self.view_is) (apart s.first.items s.next.items s.before.items (lists_of s.first.items s.next.items) c.self.invariant)

pub returns-clause-known : goal.returns-clause-known
returns-clause-known c =
    let s = c.self.inside in
    let i : c.args.list < length (lists_of s.first.items s.next.items) = rw (← c.self.view_is) at c.requires in
    rw (← c.self.view_is) (first_known s.first.items s.next.items s.before.items (lists_of s.first.items s.next.items) c.self.invariant c.args.list _ _ i c.index.ensures c.cell_of.ensures.some)
