use Rattle.std.proofs.Common.{map, sym, subst, arith}
use Rattle.cw_audit_store.specs.Finding.{found_of}
use Rattle.cw_audit_search.specs.Grouped.{Ascend, AreBelow}
use Rattle.cw_audit_listing.specs.Lists.{plain, AreKnown}
use Rattle.cw_audit.specs.Bounds.{bound_of}
use Rattle.cw_audit.proofs.Limits.{done_audit}
use Rattle.cw_audit.proofs.finish.table_of.Goals as goal

pub list-requires-clause-known : goal.list-requires-clause-known
list-requires-clause-known c =
    let s = c.args.search.now in
    subst (AreKnown s.store) (sym c.deref.ensures.value) (c.in_ok-ordered.ensures.below s.store (bound_of s.store.hit) c.requires.below).known

pub list-requires-clause-ascend : goal.list-requires-clause-ascend
list-requires-clause-ascend c =
    let s = c.args.search.now in
    subst (λ ps. Ascend (map plain ps)) (sym c.deref.ensures.value) (c.in_ok-ordered.ensures.ascend s.store (bound_of s.store.hit) c.requires.below)

pub returns : goal.returns
returns c =
    let s = c.args.search.now in
    let o = c.in_ok-ordered.ensures in
    done_audit c.args.game.now s c.requires.fair c.requires.kept c.requires.settled c.in_ok-ordered.ordered.items _ c.requires.near
    (o.below s.store (bound_of s.store.hit) c.requires.below) (omega (arith, o.many, c.requires.few)) c.states.ensures
    c.distance_of.ensures
    (λ D below. c.in_ok-groups.ensures.listed D (subst (λ ps. AreBelow (found_of s.store) D (map plain ps)) (sym c.deref.ensures.value) below)) c.in_ok-moves.ensures
