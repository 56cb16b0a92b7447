use Rattle.std.proofs.Common.{◌≤◌, ◌+◌, List, Bool, false, length, replicate, sym, subst, arith}
use Rattle.std.proofs.lemmas.List.{length-append, length-replicate}
use Rattle.cw_links.specs.Marked.{AreMarked}
use Rattle.cw_links.proofs.Ranking.{plain_marked}
use Rattle.cw_links.proofs.marks.Marks.push_plain.Goals as goal

pub invariant_of-self-2 : goal.invariant_of-self-2
invariant_of-self-2 c =
    let s = c.self.inside in
    let many = c.args.many in
    let few : length s.flags + many ≤ 4294967295 = rw (← c.self.view_is) at c.requires.few in
    subst (λ (ms : List Bool). AreMarked ms s.indices.items) (sym c.in_ok-push_plain.ensures.pushed)
    (plain_marked s.flags s.indices.items c.self.invariant many (omega (arith, few, length-append s.flags (replicate many false), length-replicate many false)))
