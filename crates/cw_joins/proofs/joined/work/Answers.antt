use Rattle.std.proofs.Common.{sym}
use Rattle.cw_joins.proofs.Reaching.{member_has, worked, met_seen}
use Rattle.cw_joins.proofs.Orders.{pair_exact}
use Rattle.cw_joins.proofs.joined.work.Goals as goal

pub see_all-requires-2-clause-exact : goal.see_all-requires-2-clause-exact
see_all-requires-2-clause-exact g c = pair_exact g.K.Ord.cmp c.requires.exact

pub put_after-requires : goal.put_after-requires
put_after-requires g c =
    let s = c.args.joins.now in
    record {
      can = member_has (g.J.Joins.rules s) c.args.start (g.J.Joins.can_follow s) c.requires.can (λ k q. g.met.J.Joins.keeps s k q) (λ a b x. g.met.J.Joins.joins_keep s a b x) c.index-key.result.now
          (c.requires.keeps.reached.needed c.index-key.result.now (c.args.at, c.requires.within, sym c.index-key.ensures));
    }

pub hold_in-requires-clause-some : goal.hold_in-requires-clause-some
hold_in-requires-clause-some g c = c.requires.keeps.waiting.some

pub hold_in-requires-2-clause-some : goal.hold_in-requires-2-clause-some
hold_in-requires-2-clause-some g c = c.requires.keeps.ended.some

pub meet-requires-clause-waiting : goal.meet-requires-clause-waiting
meet-requires-clause-waiting g c = let w = c.in_ok-hold_in.ensures.puts c.requires.keeps.wait c.requires.keeps.waiting in (w.0, w.1)

pub meet-requires-clause-ended : goal.meet-requires-clause-ended
meet-requires-clause-ended g c = let e = c.in_ok-hold_in-2.ensures.puts c.requires.keeps.end c.requires.keeps.ended in (e.0, e.1)

pub put_joins-requires : goal.put_joins-requires
put_joins-requires g c =
    let s = c.args.joins.now in
    let r = g.J.Joins.rules s in
    let h = c.requires.keeps in
    let w = c.in_ok-hold_in.ensures.puts h.wait h.waiting in
    let e = c.in_ok-hold_in-2.ensures.puts h.end h.ended in
    let of = member_has r c.args.start (g.J.Joins.can_follow s) c.requires.can (λ k q. g.met.J.Joins.keeps s k q) (λ a b x. g.met.J.Joins.joins_keep s a b x) in
    record {
      can = λ ab d.
          let z = met_seen r c.args.start c.args.search.now.seen.keys.items c.args.search.now.pairs.keys.items h.wait h.end w.0 e.0 c.args.at c.index-key.result.now h.reached c.requires.within
          c.index-key.ensures c.in_ok-groups.groups.waits c.in_ok-groups.groups.ends c.in_ok-groups.ensures.waits c.in_ok-groups.ensures.ends w.2 e.2 c.meet.new.met.items
          c.deref.result.now (c.in_ok-meet.ensures.met w.0 e.0 w.1 e.1) c.deref.ensures.value ab d in
          (of ab.0 (h.reached.needed ab.0 z.0), of ab.1 (h.reached.needed ab.1 z.1));
    }

pub returns : goal.returns
returns g c =
    let r = g.J.Joins.rules c.args.joins.now in
    let h = c.requires.keeps in
    let w = c.in_ok-hold_in.ensures.puts h.wait h.waiting in
    let e = c.in_ok-hold_in-2.ensures.puts h.end h.ended in
    record {
      keeps = record {
        keys = c.in_ok-see_all.ensures.same;
        pairs = c.in_ok-see_all-2.ensures.same;
        wait = w.0;
        end = e.0;
        waiting = w.1;
        ended = e.1;
        reached = worked r c.args.start c.args.search.now.seen.keys.items c.see_all.new.seen.keys.items c.args.search.now.pairs.keys.items c.see_all-2.new.seen.keys.items
            h.wait h.end w.0 e.0 c.args.at c.index-key.result.now h.reached c.requires.within c.index-key.ensures
            c.in_ok-groups.groups.waits c.in_ok-groups.groups.ends c.in_ok-groups.ensures.waits c.in_ok-groups.ensures.ends w.2 e.2 c.meet.new.met.items
            c.deref.result.now c.deref-3.result.now (c.in_ok-meet.ensures.met w.0 e.0 w.1 e.1) c.deref.ensures.value c.deref-3.ensures.value
            c.clear.new.self.items c.put_after.new.keys.items c.put_joins.new.next.items c.deref-2.result.now c.clear.ensures.items c.in_ok-groups.ensures.after
            c.in_ok-put_joins.ensures.put c.deref-2.ensures.value
            c.in_ok-see_all.ensures.more c.in_ok-see_all-2.ensures.more;
      };
    }
