use Rattle.std.proofs.Common.{rules, ◌<◌, ◌≡◌, ◌∙◌, length, refl, arith}
use Rattle.cw_fixpoint.proofs.Keys.{seen_none}
use Rattle.cw_fixpoint.proofs.Reach.{reached_start, may_follow, passed_more}
use Rattle.cw_fixpoint.proofs.closure.search.Goals as goal

pub see_all-requires-clause-seen : goal.see_all-requires-clause-seen
see_all-requires-clause-seen g c = rw (c.requires.none_seen, c.requires.none_in) (seen_none g.K.Ord.cmp)

pub keys-init : goal.keys-init
keys-init g c = record {
  seen = reached_start g.K.Ord.cmp (g.S.Steps.after c.args.steps.now) c.args.starts.now c.see_all.new.seen.items c.see_all.new.set.keys c.in_ok-see_all.ensures.same
      (rw c.requires.none_seen at c.in_ok-see_all.ensures.more);
  few = omega arith;
}

pub put_after-requires : goal.put_after-requires
put_after-requires g c =
    let lt : c.keys.at < length c.keys.seen.items = search rules in
    record {
      can = may_follow g.K.Ord.cmp (g.S.Steps.after c.args.steps.now) c.args.starts.now (g.S.Steps.can_follow c.args.steps.now) c.requires.can (λ k q. g.met.S.Steps.keeps c.args.steps.now k q)
          c.keys.seen.items c.keys.set.keys c.keys.at c.keys.at c.index-key.result.now c.keys.invariant.seen lt c.index-key.ensures;
    }

pub keys-preserved : goal.keys-preserved
keys-preserved g c =
    let lt : c.keys.at < length c.keys.seen.items = search rules in
    let keys : c.deref.result.now ≡ g.S.Steps.after c.args.steps.now c.index-key.result.now = c.deref.ensures.value ∙ c.in_ok-put_after.ensures.after ∙ rw c.clear.ensures.items refl in
    record {
      seen = passed_more g.K.Ord.cmp (g.S.Steps.after c.args.steps.now) c.args.starts.now c.keys.seen.items c.keys.set.keys c.see_all-in-keys.new.seen.items c.see_all-in-keys.new.set.keys
          c.keys.at c.index-key.result.now c.deref.result.now c.keys.invariant.seen lt c.index-key.ensures keys c.in_ok-see_all-2.ensures.same c.in_ok-see_all-2.ensures.more;
      few = omega (arith, c.keys-test.true);
    }
