use Rattle.std.proofs.Common.{◌<◌, length, subst}
use Rattle.std.specs.Prelude.{IfSome}
use Rattle.cw_links.specs.Lists.{list_at}
use Rattle.cw_links.proofs.FlatRows.{walk_begins, walk_goes_on, walk_shortens, walk_ends}
use Rattle.cw_links.proofs.rows.push_list.Goals as goal

pub walk-init : goal.walk-init
walk-init g c =
    let trails = c.args.trails.now in
    record {
      known = c.first-next.ensures.known;
      walked = walk_begins trails (list_at trails.lists c.args.list) c.args.values.now.items c.first-next.result c.first-next.ensures.first;
    }

pub get-requires : goal.get-requires
get-requires g c = subst (λ o. IfSome o (λ cell. cell < length c.args.trails.now.values)) c.in-Some.is c.walk.invariant.known

pub next-next-requires : goal.next-next-requires
next-next-requires g c = subst (λ o. IfSome o (λ cell. cell < length c.args.trails.now.values)) c.in-Some.is c.walk.invariant.known

pub walk-preserved : goal.walk-preserved
walk-preserved g c =
    let trails = c.args.trails.now in
    let list = c.args.list in
    record {
      known = c.next-next.ensures.known;
      walked = walk_goes_on trails (list_at trails.lists list) c.args.values.now.items c.walk.values.items c.push.new.self.items c.in-Some.cell c.get.result.now c.walk.next c.in-Some.is
          c.in_ok-push.ensures.items c.walk.invariant.walked c.get.ensures c.next-next.result (c.next-next.ensures.within list);
    }

pub walk-smaller : goal.walk-smaller
walk-smaller g c =
    let trails = c.args.trails.now in
    walk_shortens trails (list_at trails.lists c.args.list) c.args.values.now.items c.walk.values.items c.push.new.self.items c.in-Some.cell c.get.result.now c.walk.next c.in-Some.is
    c.in_ok-push.ensures.items c.walk.invariant.walked

pub returns : goal.returns
returns g c = walk_ends c.args.trails.now c.args.list c.args.values.now.items c.walk.values.items c.walk.next c.in_default.is c.walk.invariant.walked
