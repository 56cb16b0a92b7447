use Rattle.cw_fixpoint.proofs.Reach.{searched_few, searched_all}
use Rattle.cw_fixpoint.proofs.closure.closed_within.Goals as goal

pub returns : goal.returns
returns g c =
    let few = searched_few g.K.Ord.cmp (g.S.Steps.after c.args.steps.now) c.args.starts.now c.search.new.seen.items c.search.new.set.keys c.args.most c.in_ok-search.ensures.searched c.requires.few in
    record {
      reached = searched_all g.K.Ord.cmp (g.S.Steps.after c.args.steps.now) c.args.starts.now c.search.new.seen.items c.search.new.set.keys c.args.most c.in_ok-keys.keys.items
          c.in_ok-search.ensures.searched few c.in_ok-keys.ensures.items c.in_ok-keys.ensures.order;
    }
