use Rattle.cw_joins.specs.Seeing.{named}
use Rattle.cw_joins.proofs.Entries.{filtered_four}
use Rattle.cw_joins.proofs.seen.put_four.Goals as goal

pub returns : goal.returns
returns g c = record {
  put = filtered_four (named c.args.there.now) c.args.keys.now.items c.args.first c.args.second c.args.third c.args.fourth c.put_named.new.keys.items c.put_named-2.new.keys.items
      c.put_named-3.new.keys.items c.put_named-4.new.keys.items c.in_ok-put_named.ensures c.in_ok-put_named-2.ensures c.in_ok-put_named-3.ensures c.in_ok-put_named-4.ensures;
}
