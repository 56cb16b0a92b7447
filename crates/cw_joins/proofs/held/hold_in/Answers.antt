use Rattle.std.proofs.Common.{rules, ◌≡◌, length}
use Rattle.cw_joins.proofs.Chains.{chain_at, chain_within, held_more, held_same}
use Rattle.cw_joins.proofs.held.hold_in.Goals as goal

pub hold-requires : goal.hold-requires
hold-requires g c =
    let heads = c.args.held.now.heads.items in
    let long : c.len.result ≡ length heads = search rules in
    record { within = chain_within heads c.chain_of-at.result c.len.result c.index_of.result _ c.chain_of-at.ensures long c.index_of.ensures c.requires.some }

pub returns-in-None : goal.returns-in-None
returns-in-None g c = record {
  puts = λ old o. rw c.in-None.is (held_same g.G.Ord.cmp g.met.G.Ord.total c.requires.exact (g.I.Indices.index c.args.indices.now) c.args.held.now old c.args.key o);
}

pub returns-in_ok-hold-in-Some : goal.returns-in_ok-hold-in-Some
returns-in_ok-hold-in-Some g c =
    let heads = c.args.held.now.heads.items in
    let long : c.len.result ≡ length heads = search rules in
    let at = c.chain_of-at.result in
    record {
      puts = λ old o. rw c.in-Some.is (held_more g.G.Ord.cmp g.met.G.Ord.total c.requires.exact (g.I.Indices.index c.args.indices.now) c.args.held.now c.hold.new.held old o c.in-Some.group c.args.key
          at (chain_at heads at c.len.result c.index_of.result _ c.chain_of-at.ensures long c.index_of.ensures)
          (chain_within heads at c.len.result c.index_of.result _ c.chain_of-at.ensures long c.index_of.ensures o.some) c.in_ok-hold-in-Some.ensures.links c.in_ok-hold-in-Some.ensures.heads);
    }
