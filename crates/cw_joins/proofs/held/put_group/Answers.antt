use Rattle.std.proofs.Common.{rules, ◌≡◌, ◌++◌, List, length, ap, sym, ◌∙◌}
use Rattle.cw_joins.specs.Chains.{keys_in}
use Rattle.cw_joins.proofs.Chains.{chain_at, chain_within}
use Rattle.cw_joins.proofs.held.put_group.Goals as goal

pub put_chain-requires : goal.put_chain-requires
put_chain-requires g c =
    let h = c.requires.holds in
    let heads = c.args.held.now.heads.items in
    let long : c.len.result ≡ length heads = search rules in
    let at = c.chain_of-at.result in
    record { chain = (h.1.lists at, h.1.chains at (chain_within heads at c.len.result c.index_of.result _ c.chain_of-at.ensures long c.index_of.ensures h.1.some)) }

pub returns-in_ok-put_chain-in-Some : goal.returns-in_ok-put_chain-in-Some
returns-in_ok-put_chain-in-Some g c =
    let heads = c.args.held.now.heads.items in
    let long : c.len.result ≡ length heads = search rules in
    let at = c.chain_of-at.result in
    record {
      put = λ h o.
          let within = chain_within heads at c.len.result c.index_of.result _ c.chain_of-at.ensures long c.index_of.ensures o.some in
          let is = chain_at heads at c.len.result c.index_of.result _ c.chain_of-at.ensures long c.index_of.ensures in
          rw c.in-Some.is (c.in_ok-put_chain-in-Some.ensures.put (o.lists at) (o.chains at within)
          ∙ ap (λ (y : List g.row.K.Denot). c.args.keys.now.items ++ y) (ap (λ i. keys_in g.G.Ord.cmp c.in-Some.group (o.lists i)) is ∙ sym (o.is c.in-Some.group)));
    }
