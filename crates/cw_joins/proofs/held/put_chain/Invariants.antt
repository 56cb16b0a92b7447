use Rattle.std.proofs.Common.{◌≡◌, ◌++◌, List}
use Rattle.cw_joins.specs.Chains.{IsChain, Chain, keys_in}
use Rattle.cw_joins.specs.declared.held.Link.{Link}
use Rattle.cw_joins.proofs.held.put_chain.Given as goal

abbrev pub invariant-links : goal.invariant-links
invariant-links g l = record {
  chain : (list : List (Link g.row.K.Denot g.row.G.Denot)) × IsChain l.held.links.items l.number list;
  put : (list : List (Link g.row.K.Denot g.row.G.Denot)) → Chain l.held l.at list → (rest : List (Link g.row.K.Denot g.row.G.Denot)) × IsChain l.held.links.items l.number rest
      × (l.keys.items ++ keys_in g.G.Ord.cmp l.group rest ≡ l.initial.keys.items ++ keys_in g.G.Ord.cmp l.group list);
}

abbrev pub decreases-links : goal.decreases-links
decreases-links g l = l.number
