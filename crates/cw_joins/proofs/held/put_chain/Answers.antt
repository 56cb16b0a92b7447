use Rattle.std.proofs.Common.{◌≡◌, ◌∷◌, ◌-◌, ◌<◌, List, ap, sym, subst, ◌∙◌, arith}
use Rattle.std.proofs.lemmas.Option.{get_or_from_slice_get}
use Rattle.cw_joins.specs.Chains.{IsChain}
use Rattle.cw_joins.specs.declared.held.Link.{Link}
use Rattle.cw_joins.proofs.Chains.{GoesOn, goes_on, at_end, one_link, all_linked}
use Rattle.cw_joins.proofs.held.put_chain.Goals as goal

pub links-preserved : goal.links-preserved
links-preserved g c =
    let links = c.args.held.now.links.items in
    let n = c.links.number in
    let l = c.index-link.result.now in
    let positive : 0 < n = c.links-test.true in
    let same : (list : List (Link g.row.K.Denot g.row.G.Denot)) → (o : GoesOn links n list) → l ≡ o.link = λ list o. c.index-link.ensures ∙ get_or_from_slice_get links (n - 1) o.link l o.at in
    let first = goes_on links n c.links.invariant.chain.0 c.links.invariant.chain.1 positive in
    record {
      chain = (first.rest, subst (λ (x : Link g.row.K.Denot g.row.G.Denot). IsChain links x.next first.rest) (sym (same _ first)) first.chain);
      put = λ list ch.
          let i = c.links.invariant.put list ch in
          let o = goes_on links n i.0 i.1 positive in (
            o.rest,
            subst (λ (x : Link g.row.K.Denot g.row.G.Denot). IsChain links x.next o.rest) (sym (same _ o)) o.chain,
            one_link g.G.Ord.cmp c.args.group c.links.keys.items c.put_if.new.keys.items l i.0 o.rest c.is_same.result c.is_same.ensures c.in_ok-put_if.ensures
                (o.is ∙ ap (λ (x : Link g.row.K.Denot g.row.G.Denot). x ∷ o.rest) (sym (same _ o))) ∙ i.2,
          );
    }

pub returns : goal.returns
returns g c = record {
  put = λ list ch.
      let i = c.links.invariant.put list ch in
      let zero : c.links.number ≡ 0 = omega (arith, c.links-test.false) in
      all_linked g.G.Ord.cmp c.args.group c.links.keys.items c.args.keys.now.items list i.0 (at_end c.args.held.now.links.items c.links.number i.0 i.1 zero) i.2;
}
