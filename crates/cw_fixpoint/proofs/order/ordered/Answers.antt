use Rattle.std.proofs.Common.{◌<◌, ◌≡◌, ◌++◌, ◌∷◌, [], ap, ◌∙◌, length, take, subst, sym, ◌+◌}
use Rattle.std.proofs.lemmas.List.{take_more}
use Rattle.cw_fixpoint.proofs.Different.{HasSame, one_more, exactly_same}
use Rattle.cw_fixpoint.proofs.order.ordered.Goals as goal

pub loop-item-preserved : goal.loop-item-preserved
loop-item-preserved g c =
    let i = c.loop-item.item-index in
    let items = c.args.items.now in
    let item = c.item-item.result in
    let lt : i < length items = c.loop-item-test.true in
    let all : take (i + 1) items ≡ take i items ++ item ∷ [] = take_more items i item lt ∙ ap (λ y. take i items ++ (y ∷ [])) (sym c.item-item.is) in
    record {
      order = c.in_ok-insert.ensures.ordered;
      same = subst (HasSame c.insert.new.self.keys) (sym all)
          (one_more g.T.Ord.cmp g.met.T.Ord.total c.requires.exact c.loop-item.set c.insert.new.self (take i items) item c.in_ok-insert.ensures.updates c.loop-item.invariant.same);
    }

pub returns : goal.returns
returns g c =
    exactly_same g.T.Ord.cmp c.args.items.now c.in_ok-found.found.items c.loop-item.set.keys c.loop-item.item-index c.loop-item-test.false c.in_ok-found.ensures.items
    c.in_ok-found.ensures.order c.loop-item.invariant.same
