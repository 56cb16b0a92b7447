use Rattle.std.proofs.Common.{◌<◌, ◌≡◌, ◌++◌, ◌∷◌, [], ap, ◌∙◌, length, take, subst, sym, ◌+◌}
use Rattle.std.proofs.lemmas.List.{take_more}
use Rattle.cw_fixpoint.specs.Seen.{Adds}
use Rattle.cw_fixpoint.proofs.Keys.{adds_more}
use Rattle.cw_joins.proofs.seen.see_all.Goals as goal

pub loop-key-preserved : goal.loop-key-preserved
loop-key-preserved g c =
    let i = c.loop-key.key-index in
    let keys = c.args.keys.now in
    let key = c.key-item.result in
    let lt : i < length keys = c.loop-key-test.true in
    let all : take (i + 1) keys ≡ take i keys ++ key ∷ [] = take_more keys i key lt ∙ ap (λ y. take i keys ++ (y ∷ [])) (sym c.key-item.is) in
    record {
      same = c.in_ok-see.ensures.same;
      adds = subst (Adds c.args.seen.now.keys.items c.see.new.seen.keys.items) (sym all)
          (adds_more c.args.seen.now.keys.items c.loop-key.seen.keys.items c.see.new.seen.keys.items (take i keys) (key ∷ []) c.loop-key.invariant.adds c.in_ok-see.ensures.more);
    }
