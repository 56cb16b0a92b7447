use Rattle.std.proofs.Common.{◌++◌, List, ℕ, drop, reverse, refl, sym, ap, ◌∙◌, arith}
use Rattle.std.proofs.lemmas.List.{drop_all}
use Rattle.cw_links.specs.Lists.{list_at}
use Rattle.cw_links.proofs.Nearing.{one_aside}
use Rattle.cw_links.proofs.nearest.put_all.Goals as goal

pub put-requires : goal.put-requires
put-requires c = c.requires (omega arith)

pub loop-index-init : goal.loop-index-init
loop-index-init c = record { here = refl; others = λ k ne. refl }

pub loop-index-preserved : goal.loop-index-preserved
loop-index-preserved c =
    let p = c.in-Ok.ensures.put in
    record {
      here = one_aside c.args.elements.now c.loop-index.index c.args.key c.loop-index.later c.put.new.self (omega arith) p ∙ c.loop-index.invariant.here;
      others = λ k ne. p.others k ne ∙ c.loop-index.invariant.others k ne;
    }

pub returns-in-Err-clause-some : goal.returns-in-Err-clause-some
returns-in-Err-clause-some c =
    ap (λ (ls : List (List ℕ)). reverse (drop c.loop-index.index c.args.elements.now) ++ list_at ls c.args.key) c.in-Err.ensures.refused ∙ c.loop-index.invariant.here

pub returns-in-Err-clause-others : goal.returns-in-Err-clause-others
returns-in-Err-clause-others c = λ k ne. ap (λ (ls : List (List ℕ)). list_at ls k) c.in-Err.ensures.refused ∙ c.loop-index.invariant.others k ne

pub returns-clause-all : goal.returns-clause-all
returns-clause-all c =
    ap (λ (xs : List ℕ). reverse xs ++ list_at c.loop-index.later c.args.key) (sym (drop_all c.loop-index.index c.args.elements.now (omega arith))) ∙ c.loop-index.invariant.here
