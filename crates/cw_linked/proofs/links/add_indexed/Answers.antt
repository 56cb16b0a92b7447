use Rattle.std.proofs.Common.{List, sym, subst}
use Rattle.cw_solve.specs.declared.contexts.Context.{Context}
use Rattle.cw_linked.specs.Listed.{HasListed}
use Rattle.cw_linked.proofs.Listing.{listed_more}
use Rattle.cw_linked.proofs.links.add_indexed.Goals as goal

pub returns-clause-listed : goal.returns-clause-listed
returns-clause-listed c =
    let d : Context = c.args.context.now in
    subst (λ (cs : List Context). HasListed c.push.new.self cs) (sym c.in_ok-add.ensures.contexts)
    (listed_more c.args.indices.now c.push.new.self c.args.work.now.blocks.contexts.items d c.requires.listed c.in_ok-push.ensures.count c.in_ok-push.ensures.here c.in_ok-push.ensures.others)
