use Rattle.cw_product.specs.Product.{game_of}
use Rattle.cw_audit_visits.specs.Searching.{functions_of}
use Rattle.cw_audit_search.proofs.Fair.{is_fair}
use Rattle.cw_audit_table.specs.Tables.{audit_of}
use Rattle.cw_audit_visits.proofs.Oks.{when_ok, at_ok}
use Rattle.cw_audit.proofs.Done.{verdict_of}
use Rattle.cw_audit.proofs.run.audited.Goals as goal

pub searched-requires : goal.searched-requires
searched-requires c =
    record {
      fair = is_fair (game_of c.args.game.now) (functions_of c.args.game.now) c.fact_is_closed.ensures.leads c.fact_is_closed.ensures.main c.fact_is_closed.ensures.routes c.fact_is_closed.ensures.states
          c.requires.program.0 c.requires.program.1;
    }

pub finish-requires-clause-fair : goal.finish-requires-clause-fair
finish-requires-clause-fair c =
    is_fair (game_of c.args.game.now) (functions_of c.args.game.now) c.fact_is_closed.ensures.leads c.fact_is_closed.ensures.main c.fact_is_closed.ensures.routes c.fact_is_closed.ensures.states
    c.requires.program.0 c.requires.program.1

pub returns-clause-verdict : goal.returns-clause-verdict
returns-clause-verdict c =
    let g = game_of c.args.game.now in
    let fair = is_fair g (functions_of c.args.game.now) c.fact_is_closed.ensures.leads c.fact_is_closed.ensures.main c.fact_is_closed.ensures.routes c.fact_is_closed.ensures.states
    c.requires.program.0 c.requires.program.1 in
    when_ok c.finish.result (λ t e p game. verdict_of g (functions_of c.args.game.now) (audit_of t) (at_ok _ c.finish.result t e c.finish.ensures.table)
    (λ f p k below low high e. fair.alone f p k below (low, high) e) p game)
