use Rattle.cw_product.specs.Product.{game_of}
use Rattle.cw_audit_table.specs.Tables.{audit_of}
use Rattle.cw_audit_visits.specs.Searching.{functions_of}
use Rattle.cw_audit_visits.proofs.Oks.{when_ok, at_ok}
use Rattle.cw_audit.proofs.Done.{played_of, rows_fault, moves_fault}
use Rattle.cw_audit.proofs.run.audit.Goals as goal

pub returns-clause-stated : goal.returns-clause-stated
returns-clause-stated c = when_ok c.audited.result (λ t e. (at_ok _ c.audited.result t e c.audited.ensures.table).stated)

pub returns-clause-good : goal.returns-clause-good
returns-clause-good c = when_ok c.audited.result (λ t e. (at_ok _ c.audited.result t e c.audited.ensures.table).good)

pub returns-clause-shown : goal.returns-clause-shown
returns-clause-shown c = when_ok c.audited.result (λ t e. (at_ok _ c.audited.result t e c.audited.ensures.table).shown)

pub returns-clause-needed : goal.returns-clause-needed
returns-clause-needed c = when_ok c.audited.result (λ t e. (at_ok _ c.audited.result t e c.audited.ensures.table).needed)

pub returns-clause-few_rows : goal.returns-clause-few_rows
returns-clause-few_rows c = when_ok c.audited.result (λ t e. (at_ok _ c.audited.result t e c.audited.ensures.table).few_rows)

pub returns-clause-few_moves : goal.returns-clause-few_moves
returns-clause-few_moves c = when_ok c.audited.result (λ t e. (at_ok _ c.audited.result t e c.audited.ensures.table).few_moves)

pub returns-clause-plays : goal.returns-clause-plays
returns-clause-plays c =
    let g = game_of c.args.game.now in
    when_ok c.audited.result (λ t e. played_of g (functions_of c.args.game.now) (audit_of t) (at_ok _ c.audited.result t e c.audited.ensures.table))

pub returns-clause-many_rows : goal.returns-clause-many_rows
returns-clause-many_rows c = rows_fault (game_of c.args.game.now) c.audited.result c.audited.ensures.fault

pub returns-clause-many_moves : goal.returns-clause-many_moves
returns-clause-many_moves c = moves_fault (game_of c.args.game.now) c.audited.result c.audited.ensures.fault
