use Rattle.cw_audit_visits.proofs.Waits.{row_put}
use Rattle.cw_audit_visits.proofs.propose.lower.Goals as goal

pub returns-2-clause-put : goal.returns-2-clause-put
returns-2-clause-put c = λ changed.
    row_put c.args.search.now (record { store = c.put_row.new.self; frontier = c.put.new.self }) c.args.row_key c.args.row c.args.reach c.in_ok-number.number c.in_ok-number.ensures.numbers
    c.in_ok-put.ensures.put
