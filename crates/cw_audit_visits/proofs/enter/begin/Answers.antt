use Rattle.cw_audit_visits.proofs.Begun.{begun_kept, begun_reach, begun_due}
use Rattle.cw_audit_visits.proofs.enter.begin.Goals as goal

pub propose-requires-clause-kept : goal.propose-requires-clause-kept
propose-requires-clause-kept c =
    begun_kept c.args.game.now c.requires.fair (record { store = c.make.result; frontier = c.make-2.result }) (record { store = c.put_group.new.self; frontier = c.make-2.result })
    c.main.result c.start.result.1 c.main.ensures c.start.ensures.state c.make.ensures.groups c.make.ensures.rows c.make.ensures.hit
    (record { groups = c.in_ok-put_group.ensures.groups; rows = c.put_group.ensures.rows; hit = c.put_group.ensures.hit })

pub propose-requires-clause-reach : goal.propose-requires-clause-reach
propose-requires-clause-reach c =
    begun_reach c.args.game.now c.requires.fair (record { store = c.make.result; frontier = c.make-2.result }) (record { store = c.put_group.new.self; frontier = c.make-2.result })
    c.main.result c.start.result.1 c.main.ensures c.start.ensures.state c.make.ensures.groups c.make.ensures.rows c.make.ensures.hit
    (record { groups = c.in_ok-put_group.ensures.groups; rows = c.put_group.ensures.rows; hit = c.put_group.ensures.hit })

pub propose-requires-clause-due : goal.propose-requires-clause-due
propose-requires-clause-due c =
    begun_due c.args.game.now c.requires.fair (record { store = c.make.result; frontier = c.make-2.result }) (record { store = c.put_group.new.self; frontier = c.make-2.result })
    c.main.result c.start.result.1 c.main.ensures c.start.ensures.state c.make.ensures.groups c.make.ensures.rows c.make.ensures.hit
    (record { groups = c.in_ok-put_group.ensures.groups; rows = c.put_group.ensures.rows; hit = c.put_group.ensures.hit }) c.start.result.0 c.start.ensures.position
