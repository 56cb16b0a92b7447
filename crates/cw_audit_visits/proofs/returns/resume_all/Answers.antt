use Rattle.std.proofs.Common.{refl}
use Rattle.cw_audit_visits.specs.declared.under_way.Search.{Search}
use Rattle.cw_audit_visits.proofs.Gone.{gone_trans, tells_both, tells_nothing}
use Rattle.cw_audit_visits.proofs.Proposed.{stays}
use Rattle.cw_audit_visits.proofs.returns.resume_all.Goals as goal

pub loop-row_key-init : goal.loop-row_key-init
loop-row_key-init c =
    let s = c.args.search.now in
    let s1 : Search = record { store = s.store; frontier = record { rows = s.frontier.rows; calls = s.frontier.calls; ends = c.put.new.self } } in
    record { tells = tells_nothing s s1 refl refl; goes_on = stays c.args.game.now s s1 refl refl c.requires.kept }

pub loop-row_key-preserved : goal.loop-row_key-preserved
loop-row_key-preserved c =
    let s = c.args.search.now in
    let s1 = c.loop-row_key.search in
    let s2 = c.join.new.search in
    record {
      tells = tells_both s s1 s2 c.loop-row_key.changed c.in_ok-joined.joined c.loop-row_key.invariant.tells c.in_ok-joined.ensures.tells;
      goes_on = gone_trans c.args.game.now s s1 s2 c.loop-row_key.invariant.goes_on c.in_ok-joined.ensures.goes_on;
    }
