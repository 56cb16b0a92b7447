use Rattle.std.proofs.Common.{◌∙◌, sym, ap}
use Rattle.std.specs.Prelude.{option_map}
use Rattle.cw_audit_store.specs.declared.row_key.Row.{Row}
use Rattle.cw_audit_visits.proofs.Ended.{end_put, end_nowhere}
use Rattle.cw_audit_visits.proofs.ends.put_end.Goals as goal

pub exit-requires : goal.exit-requires
exit-requires c =
    let at = c.in-Some.row_key in
    (c.requires.kept.sound.keyed at.entrance.function at.entrance.state.0 at.pos.0 at.state.0 c.in-Some._row.inside (ap (option_map (λ (r : Row). r.inside)) c.in-Some.ensures.row)).below

pub returns-in_default : goal.returns-in_default
returns-in_default c =
    end_nowhere c.args.game.now c.args.search.now c.args.number c.args.ends.now c.numbered.result c.numbered.ensures.entry (λ p is. c.in_default.not-Some p is)

pub returns-in_ok-put : goal.returns-in_ok-put
returns-in_ok-put c =
    end_put c.args.game.now c.args.search.now c.args.number c.args.ends.now c.put.new.self c.in-Some.row_key c.in-Some._row (sym c.numbered.ensures.entry ∙ c.in-Some.is)
    c.in_ok-put.ensures.here c.in_ok-put.ensures.others
