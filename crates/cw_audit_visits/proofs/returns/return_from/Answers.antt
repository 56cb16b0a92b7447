use Rattle.std.proofs.Common.{◌∙◌, sym, ap, arith}
use Rattle.std.specs.Prelude.{option_map}
use Rattle.cw_audit_store.specs.declared.row_key.Row.{Row}
use Rattle.cw_audit_visits.proofs.Oks.{when_ok, at_ok}
use Rattle.cw_audit_visits.proofs.Gone.{return_due, return_noted}
use Rattle.cw_audit_visits.proofs.Ended.{no_end, end_noted, end_at}
use Rattle.cw_audit_visits.proofs.returns.return_from.Goals as goal

pub returns-in_default-clause-noted : goal.returns-in_default-clause-noted
returns-in_default-clause-noted c = λ b. no_end c.args.game.now c.args.search.now c.args.call c.args.number c.numbered.result c.numbered.ensures.entry (λ p is. c.in_default.not-Some p is)

pub propose-requires-clause-reach : goal.propose-requires-clause-reach
propose-requires-clause-reach c = c.requires.there.reach

pub propose-requires-clause-state : goal.propose-requires-clause-state
propose-requires-clause-state c =
    let end = c.in-Some.end in
    (c.requires.kept.sound.keyed end.entrance.function end.entrance.state.0 end.pos.0 end.state.0 c.in-Some.ended.inside (ap (option_map (λ (r : Row). r.inside)) c.in-Some.ensures.row)).state

pub propose-requires-clause-due : goal.propose-requires-clause-due
propose-requires-clause-due c =
    let h = c.args.game.now in
    let call = c.args.call in
    let end = c.in-Some.end in
    return_due h c.args.search.now call.met.row_key call.callee call.back.0 end.state.0 c.requires.call.call c.requires.fair c.requires.kept call.met.row c.in-Some.ended c.cut.result
    c.requires.there.row (end_at h c.args.search.now call c.args.number end c.in-Some.ended (sym c.numbered.ensures.entry ∙ c.in-Some.is) c.in-Some.ensures.row (sym c.is_end.ensures ∙ cc))
    (omega (arith, c.cut.ensures, c.from.ensures, c.from-2.ensures))

pub returns-clause-noted : goal.returns-clause-noted
returns-clause-noted c =
    let h = c.args.game.now in
    let call = c.args.call in
    let end = c.in-Some.end in
    let there = sym c.numbered.ensures.entry ∙ c.in-Some.is in
    when_ok c.propose.result (λ changed e b. end_noted h c.args.search.now call c.args.number end c.in-Some.ended there
    (return_noted h c.args.search.now call.met.row_key call.callee call.back.0 end.state.0 c.requires.call.call call.met.row c.in-Some.ended c.cut.result
    c.requires.there.row (end_at h c.args.search.now call c.args.number end c.in-Some.ended there c.in-Some.ensures.row (sym c.is_end.ensures ∙ cc))
    (omega (arith, c.cut.ensures, c.from.ensures, c.from-2.ensures)) (at_ok _ c.propose.result changed e c.propose.ensures.noted b)))
