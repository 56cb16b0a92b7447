use Rattle.std.proofs.Common.{◌∙◌, sym, arith}
use Rattle.cw_audit_visits.specs.Searching.{IsGoneOn}
use Rattle.cw_audit_visits.proofs.Oks.{when_ok, whenever_ok, at_ok, by_truth}
use Rattle.cw_audit_visits.proofs.Proposed.{noted_row, row_gone_on, hit_gone_on, stays, reach_low}
use Rattle.cw_audit_visits.proofs.propose.propose.Goals as goal

pub returns-then-bad-clause-goes_on : goal.returns-then-bad-clause-goes_on
returns-then-bad-clause-goes_on c =
    let h = c.args.game.now in
    let s = c.args.search.now in
    let s2 = c.violate.new.search in
    by_truth {X = IsGoneOn h s s2} c.violate.result
    (λ b. stays h s s2 (c.violate.ensures.tells.same b).0 c.violate.ensures.rests c.requires.kept)
    (λ b. hit_gone_on h s c.args.at c.args.row.inside c.skipped.result.0 c.skipped.ensures.is c.requires.fair c.requires.kept c.args.row.way c.requires.due s2 c.args.reach c.cut.result
    (omega (arith, c.cut.ensures, c.from.ensures, c.from-then-bad.ensures)) c.requires.reach (sym c.bad.ensures ∙ c.if-bad.true) (c.violate.ensures.falls b) (c.violate.ensures.set b)
    c.violate.ensures.rests)

pub lower-requires-clause-reach : goal.lower-requires-clause-reach
lower-requires-clause-reach c = reach_low c.args.game.now c.args.search.now c.args.at c.args.reach c.requires.kept c.requires.reach

pub returns-clause-noted : goal.returns-clause-noted
returns-clause-noted c =
    when_ok c.lower.result (λ changed e b. noted_row c.args.game.now c.args.search.now c.args.at c.args.row.inside c.skipped.result.0 c.skipped.ensures.is (sym c.bad.ensures ∙ c.if-bad.false)
    (at_ok _ c.lower.result changed e c.lower.ensures.near b))

pub returns-clause-goes_on : goal.returns-clause-goes_on
returns-clause-goes_on c =
    let h = c.args.game.now in
    let s = c.args.search.now in
    let s2 = c.lower.new.search in
    whenever_ok c.lower.result (λ changed e. by_truth {X = IsGoneOn h s s2} changed
    (λ b. stays h s s2 ((at_ok _ c.lower.result changed e c.lower.ensures.tells).same b).0 (at_ok _ c.lower.result changed e c.lower.ensures.rests b) c.requires.kept)
    (λ b. row_gone_on h s c.args.at c.args.row.inside c.skipped.result.0 c.skipped.ensures.is c.requires.fair c.requires.kept c.args.row.way c.requires.due s2 c.args.row.group
    (sym c.bad.ensures ∙ c.if-bad.false) (at_ok _ c.lower.result changed e c.lower.ensures.falls b) (at_ok _ c.lower.result changed e c.lower.ensures.set b) c.args.reach c.requires.reach
    (at_ok _ c.lower.result changed e c.lower.ensures.put b)))
