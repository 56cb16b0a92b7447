use Rattle.std.proofs.Common.{◌∙◌, sym, ap, subst}
use Rattle.std.proofs.lemmas.Option.{none-some, same_Some}
use Rattle.std.proofs.lemmas.Bool.{or_parts}
use Rattle.cw_audit_table.specs.Runs.{is_step}
use Rattle.cw_audit_visits.specs.Searching.{spot_at, IsStepNoted}
use Rattle.cw_audit_visits.proofs.Turns.{first_step, second_step}
use Rattle.cw_product.specs.Product.{game_of}
use Rattle.cw_audit_visits.proofs.Gone.{gone_trans, standing_position, there_may_stand}
use Rattle.cw_audit_visits.proofs.Proposed.{reach_same}
use Rattle.cw_audit_visits.proofs.Stepping.{step_later, steps_due, row_good, row_low, moves_noted, noted_same}
use Rattle.cw_audit_visits.proofs.steps.steps.Goals as goal

pub step-requires-clause-reach : goal.step-requires-clause-reach
step-requires-clause-reach c = c.requires.there.reach

pub step-requires-clause-position : goal.step-requires-clause-position
step-requires-clause-position c =
    standing_position c.args.game.now c.args.met.row_key c.requires.fair (there_may_stand c.args.game.now c.args.search.now c.args.met c.requires.kept c.requires.there)

pub step-requires-clause-state : goal.step-requires-clause-state
step-requires-clause-state c = (there_may_stand c.args.game.now c.args.search.now c.args.met c.requires.kept c.requires.there).state

pub step-requires-clause-inside : goal.step-requires-clause-inside
step-requires-clause-inside c = row_low c.args.game.now c.args.search.now c.args.met.row_key c.args.met.row c.requires.kept c.requires.there.row

pub step-requires-clause-good : goal.step-requires-clause-good
step-requires-clause-good c = row_good c.args.game.now c.args.search.now c.args.met.row_key c.args.met.row c.requires.kept c.requires.there.row

pub step-requires-clause-due : goal.step-requires-clause-due
step-requires-clause-due c =
    steps_due c.args.game.now c.args.search.now c.args.met.row_key c.args.met.row c.requires.fair c.requires.kept c.requires.there.row c.requires.inner c.moves-first.result.0
    (ap is_step c.moves-first.ensures.first ∙ first_step (game_of c.args.game.now) (spot_at c.args.game.now c.args.met.row_key) c.requires.inner)

pub step-requires-in-Some-clause-reach : goal.step-requires-in-Some-clause-reach
step-requires-in-Some-clause-reach c =
    reach_same c.args.search.now c.step.new.search c.args.met.row_key c.args.met.reach c.step.ensures.groups c.requires.there.reach

pub step-requires-in-Some-clause-position : goal.step-requires-in-Some-clause-position
step-requires-in-Some-clause-position c =
    standing_position c.args.game.now c.args.met.row_key c.requires.fair (there_may_stand c.args.game.now c.args.search.now c.args.met c.requires.kept c.requires.there)

pub step-requires-in-Some-clause-state : goal.step-requires-in-Some-clause-state
step-requires-in-Some-clause-state c = (there_may_stand c.args.game.now c.args.search.now c.args.met c.requires.kept c.requires.there).state

pub step-requires-in-Some-clause-inside : goal.step-requires-in-Some-clause-inside
step-requires-in-Some-clause-inside c = row_low c.args.game.now c.args.search.now c.args.met.row_key c.args.met.row c.requires.kept c.requires.there.row

pub step-requires-in-Some-clause-good : goal.step-requires-in-Some-clause-good
step-requires-in-Some-clause-good c = row_good c.args.game.now c.args.search.now c.args.met.row_key c.args.met.row c.requires.kept c.requires.there.row

pub step-requires-in-Some-clause-due : goal.step-requires-in-Some-clause-due
step-requires-in-Some-clause-due c =
    let h = c.args.game.now in
    step_later h c.args.search.now c.step.new.search c.args.met.row_key c.args.met.row.inside c.in-Some.by c.requires.fair c.in_ok-one.ensures.goes_on.fallen
    (steps_due h c.args.search.now c.args.met.row_key c.args.met.row c.requires.fair c.requires.kept c.requires.there.row c.requires.inner c.in-Some.by
    (second_step (game_of h) (spot_at h c.args.met.row_key) c.in-Some.by c.requires.inner (sym c.moves-first.ensures.second ∙ c.in-Some.is)))

pub returns-in-None-clause-noted : goal.returns-in-None-clause-noted
returns-in-None-clause-noted c = λ b.
    let h = c.args.game.now in
    moves_noted h c.args.search.now c.args.met.row_key c.args.met.row.inside c.requires.inner
    (subst (IsStepNoted h c.args.search.now c.args.met.row_key c.args.met.row.inside) c.moves-first.ensures.first (c.in_ok-one.ensures.noted b))
    (λ m e. absurd (none-some m (sym c.in-None.is ∙ c.moves-first.ensures.second ∙ e)))

pub returns-in_ok-other-in-Some-clause-goes_on : goal.returns-in_ok-other-in-Some-clause-goes_on
returns-in_ok-other-in-Some-clause-goes_on c =
    gone_trans c.args.game.now c.args.search.now c.step.new.search c.step-in-Some.new.search c.in_ok-one.ensures.goes_on c.in_ok-other-in-Some.ensures.goes_on

pub returns-in_ok-other-in-Some-clause-noted : goal.returns-in_ok-other-in-Some-clause-noted
returns-in_ok-other-in-Some-clause-noted c = λ b.
    let h = c.args.game.now in
    let n = or_parts c.in_ok-one.one c.in_ok-other-in-Some.other b in
    moves_noted h c.args.search.now c.args.met.row_key c.args.met.row.inside c.requires.inner
    (subst (IsStepNoted h c.args.search.now c.args.met.row_key c.args.met.row.inside) c.moves-first.ensures.first (c.in_ok-one.ensures.noted n.0))
    (λ m e. subst (IsStepNoted h c.args.search.now c.args.met.row_key c.args.met.row.inside) (same_Some c.in-Some.by m (sym c.in-Some.is ∙ c.moves-first.ensures.second ∙ e))
    (noted_same h c.args.search.now c.step.new.search c.args.met.row_key c.args.met.row.inside c.in-Some.by (c.in_ok-one.ensures.tells.same n.0).0 (c.in_ok-other-in-Some.ensures.noted n.1)))
