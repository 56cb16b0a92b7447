use Rattle.std.proofs.Common.{◌≡◌, true, false, refl, subst, arith}
use Rattle.cw_audit_visits.specs.Searching.{Tells}
use Rattle.cw_audit_visits.proofs.Gone.{gone_trans, tells_both}
use Rattle.cw_audit_visits.proofs.Swept.{all_begun, begun_more}
use Rattle.cw_audit_visits.proofs.sweep.begin_all.Goals as goal

pub loop-number-preserved : goal.loop-number-preserved
loop-number-preserved c =
    let s = c.args.search.now in
    let s1 = c.loop-number.search in
    let s2 = c.begin_again.new.search in
    let unchanged : c.in_ok-begin_again.field-0 ≡ false = cc in
    record {
      tells = tells_both s s1 s2 false false c.loop-number.invariant.tells (subst (Tells s1 s2) unchanged c.in_ok-begin_again.ensures.tells);
      goes_on = gone_trans c.args.game.now s s1 s2 c.loop-number.invariant.goes_on c.in_ok-begin_again.ensures.goes_on;
      begun = begun_more c.args.game.now s s1 c.loop-number.number (c.loop-number.invariant.tells.same refl).0 c.loop-number.invariant.begun (c.in_ok-begin_again.ensures.begun unchanged);
    }

pub returns-then-branch-clause-tells : goal.returns-then-branch-clause-tells
returns-then-branch-clause-tells c =
    let s1 = c.loop-number.search in
    let s2 = c.begin_again.new.search in
    let changed : c.in_ok-begin_again.field-0 ≡ true = cc in
    tells_both c.args.search.now s1 s2 false true c.loop-number.invariant.tells (subst (Tells s1 s2) changed c.in_ok-begin_again.ensures.tells)

pub returns-then-branch-clause-goes_on : goal.returns-then-branch-clause-goes_on
returns-then-branch-clause-goes_on c =
    gone_trans c.args.game.now c.args.search.now c.loop-number.search c.begin_again.new.search c.loop-number.invariant.goes_on c.in_ok-begin_again.ensures.goes_on

pub returns-clause-begun : goal.returns-clause-begun
returns-clause-begun c = λ e.
    all_begun c.args.game.now c.args.search.now c.group_count-count.result c.group_count-count.ensures
    (λ number low. c.loop-number.invariant.begun number (omega (arith, low, c.loop-number-test.false)))
