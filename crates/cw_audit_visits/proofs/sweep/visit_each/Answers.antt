use Rattle.std.proofs.Common.{◌≡◌, true, false, refl, subst, arith}
use Rattle.cw_audit_visits.specs.Searching.{Tells}
use Rattle.cw_audit_visits.proofs.Gone.{gone_trans, tells_both}
use Rattle.cw_audit_visits.proofs.Swept.{begun_same, ends_same, settled_more}
use Rattle.cw_audit_visits.proofs.sweep.visit_each.Goals as goal

pub loop-number-preserved : goal.loop-number-preserved
loop-number-preserved c =
    let s = c.args.search.now in
    let s1 = c.loop-number.search in
    let s2 = c.visit_below.new.search in
    let unchanged : c.in_ok-visit_below.field-0 ≡ false = cc in
    record {
      tells = tells_both s s1 s2 false false c.loop-number.invariant.tells (subst (Tells s1 s2) unchanged c.in_ok-visit_below.ensures.tells);
      goes_on = gone_trans c.args.game.now s s1 s2 c.loop-number.invariant.goes_on c.in_ok-visit_below.ensures.goes_on;
      settled = settled_more c.args.game.now s s1 c.args.bound c.loop-number.number (c.loop-number.invariant.tells.same refl).0 c.loop-number.invariant.settled
          (c.in_ok-visit_below.ensures.settled unchanged);
    }

pub returns-then-branch-clause-tells : goal.returns-then-branch-clause-tells
returns-then-branch-clause-tells c =
    let s1 = c.loop-number.search in
    let s2 = c.visit_below.new.search in
    let changed : c.in_ok-visit_below.field-0 ≡ true = cc in
    tells_both c.args.search.now s1 s2 false true c.loop-number.invariant.tells (subst (Tells s1 s2) changed c.in_ok-visit_below.ensures.tells)

pub returns-then-branch-clause-goes_on : goal.returns-then-branch-clause-goes_on
returns-then-branch-clause-goes_on c =
    gone_trans c.args.game.now c.args.search.now c.loop-number.search c.visit_below.new.search c.loop-number.invariant.goes_on c.in_ok-visit_below.ensures.goes_on

pub visit_below-requires-clause-begun : goal.visit_below-requires-clause-begun
visit_below-requires-clause-begun c = begun_same c.args.game.now c.args.search.now c.loop-number.search (c.loop-number.invariant.tells.same refl).0 c.requires.begun

pub visit_below-requires-clause-ends : goal.visit_below-requires-clause-ends
visit_below-requires-clause-ends c = ends_same c.args.game.now c.args.search.now c.loop-number.search c.args.ends.now (c.loop-number.invariant.tells.same refl).0 c.requires.ends

pub returns-clause-settled : goal.returns-clause-settled
returns-clause-settled c = λ e number low at row there. c.loop-number.invariant.settled number (omega (arith, low, c.loop-number-test.false)) at row there
