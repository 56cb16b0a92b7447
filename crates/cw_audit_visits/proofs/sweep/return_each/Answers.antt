use Rattle.std.proofs.Common.{◌≡◌, length, true, false, refl, subst, arith, get_or}
use Rattle.std.proofs.lemmas.Option.{slice_get-get_or}
use Rattle.cw_audit_visits.specs.Searching.{Tells}
use Rattle.cw_audit_visits.proofs.Gone.{gone_trans, tells_both}
use Rattle.cw_audit_visits.proofs.Stepping.{there_same}
use Rattle.cw_audit_visits.proofs.Ended.{noted_more, returns_noted}
use Rattle.cw_audit_visits.proofs.sweep.return_each.Goals as goal

pub return_from-requires-clause-there : goal.return_from-requires-clause-there
return_from-requires-clause-there c = there_same c.args.search.now c.loop-row_key.search c.args.call.met (c.loop-row_key.invariant.tells.same refl).0 c.requires.there

pub return_from-requires-clause-kept : goal.return_from-requires-clause-kept
return_from-requires-clause-kept c = c.loop-row_key.invariant.goes_on.kept

pub loop-row_key-preserved : goal.loop-row_key-preserved
loop-row_key-preserved c =
    let s = c.args.search.now in
    let s1 = c.loop-row_key.search in
    let s2 = c.return_from.new.search in
    let n = c.loop-row_key.row_key in
    let ns = c.args.numbers.now in
    let unchanged : c.in_ok-return_from.field-0 ≡ false = cc in
    record {
      tells = tells_both s s1 s2 false false c.loop-row_key.invariant.tells (subst (Tells s1 s2) unchanged c.in_ok-return_from.ensures.tells);
      goes_on = gone_trans c.args.game.now s s1 s2 c.loop-row_key.invariant.goes_on c.in_ok-return_from.ensures.goes_on;
      noted = noted_more c.args.game.now s s1 c.args.call ns n (get_or ns n 0) (c.loop-row_key.invariant.tells.same refl).0 c.loop-row_key.invariant.noted
          (slice_get-get_or ns n 0 c.loop-row_key-test.true) (c.in_ok-return_from.ensures.noted unchanged);
    }

pub returns-then-branch-clause-tells : goal.returns-then-branch-clause-tells
returns-then-branch-clause-tells c =
    let s1 = c.loop-row_key.search in
    let s2 = c.return_from.new.search in
    let changed : c.in_ok-return_from.field-0 ≡ true = cc in
    tells_both c.args.search.now s1 s2 false true c.loop-row_key.invariant.tells (subst (Tells s1 s2) changed c.in_ok-return_from.ensures.tells)

pub returns-then-branch-clause-goes_on : goal.returns-then-branch-clause-goes_on
returns-then-branch-clause-goes_on c =
    gone_trans c.args.game.now c.args.search.now c.loop-row_key.search c.return_from.new.search c.loop-row_key.invariant.goes_on c.in_ok-return_from.ensures.goes_on

pub returns-clause-noted : goal.returns-clause-noted
returns-clause-noted c = λ e y.
    returns_noted c.args.game.now c.args.search.now c.args.call c.args.numbers.now (length c.args.numbers.now) c.requires.ends refl
    (λ i number low there. c.loop-row_key.invariant.noted i number (omega (arith, low, c.loop-row_key-test.false)) there) y
