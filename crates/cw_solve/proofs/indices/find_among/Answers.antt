use Rattle.std.proofs.Common.{◌≡◌, ◌+◌, ◌-◌, ◌<◌, length, get_or, sym, subst, arith}
use Rattle.std.proofs.lemmas.Option.{slice_get-get_or}
use Rattle.cw_solve.specs.Contexts.{context}
use Rattle.cw_solve.specs.Indexed.{AreOthers}
use Rattle.cw_solve.proofs.Indexed.{others_end, others_more}
use Rattle.cw_solve.proofs.indices.find_among.Goals as goal

pub loop-at-init : goal.loop-at-init
loop-at-init c =
    let numbers = c.args.numbers.now in
    record {
      within = omega arith;
      others = others_end c.args.contexts.now (context c.args.function c.args.promise.now) numbers (length numbers) (omega arith);
    }

pub loop-at-preserved : goal.loop-at-preserved
loop-at-preserved c =
    let contexts = c.args.contexts.now in
    let numbers = c.args.numbers.now in
    let d = context c.args.function c.args.promise.now in
    let at = c.loop-at.at - 1 in
    let short : at < length numbers = omega (arith, c.loop-at.invariant.within, c.loop-at-test.true) in
    let next : at + 1 ≡ c.loop-at.at = omega (arith, c.loop-at-test.true) in
    record {
      within = omega (arith, short);
      others = others_more contexts d numbers at (get_or numbers at 0) (slice_get-get_or numbers at 0 short) (c.is_at.ensures.other c.if-is_at.false)
          (subst (AreOthers contexts d numbers) (sym next) c.loop-at.invariant.others);
    }

pub returns-clause-none : goal.returns-clause-none
returns-clause-none c =
    let e : c.loop-at.at ≡ 0 = omega (arith, c.loop-at-test.false) in
    subst (AreOthers c.args.contexts.now (context c.args.function c.args.promise.now) c.args.numbers.now) e c.loop-at.invariant.others
