use Rattle.std.proofs.Common.{arith, sym, ap, ◌∙◌}
use Rattle.std.specs.Ordering.{is_lt, on}
use Rattle.std.proofs.lemmas.Cmp.{on_total}
use Rattle.cw_lemmas.proofs.Orders.{lt_less}
use Rattle.cw_lemmas.proofs.Rising.{ascends_from, beside, rises_more}
use Rattle.cw_certs.proofs.keys.ascends.Goals as goal

pub returns-then-not-is_below : goal.returns-then-not-is_below
returns-then-not-is_below g c s =
    let in_order = beside (on g.R.Keyed.key_of g.R.Key.Ord.cmp) c.args.rows.now s c.loop-i.i c.index-rows-i.result c.index-rows-i-in-loop-i.result c.loop-i.auto.i c.loop-i-test.true
    c.index-rows-i.is c.index-rows-i-in-loop-i.is in
    let told = sym c.if-not-is_below.true ∙ c.is_below.ensures ∙ ap is_lt in_order in
    cc

pub loop-i-preserved : goal.loop-i-preserved
loop-i-preserved g c =
    rises_more (on g.R.Keyed.key_of g.R.Key.Ord.cmp) c.args.rows.now c.loop-i.i c.index-rows-i.result c.index-rows-i-in-loop-i.result c.loop-i.auto.i c.loop-i-test.true
    c.index-rows-i.is c.index-rows-i-in-loop-i.is (lt_less _ (sym c.is_below.ensures ∙ c.if-not-is_below.false)) c.loop-i.invariant

pub returns : goal.returns
returns g c = ascends_from (on_total g.R.Keyed.key_of g.met.R.Key.Ord.total) c.args.rows.now (λ k d lt. c.loop-i.invariant k d (omega (arith, lt, c.loop-i-test.false)))
