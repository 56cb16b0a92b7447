use Rattle.std.proofs.Common.{length, nat_eq, ◌∙◌, ap, sym}
use Rattle.std.specs.Prelude.{slice_get}
use Rattle.cw_certs.specs.Strategies.{row_of, strategy_of}
use Rattle.cw_product.specs.Product.{game_of}
use Rattle.cw_echeck.specs.Checks.{backs_of}
use Rattle.cw_echeck.proofs.Checks.{both_halves, call_fails, call_is, callee_there, covered, first_apart, first_half, row_there, second_apart}
use Rattle.cw_echeck.proofs.check.call_fault.Goals as goal
use Rattle.cw_echeck.proofs.check.call_fault.Goals.{then-covered, else-covered, then-entered-entry-via-then-entered-entry, then-entered-entry-via-else-entered-entry+then-entered-row}

pub entry-requires : goal.entry-requires
entry-requires c =
    let g = game_of c.args.game.now in
    let p = c.args.row.now.pos.0 in
    callee_there g (length g.spots) (length c.args.game.now.graph.parts.items) p c.in-Call.function c.in-Call.split c.in-Call.back
    (slice_get g.spots p)
    c.in-Call.ensures (λ s e. c.fact_is_closed.ensures.leads p s e)

pub returns-then-entered-entry : goal.returns-then-entered-entry
returns-then-entered-entry c =
    let x = c.in-Some.entered.now in
    let f = c.in-Call.function in
    let found = rw c.deref.ensures.value at c.in-Some.ensures.lookup in
    let g = game_of c.args.game.now in
    call_fails g (strategy_of c.args.cert.now) (row_of c.args.row.now) c.args.callee (backs_of c.args.backs.now) f c.in-Call.split c.in-Call.back
    (row_of x)
    c.in-Call.ensures (row_there c.args.cert.now.rows.items c.args.callee x found.0 found.1)
    (elim c.then-entered-entry.branch [
      | then-entered-entry-via-then-entered-entry w ↦
          first_apart x.pos.0 (g.entry f) (nat_eq x.state.0 c.args.row.now.state.0) (λ e. w.if-entered-entry.true (e ∙ sym c.entry.ensures.is))
      | then-entered-entry-via-else-entered-entry+then-entered-row w ↦
          second_apart x.state.0 c.args.row.now.state.0 (nat_eq x.pos.0 (g.entry f)) w.if-entered-row.true
    ])

pub returns : goal.returns
returns c =
    let g = game_of c.args.game.now in
    let x = c.in-Some.entered.now in
    let all = c.are_covered-covered.ensures ∙ ap (covered x.aim (backs_of c.args.backs.now)) c.states.ensures in
    let found = rw c.deref.ensures.value at c.in-Some.ensures.lookup in
    c.unless.ensures
    ∙ call_is g (strategy_of c.args.cert.now) (row_of c.args.row.now) c.args.callee (backs_of c.args.backs.now) c.in-Call.function c.in-Call.split
    c.in-Call.back (row_of x)
    c.if-covered.unless c.in-Call.ensures (row_there c.args.cert.now.rows.items c.args.callee x found.0 found.1) (c.if-entered-entry.false
    ∙ c.entry.ensures.is) c.if-entered-row.false
    (elim c.if-covered.branch [
      | then-covered w ↦ both_halves c.are_covered-covered.result _ _ c.if-covered.unless all w.if-covered.true (w.unless-is ∙ w.are_backs.ensures)
      | else-covered w ↦ first_half c.are_covered-covered.result _ _ c.if-covered.unless all w.if-covered.false w.unless-is
    ])
