use Rattle.std.proofs.Common.{◌∙◌, ap, sym}
use Rattle.cw_certs.specs.Strategies.{row_of, strategy_of}
use Rattle.cw_product.specs.Product.{game_of}
use Rattle.cw_echeck.specs.Checks.{backs_of, calls_in}
use Rattle.cw_echeck.proofs.Checks.{into_exits, into_is}
use Rattle.cw_echeck.proofs.check.row_fault.Goals as goal

pub call_fault-requires-clause-exits : goal.call_fault-requires-clause-exits
call_fault-requires-clause-exits c =
    rw c.deref.ensures.value
    (into_exits (game_of c.args.game.now) (strategy_of c.args.cert.now) c.args.number c.args.row.now c.in-Into.callee c.in-Into.backs c.in-Into.is
    (sym c.is_row.ensures ∙ c.if-not-is_row.false))

pub returns-in-Into : goal.returns-in-Into
returns-in-Into c =
    c.call_fault.ensures
    ∙ ap (λ backs. calls_in (game_of c.args.game.now) (strategy_of c.args.cert.now) (row_of c.args.row.now) c.in-Into.callee (backs_of backs))
    c.deref.ensures.value
    ∙ into_is (game_of c.args.game.now) (strategy_of c.args.cert.now) c.args.number c.args.row.now c.in-Into.callee c.in-Into.backs c.in-Into.is
    (sym c.is_row.ensures ∙ c.if-not-is_row.false)
