use Rattle.std.proofs.Common.{◌∙◌, sym}
use Rattle.std.proofs.lemmas.Bool.{false≢true}
use Rattle.cw_strategy_text.proofs.Backs.{no_state, no_row, no_end, a_back}
use Rattle.cw_strategy_text.proofs.row.read_back.Goals as goal

pub returns-in_err-exit : goal.returns-in_err-exit
returns-in_err-exit c = rw c.from_residual.ensures (no_state c.args.field.now (rw c.of-parts.ensures.fields at c.in_err-exit.ensures.none))

pub returns-in_err-row : goal.returns-in_err-row
returns-in_err-row c = rw c.from_residual-in_err-row.ensures
    (no_row c.args.field.now c.in_ok-exit.exit c.take_u16.new.self (rw c.of-parts.ensures.fields at c.in_ok-exit.ensures.some.1) c.in_err-row.ensures.none)

pub returns-then-is_done : goal.returns-then-is_done
returns-then-is_done c = a_back c.args.field.now c.in_ok-exit.exit c.in_ok-row.row c.take_u16.new.self c.take_u32.new.self c.in_ok-exit.ensures.some.0 c.in_ok-row.ensures.some.0
    (rw c.of-parts.ensures.fields at c.in_ok-exit.ensures.some.1) c.in_ok-row.ensures.some.1 (c.is_done.ensures.done.0 c.if-is_done.true)

pub returns-else-is_done : goal.returns-else-is_done
returns-else-is_done c = no_end c.args.field.now c.in_ok-exit.exit c.in_ok-row.row c.take_u16.new.self c.take_u32.new.self
    (rw c.of-parts.ensures.fields at c.in_ok-exit.ensures.some.1) c.in_ok-row.ensures.some.1 (λ e. absurd (false≢true (sym c.if-is_done.false ∙ c.is_done.ensures.done.1 e)))
