use Rattle.std.proofs.Common.{arith}
use Rattle.cw_certs.specs.Strategies.{how_of}
use Rattle.cw_strategy_text.proofs.RowLines.{no_row_head, no_how, a_row}
use Rattle.cw_strategy_text.proofs.row.read_row.Goals as goal

pub returns-in_default : goal.returns-in_default
returns-in_default c = no_row_head c.args.format c.args.line.now (rw c.of-fields.ensures.fields at c.in_default.ensures.none)

pub returns-in_default-2 : goal.returns-in_default-2
returns-in_default-2 c = no_how c.args.format c.args.line.now c.in-Some.head.number c.in-Some.head.pos c.in-Some.head.state c.in-Some.head.aim c.take_head.new.fields
    (rw c.of-fields.ensures.fields at c.in-Some.ensures.some) (rw c.in_default-2.is at c.in_ok-how.ensures)

pub returns : goal.returns
returns c = a_row c.args.format c.args.line.now c.in-Some.head.number c.in-Some.head.pos c.in-Some.head.state c.in-Some.head.aim c.take_head.new.fields (how_of c.in-Some-2.how)
    (omega arith) (omega arith) (omega arith) c.in-Some.ensures.fits
    (rw c.of-fields.ensures.fields at c.in-Some.ensures.some) (rw c.in-Some-2.is at c.in_ok-how.ensures)
