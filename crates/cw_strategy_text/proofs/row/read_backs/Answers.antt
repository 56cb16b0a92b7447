use Rattle.std.proofs.Common.{arith}
use Rattle.cw_strategy_text.proofs.Backs.{at_end, at_none, at_low, at_next, more_backs}
use Rattle.cw_strategy_text.specs.Fields.{backs_of}
use Rattle.cw_strategy_text.proofs.row.read_backs.Goals as goal

pub returns-in_default : goal.returns-in_default
returns-in_default c = at_end c.args.fields.now c.backs.fields (backs_of c.backs.backs.items) c.backs.low c.backs.invariant c.in_default.ensures.none

pub returns-in_default-read_back : goal.returns-in_default-read_back
returns-in_default-read_back c = at_none c.args.fields.now c.backs.fields (backs_of c.backs.backs.items) c.backs.low c.in-Some.field.now c.take.new.self c.backs.invariant
    c.in-Some.ensures.some c.in_default-read_back.ensures

pub returns-then-from-low : goal.returns-then-from-low
returns-then-from-low c = at_low c.args.fields.now c.backs.fields (backs_of c.backs.backs.items) c.backs.low c.in-Some-read_back.exit c.in-Some-read_back.row c.in-Some.field.now
    c.take.new.self c.backs.invariant c.in-Some.ensures.some c.in-Some-read_back.ensures
    (let e = c.from.ensures in let lt = c.if-from-low.true in omega (arith, e, lt))

pub backs-preserved : goal.backs-preserved
backs-preserved c =
    let next = at_next c.args.fields.now c.backs.fields (backs_of c.backs.backs.items) c.backs.low c.in-Some-read_back.exit c.in-Some-read_back.row c.in-Some.field.now c.take.new.self
    c.backs.invariant c.in-Some.ensures.some c.in-Some-read_back.ensures
    (let e = c.from.ensures in let le = c.if-from-low.false in omega (arith, e, le)) in
    more_backs c.args.fields.now c.take.new.self c.backs.backs.items c.push.new.self.items c.in-Some-read_back.exit c.in-Some-read_back.row c.from-low.result c.in_ok-push.ensures.items
    c.from-low.ensures next
