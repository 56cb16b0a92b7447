use Rattle.std.proofs.Common.{◌∙◌, sym, arith}
use Rattle.cw_audit.proofs.Limits.{done_many, done_far}
use Rattle.cw_audit.proofs.finish.finish.Goals as goal

pub returns-then-len-clause-fault : goal.returns-then-len-clause-fault
returns-then-len-clause-fault c =
    done_many c.args.game.now c.args.search.now c.requires.fair c.requires.kept c.requires.settled c.bound_of.result c.len.result c.in_ok-row_keys.row_keys.items c.bound_of.ensures
    c.in_ok-row_keys.ensures (omega (arith, c.len.ensures, c.in_ok-row_keys.row_keys.ok.0)) c.if-len.true

pub returns-then-is_far-clause-fault : goal.returns-then-is_far-clause-fault
returns-then-is_far-clause-fault c =
    done_far c.args.game.now c.args.search.now c.requires.fair c.requires.kept c.requires.settled c.bound_of.result c.len.result c.in_ok-row_keys.row_keys.items c.bound_of.ensures
    (sym c.is_far.ensures ∙ c.if-is_far.true) c.in_ok-row_keys.ensures (omega (arith, c.len.ensures, c.in_ok-row_keys.row_keys.ok.0)) (omega (arith, c.if-len.false))
