use Rattle.std.proofs.Common.{◌<◌, ◌∷◌, [], sym, arith}
use Rattle.cw_lex.proofs.Close.{close_here, close_none}
use Rattle.cw_lex.proofs.Places.{begins_within}
use Rattle.cw_lex.proofs.front.close_length.Goals as goal

pub returns-in-None-clause-value : goal.returns-in-None-clause-value
returns-in-None-clause-value c = sym (close_none c.args.bytes.now c.in-None.ensures.none)

pub returns-in-Some-clause-value : goal.returns-in-Some-clause-value
returns-in-Some-clause-value c = sym (close_here c.args.bytes.now c.in-Some.at c.in-Some.ensures.found c.in-Some.ensures.least)

pub returns-in-Some-clause-within : goal.returns-in-Some-clause-within
returns-in-Some-clause-within c =
    let two : 0 < 2 = omega arith in
    begins_within c.args.bytes.now (42 ∷ 47 ∷ []) c.in-Some.at two c.in-Some.ensures.found
