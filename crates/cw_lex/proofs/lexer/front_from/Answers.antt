use Rattle.std.proofs.Common.{◌≡◌, ◌-◌, ℕ, length, drop, arith, subst, length-drop}
use Rattle.cw_lex.specs.Fronts.{IsWithin, front_at}
use Rattle.cw_lex.specs.Fresh.{fresh_from}
use Rattle.cw_lex.proofs.Within.{front_within}
use Rattle.cw_lex.proofs.lexer.front_from.Goals as goal

pub returns-clause-within : goal.returns-clause-within
returns-clause-within c =
    let len : length (drop c.args.at c.args.source.now) ≡ length c.args.source.now - c.args.at = length-drop c.args.at c.args.source.now in
    let fresh = fresh_from c.args.last c.args.at c.args.source.now in
    rw (c.front_of.ensures, c.tail-2.ensures.rest, c.tail.ensures.rest) (subst (λ (k : ℕ). IsWithin k (front_at fresh (drop c.args.at c.args.source.now))) len
    (front_within fresh (drop c.args.at c.args.source.now) (omega (arith, len))))
