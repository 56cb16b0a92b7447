use Rattle.std.proofs.Common.{sym, ◌∙◌, arith}
use Rattle.cw_expressions.specs.Reading.{read_at}
use Rattle.cw_expressions.proofs.Alone.{name_next, number_next, character_next}
use Rattle.cw_expressions.proofs.expressions.alone_next.Goals as goal

pub returns-in-Name-clause-gives : goal.returns-in-Name-clause-gives
returns-in-Name-clause-gives c = λ n. rw (c.leaf.ensures, c.past-rest.ensures.after)
    (name_next (read_at n) n c.args.rule c.args.tokens.now (omega arith) (sym c.is_behind.ensures ∙ c.if-not-is_behind.false) c.in-Name.is)

pub returns-in-Number-clause-gives : goal.returns-in-Number-clause-gives
returns-in-Number-clause-gives c = λ n. rw (c.leaf-in-Number.ensures, c.past-rest.ensures.after)
    (number_next (read_at n) n c.args.rule c.args.tokens.now (omega arith) (sym c.is_behind.ensures ∙ c.if-not-is_behind.false) c.in-Number.value c.in-Number.is)

pub returns-in-Character-clause-gives : goal.returns-in-Character-clause-gives
returns-in-Character-clause-gives c = λ n. rw (c.leaf-in-Character.ensures, c.past-rest.ensures.after)
    (character_next (read_at n) n c.args.rule c.args.tokens.now (omega arith) (sym c.is_behind.ensures ∙ c.if-not-is_behind.false) c.in-Character.value c.in-Character.is)
