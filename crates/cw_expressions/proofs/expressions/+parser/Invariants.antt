use Rattle.std.proofs.Common.{◌≡◌, ◌+◌, ◌-◌, ◌*◌, ◌≤◌, suc, length}
use Rattle.cw_grammar.specs.declared.terminals.Terminal.TheVariants as w
use Rattle.cw_expressions.specs.Cursor.{begins, repeat}
use Rattle.cw_expressions.specs.Reading.{rest_of, rest_of_arguments, is_suffixed, argument, suffixed, chain, read_at}
use Rattle.cw_expressions.specs.View.{got, got_arguments}
use Rattle.cw_expressions.proofs.Climb.{climb}
use Rattle.cw_expressions.proofs.expressions.+parser.Given as goal

abbrev pub decreases-argument_at : goal.decreases-argument_at
decreases-argument_at l = 40 * l.depth + 1

abbrev pub decreases-arguments_all : goal.decreases-arguments_all
decreases-arguments_all l = 40 * l.depth + 2

abbrev pub decreases-arguments_at : goal.decreases-arguments_at
decreases-arguments_at l = 40 * l.depth + 9

abbrev pub decreases-assigned_at : goal.decreases-assigned_at
decreases-assigned_at l = 40 * l.depth + 1

abbrev pub decreases-between_at : goal.decreases-between_at
decreases-between_at l = 40 * l.depth + 1

abbrev pub decreases-by_rule_at : goal.decreases-by_rule_at
decreases-by_rule_at l = 40 * l.depth + 39

abbrev pub decreases-cast_called : goal.decreases-cast_called
decreases-cast_called l = 40 * l.depth + 2

abbrev pub decreases-cast_at : goal.decreases-cast_at
decreases-cast_at l = 40 * l.depth + 1

abbrev pub decreases-expression_at : goal.decreases-expression_at
decreases-expression_at l = 40 * l.depth + 37

abbrev pub decreases-joined_at : goal.decreases-joined_at
decreases-joined_at l = 40 * l.depth + 1

abbrev pub decreases-level_at : goal.decreases-level_at
decreases-level_at l = 40 * l.depth + 15

abbrev pub decreases-level_called : goal.decreases-level_called
decreases-level_called l = 40 * l.depth + 22

abbrev pub decreases-named_at : goal.decreases-named_at
decreases-named_at l = 40 * l.depth + 10

abbrev pub decreases-operand_at : goal.decreases-operand_at
decreases-operand_at l = 40 * l.depth + 14

abbrev pub decreases-postfix_called : goal.decreases-postfix_called
decreases-postfix_called l = 40 * l.depth + 20

abbrev pub decreases-postfix_at : goal.decreases-postfix_at
decreases-postfix_at l = 40 * l.depth + 12

abbrev pub decreases-prefixed_called : goal.decreases-prefixed_called
decreases-prefixed_called l = 40 * l.depth + 2

abbrev pub decreases-prefixed_at : goal.decreases-prefixed_at
decreases-prefixed_at l = 40 * l.depth + 1

abbrev pub decreases-primary_at : goal.decreases-primary_at
decreases-primary_at l = 40 * l.depth + 11

abbrev pub decreases-read : goal.decreases-read
decreases-read l = 40 * l.depth

abbrev pub decreases-size_of_called : goal.decreases-size_of_called
decreases-size_of_called l = 40 * l.depth + 2

abbrev pub decreases-size_of_at : goal.decreases-size_of_at
decreases-size_of_at l = 40 * l.depth + 1

abbrev pub decreases-suffixed_all : goal.decreases-suffixed_all
decreases-suffixed_all l = 40 * l.depth + 2

abbrev pub decreases-suffixed_at : goal.decreases-suffixed_at
decreases-suffixed_at l = 40 * l.depth + 1

abbrev pub decreases-unary_called : goal.decreases-unary_called
decreases-unary_called l = 40 * l.depth + 21

abbrev pub decreases-unary_at : goal.decreases-unary_at
decreases-unary_at l = 40 * l.depth + 13

abbrev pub invariant-suffixed_all-suffixes : goal.invariant-suffixed_all-suffixes
invariant-suffixed_all-suffixes l = record {
  gives : repeat rest_of is_suffixed (suffixed (read_at l.depth) l.depth) (suc (length l.so_far.rest.now)) (got l.so_far) ≡ repeat rest_of is_suffixed
      (suffixed (read_at l.depth) l.depth) (suc (length l.fn.first.rest.now)) (got l.fn.first);
  fits : l.so_far.depth ≤ l.depth + 1;
}

abbrev pub decreases-suffixed_all-suffixes : goal.decreases-suffixed_all-suffixes
decreases-suffixed_all-suffixes l = length l.so_far.rest.now

abbrev pub invariant-arguments_all-arguments : goal.invariant-arguments_all-arguments
invariant-arguments_all-arguments l = record {
  gives : repeat rest_of_arguments (begins w.Comma) (argument (read_at l.depth) l.depth) (suc (length l.so_far.rest.now)) (got_arguments l.so_far) ≡ repeat rest_of_arguments
      (begins w.Comma) (argument (read_at l.depth) l.depth) (suc (length l.fn.first.rest.now)) (got_arguments l.fn.first);
  fits : l.so_far.depth ≤ l.depth;
}

abbrev pub decreases-arguments_all-arguments : goal.decreases-arguments_all-arguments
decreases-arguments_all-arguments l = length l.so_far.rest.now

abbrev pub invariant-level_at-operators : goal.invariant-level_at-operators
invariant-level_at-operators l = record {
  gives : chain (read_at l.depth) l.depth l.level l.tokens ≡ climb (read_at l.depth) l.depth (l.level - l.below) l.below (got l.so_far);
  fits : l.so_far.depth ≤ l.depth + 1;
}

abbrev pub decreases-level_at-operators : goal.decreases-level_at-operators
decreases-level_at-operators l = length l.so_far.rest.now
