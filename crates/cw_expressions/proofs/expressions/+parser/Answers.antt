use Rattle.std.proofs.Common.{◌≡◌, ◌-◌, suc, true, false, length, arith, sym, refl, ◌∙◌}
use Rattle.std.proofs.lemmas.Result.{err_from_is_err_and}
use Rattle.cw_grammar.specs.declared.terminals.Terminal.TheVariants as w
use Rattle.cw_expressions.specs.Cursor.{begins}
use Rattle.cw_expressions.specs.Reading.{rest_of, rest_of_arguments, goes_on_at, is_suffixed, argument, suffixed, joined, operand, chain, read_at}
use Rattle.cw_expressions.specs.View.{got, got_arguments}
use Rattle.cw_expressions.proofs.Repeat.{repeat_ends, repeat_fails, repeat_further}
use Rattle.cw_expressions.proofs.Short.{read_over, read_shortens, joined_shortens, suffixed_shortens, argument_shortens}
use Rattle.cw_expressions.proofs.Climb.{fails_on, climbs_up, climbs_on, climbs_to, climbs_read, climbs_from}
use Rattle.cw_expressions.proofs.expressions.+parser.Goals as goal

pub suffixed_all-returns-in_err-so_far-clause-gives : goal.suffixed_all-returns-in_err-so_far-clause-gives
suffixed_all-returns-in_err-so_far-clause-gives t c =
    let p = err_from_is_err_and c.from_residual.result c.from_residual.ensures.1 in
    let go : is_suffixed c.suffixes.so_far.rest.now ≡ true = sym c.has_suffix.ensures ∙ c.suffixes-test.true in
    rw (p.1, p.2, ← c.suffixes.invariant.gives) (repeat_fails rest_of is_suffixed (suffixed (read_at c.args.depth) c.args.depth) c.in_err-so_far.field-0.0
    (length c.suffixes.so_far.rest.now) (got c.suffixes.so_far) go c.in_err-so_far.ensures.gives)

pub suffixed_all-suffixes-smaller : goal.suffixed_all-suffixes-smaller
suffixed_all-suffixes-smaller t c =
    let go : is_suffixed c.suffixes.so_far.rest.now ≡ true = sym c.has_suffix.ensures ∙ c.suffixes-test.true in
    suffixed_shortens (read_at c.args.depth) c.args.depth (read_shortens c.args.depth) (got c.suffixes.so_far) (got c.in_ok-so_far.so_far) go c.in_ok-so_far.ensures.gives

pub suffixed_all-suffixes-preserved : goal.suffixed_all-suffixes-preserved
suffixed_all-suffixes-preserved t c =
    let go : is_suffixed c.suffixes.so_far.rest.now ≡ true = sym c.has_suffix.ensures ∙ c.suffixes-test.true in
    record {
      gives = repeat_further rest_of is_suffixed (suffixed (read_at c.args.depth) c.args.depth) (suffixed_shortens (read_at c.args.depth) c.args.depth (read_shortens c.args.depth))
          (got c.suffixes.so_far) (got c.in_ok-so_far.so_far) go c.in_ok-so_far.ensures.gives ∙ c.suffixes.invariant.gives;
      fits = c.in_ok-so_far.ensures.fits;
    }

pub suffixed_all-returns-clause-gives : goal.suffixed_all-returns-clause-gives
suffixed_all-returns-clause-gives t c =
    let stop : is_suffixed c.suffixes.so_far.rest.now ≡ false = sym c.has_suffix.ensures ∙ c.suffixes-test.false in
    sym c.suffixes.invariant.gives ∙ repeat_ends rest_of is_suffixed (suffixed (read_at c.args.depth) c.args.depth) (length c.suffixes.so_far.rest.now) (got c.suffixes.so_far) stop

pub arguments_all-returns-in_err-so_far-clause-gives : goal.arguments_all-returns-in_err-so_far-clause-gives
arguments_all-returns-in_err-so_far-clause-gives t c =
    let p = err_from_is_err_and c.from_residual.result c.from_residual.ensures.1 in
    let go : begins w.Comma c.arguments.so_far.rest.now ≡ true = sym c.begins_with.ensures.begins ∙ c.arguments-test.true in
    rw (p.1, p.2, ← c.arguments.invariant.gives) (repeat_fails rest_of_arguments (begins w.Comma) (argument (read_at c.args.depth) c.args.depth) c.in_err-so_far.field-0.0
    (length c.arguments.so_far.rest.now) (got_arguments c.arguments.so_far) go c.in_err-so_far.ensures.gives)

pub arguments_all-arguments-smaller : goal.arguments_all-arguments-smaller
arguments_all-arguments-smaller t c =
    let go : begins w.Comma c.arguments.so_far.rest.now ≡ true = sym c.begins_with.ensures.begins ∙ c.arguments-test.true in
    argument_shortens (read_at c.args.depth) c.args.depth (read_shortens c.args.depth) (got_arguments c.arguments.so_far) (got_arguments c.in_ok-so_far.so_far) go c.in_ok-so_far.ensures.gives

pub arguments_all-arguments-preserved : goal.arguments_all-arguments-preserved
arguments_all-arguments-preserved t c =
    let go : begins w.Comma c.arguments.so_far.rest.now ≡ true = sym c.begins_with.ensures.begins ∙ c.arguments-test.true in
    record {
      gives = repeat_further rest_of_arguments (begins w.Comma) (argument (read_at c.args.depth) c.args.depth)
          (argument_shortens (read_at c.args.depth) c.args.depth (read_shortens c.args.depth)) (got_arguments c.arguments.so_far)
          (got_arguments c.in_ok-so_far.so_far) go c.in_ok-so_far.ensures.gives ∙ c.arguments.invariant.gives;
      fits = c.in_ok-so_far.ensures.fits;
    }

pub arguments_all-returns-clause-gives : goal.arguments_all-returns-clause-gives
arguments_all-returns-clause-gives t c =
    let stop : begins w.Comma c.arguments.so_far.rest.now ≡ false = sym c.begins_with.ensures.begins ∙ c.arguments-test.false in
    rw c.shrink_to_fit.ensures.items (sym c.arguments.invariant.gives
    ∙ repeat_ends rest_of_arguments (begins w.Comma) (argument (read_at c.args.depth) c.args.depth) (length c.arguments.so_far.rest.now) (got_arguments c.arguments.so_far) stop)

pub arguments_all-returns-then-len-eq3-clause-gives : goal.arguments_all-returns-then-len-eq3-clause-gives
arguments_all-returns-then-len-eq3-clause-gives t c =
    let stop : begins w.Comma c.arguments.so_far.rest.now ≡ false = sym c.begins_with.ensures.begins ∙ c.arguments-test.false in
    sym c.arguments.invariant.gives
    ∙ repeat_ends rest_of_arguments (begins w.Comma) (argument (read_at c.args.depth) c.args.depth) (length c.arguments.so_far.rest.now) (got_arguments c.arguments.so_far) stop

pub level_at-returns-in_err-so_far-clause-gives : goal.level_at-returns-in_err-so_far-clause-gives
level_at-returns-in_err-so_far-clause-gives t c =
    let p = err_from_is_err_and c.from_residual.result c.from_residual.ensures.1 in
    rw (p.1, p.2, climbs_up (read_at c.args.depth) c.args.depth c.args.level c.args.tokens.now)
    (fails_on c.in_err-so_far.field-0.0 (operand (read_at c.args.depth) c.args.depth c.args.tokens.now) _ c.in_err-so_far.ensures.gives)

pub level_at-operators-init : goal.level_at-operators-init
level_at-operators-init t c = record {
  gives = climbs_from (read_at c.args.depth) c.args.depth c.args.level c.args.tokens.now (got c.in_ok-so_far.so_far) c.in_ok-so_far.ensures.gives;
  fits = c.in_ok-so_far.ensures.fits;
}

pub level_at-operators-smaller : goal.level_at-operators-smaller
level_at-operators-smaller t c =
    let found = c.in-Some.ensures in
    joined_shortens (read_at c.args.depth) c.args.depth (read_shortens c.args.depth) c.in-Some.next (got c.operators.so_far) (got c.in_ok-so_far-2.so_far) found.2 c.in_ok-so_far-2.ensures.gives

pub level_at-operators-preserved : goal.level_at-operators-preserved
level_at-operators-preserved t c =
    let found = c.in-Some.ensures in
    let same = repeat_further rest_of (goes_on_at (suc c.in-Some.next)) (joined (read_at c.args.depth) c.args.depth c.in-Some.next)
    (joined_shortens (read_at c.args.depth) c.args.depth (read_shortens c.args.depth) c.in-Some.next) (got c.operators.so_far)
    (got c.in_ok-so_far-2.so_far) found.2 c.in_ok-so_far-2.ensures.gives in
    record {
      gives = c.operators.invariant.gives ∙ climbs_read (read_at c.args.depth) c.args.depth c.args.level c.operators.below c.in-Some.next (got c.operators.so_far)
          (got c.in_ok-so_far-2.so_far) found.0 found.1 found.3 same;
      fits = c.in_ok-so_far-2.ensures.fits;
    }

pub level_at-returns-in_err-so_far-2-clause-gives : goal.level_at-returns-in_err-so_far-2-clause-gives
level_at-returns-in_err-so_far-2-clause-gives t c =
    let found = c.in-Some.ensures in
    let p = err_from_is_err_and c.from_residual-in_err-so_far-2.result c.from_residual-in_err-so_far-2.ensures.1 in
    let fails = repeat_fails rest_of (goes_on_at (suc c.in-Some.next)) (joined (read_at c.args.depth) c.args.depth c.in-Some.next) c.in_err-so_far-2.field-0.0
    (length c.operators.so_far.rest.now) (got c.operators.so_far) found.2 c.in_err-so_far-2.ensures.gives in
    rw (
      p.1,
      p.2,
      c.operators.invariant.gives,
      climbs_on (read_at c.args.depth) c.args.depth c.args.level c.operators.below c.in-Some.next
          (got c.operators.so_far) found.0 found.1 found.3,
    ) (fails_on c.in_err-so_far-2.field-0.0 _ _ fails)

pub level_at-returns-clause-gives : goal.level_at-returns-clause-gives
level_at-returns-clause-gives t c = c.operators.invariant.gives ∙ climbs_to (read_at c.args.depth) c.args.depth c.args.level c.operators.below (got c.operators.so_far) c.in_default.ensures

pub read-returns-then-depth-eq0-clause-gives : goal.read-returns-then-depth-eq0-clause-gives
unfolding read_at
read-returns-then-depth-eq0-clause-gives t c = rw c.if-depth-eq0.true refl

pub read-returns-in-None-clause-gives : goal.read-returns-in-None-clause-gives
read-returns-in-None-clause-gives t c = rw (read_over c.args.depth (omega (arith, c.if-depth-eq0.false)) c.args.rule c.args.tokens.now) c.by_rule_at.ensures.gives

pub read-returns-in-Some-clause-gives : goal.read-returns-in-Some-clause-gives
read-returns-in-Some-clause-gives t c = rw (read_over c.args.depth (omega (arith, c.if-depth-eq0.false)) c.args.rule c.args.tokens.now) (c.in-Some.ensures.gives (c.args.depth - 1))

pub operand_at-returns-in-Some-clause-gives : goal.operand_at-returns-in-Some-clause-gives
unfolding chain
operand_at-returns-in-Some-clause-gives t c = c.in-Some.ensures.gives c.args.depth
