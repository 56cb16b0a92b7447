use Rattle.std.proofs.Common.{sym, ◌∙◌, ap, eqb-true, arith, inl, inr}
use Rattle.cw_core.specs.Numerals.{hexadecimal_digits}
use Rattle.cw_core.proofs.Decimals.{positive}
use Rattle.cw_core.proofs.Hexadecimals.{not_empty, no_needless_zero, not_long, hexadecimal_digits-digits_value}
use Rattle.cw_core.proofs.hexadecimal.set_of.Goals as goal

pub returns-then-is_empty-clause-none : goal.returns-then-is_empty-clause-none
returns-then-is_empty-clause-none c = λ set _. not_empty c.args.digits.now set (eqb-true _ 0 (sym c.if-is_empty.ensures))

pub returns-then-digits-gt256-clause-none : goal.returns-then-digits-gt256-clause-none
returns-then-digits-gt256-clause-none c = λ set below. not_long c.args.digits.now set below c.if-digits-gt256.true

pub returns-then-digits-gt1-clause-none : goal.returns-then-digits-gt1-clause-none
returns-then-digits-gt1-clause-none c = λ set _. no_needless_zero c.args.digits.now set c.if-digits-eq48.true c.if-digits-gt1.true

pub returns-clause-some : goal.returns-clause-some
returns-clause-some c =
    let some = positive c.args.digits.now (sym c.if-is_empty.ensures) in (
      ap hexadecimal_digits c.sum_of-set.ensures.sum ∙ hexadecimal_digits-digits_value c.args.digits.now c.requires.digits some (λ zero. elim c.else-digits-eq48.either [ inl p ↦ omega (arith, p.1, some) | inr differs ↦ absurd (differs zero) ]),
      c.fact_members_are_below_1024.ensures.below,
    )
