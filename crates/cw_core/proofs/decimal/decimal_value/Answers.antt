use Rattle.std.proofs.Common.{sym, eqb-true, arith, inl, inr}
use Rattle.cw_core.proofs.Decimals.{not_empty, no_needless_zero, spells, spells_none, positive}
use Rattle.cw_core.proofs.decimal.decimal_value.Goals as goal

pub returns-then-is_empty-clause-none : goal.returns-then-is_empty-clause-none
returns-then-is_empty-clause-none c = λ number small. not_empty c.args.digits.now number small (eqb-true _ 0 (sym c.if-is_empty.ensures))

pub returns-then-digits-gt1-clause-none : goal.returns-then-digits-gt1-clause-none
returns-then-digits-gt1-clause-none c = λ number small. no_needless_zero c.args.digits.now number small c.if-digits-eq48.true c.if-digits-gt1.true

pub returns-clause-some : goal.returns-clause-some
returns-clause-some c =
    let some = positive c.args.digits.now (sym c.if-is_empty.ensures) in
    spells c.args.digits.now c.value_of.result c.requires.digits some (λ zero. elim c.else-digits-eq48.either [ inl p ↦ omega (arith, p.1, some) | inr differs ↦ absurd (differs zero) ]) c.value_of.ensures.some

pub returns-clause-none : goal.returns-clause-none
returns-clause-none c = spells_none c.args.digits.now c.value_of.result c.value_of.ensures.none
