use Rattle.std.proofs.Common.{refl, drop, ◌+◌}
use Rattle.cw_core.specs.Numerals.{is_hexadecimal_digit}
use Rattle.std.proofs.lemmas.Bool.{true≢false}
use Rattle.cw_core.proofs.Texts.{set_at, end_of, same_set, no_prefix, no_set}
use Rattle.cw_lemmas.proofs.Lists.{all_taken as list_all-take_while}
use Rattle.cw_core.proofs.hexadecimal.read_hex.Goals as goal

pub returns-in_err-digits-clause-found : goal.returns-in_err-digits-clause-found
returns-in_err-digits-clause-found c = λ set h. absurd (no_prefix c.args.text.now c.args.at c.in_err-digits.ensures.none set h)

pub returns-in_err-digits-clause-none : goal.returns-in_err-digits-clause-none
returns-in_err-digits-clause-none c = rw c.from_residual.ensures ((λ _. no_prefix c.args.text.now c.args.at c.in_err-digits.ensures.none), λ _. refl)

pub set_of-requires : goal.set_of-requires
set_of-requires c = record { digits = rw c.in_ok-digits.ensures.run (list_all-take_while is_hexadecimal_digit (drop (c.args.at + 2) c.args.text.now)) }

pub returns-in_err-set-clause-found : goal.returns-in_err-set-clause-found
returns-in_err-set-clause-found c = λ set h. absurd (no_set c.args.text.now c.args.at c.in_ok-digits.digits.now c.in_ok-digits.ensures.run c.in_err-set.ensures.none set h)

pub returns-in_err-set-clause-none : goal.returns-in_err-set-clause-none
returns-in_err-set-clause-none c = rw c.from_residual-in_err-set.ensures ((λ _. no_set c.args.text.now c.args.at c.in_ok-digits.digits.now c.in_ok-digits.ensures.run c.in_err-set.ensures.none), λ _. refl)

pub returns-clause-some : goal.returns-clause-some
returns-clause-some c = (
  set_at c.args.text.now c.args.at c.in_ok-set.set c.in_ok-digits.digits.now c.in_ok-digits.ensures.prefix c.in_ok-digits.ensures.run c.in_ok-set.ensures.some.0 c.in_ok-set.ensures.some.1,
  end_of c.args.at c.in_ok-set.set c.in_ok-digits.digits.now c.in_ok-set.ensures.some.0,
)

pub returns-clause-found : goal.returns-clause-found
returns-clause-found c = λ set h.
    let same = same_set c.args.text.now c.args.at c.in_ok-set.set set c.in_ok-digits.digits.now c.in_ok-digits.ensures.run c.in_ok-set.ensures.some.0 h in
    rw (end_of c.args.at c.in_ok-set.set c.in_ok-digits.digits.now c.in_ok-set.ensures.some.0, same) refl

pub returns-clause-none : goal.returns-clause-none
returns-clause-none c = (
  (λ e. absurd (true≢false e)),
  (λ none. absurd (none c.in_ok-set.set (set_at c.args.text.now c.args.at c.in_ok-set.set c.in_ok-digits.digits.now c.in_ok-digits.ensures.prefix c.in_ok-digits.ensures.run c.in_ok-set.ensures.some.0 c.in_ok-set.ensures.some.1))),
)
