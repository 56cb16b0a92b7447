-- What is read takes a token, so each loop ends.
use Rattle.std.proofs.Common.{◌≡◌, ℕ, zero, suc, ◌-◌, ◌<◌, ◌≤◌, max, ltb, List, [], ◌∷◌, length, Ok, Err, refl, ap, arith, length-append}
use Rattle.std.specs.Prelude.{IfOk}
use Rattle.std.proofs.lemmas.Result.{IfOk-at_ok}
use Rattle.cw_grammar.specs.declared.terminals.Lexeme.{Lexeme}
use Rattle.cw_grammar.specs.declared.terminals.Terminal.TheVariants as w
use Rattle.cw_grammar.specs.declared.rules.Rule.{Rule}
use Rattle.cw_grammar.specs.declared.rules.Rule.TheVariants.{Expression, Level}
use Rattle.cw_grammar.specs.Operators as operators
use Rattle.cw_expressions.specs.Cursor.{begins, after, first, known, expect}
use Rattle.cw_expressions.specs.Reading.{Got, Read, Arguments, rest_of, rest_of_arguments, goes_on_at, is_suffixed, argument, suffixed, joined, binary_at, by_rule, read_at}
use Rattle.cw_expressions.proofs.Steps.{if_bind, if_cond, known_is, first_takes, expect_takes}
use Rattle.cw_expressions.proofs.Repeat.{Shortens}
use Rattle.cw_expressions.proofs.Sound.{IsRead, read_sound}

abbrev pub ReadShortens : (Rule → List Lexeme → Read) → Type 0
ReadShortens read = (rule : Rule) (ts : List Lexeme) → IfOk (read rule ts) (λ x. length x.rest < length ts)

pub read_shortens : (n : ℕ) → ReadShortens (read_at n)
read_shortens n rule ts = by_result (read_at n rule ts) (read_sound n rule ts) where
  by_result : (r : Read) → IfOk r (IsRead n rule ts) → IfOk r (λ x. length x.rest < length ts)
  by_result (Ok x) f = let some = f.some in omega (arith, some, ap length f.parts, length-append f.front x.rest)
  by_result (Err e) f = tt

after_shorter : (ts : List Lexeme) → length (after ts) ≤ length ts
after_shorter [] = omega arith
after_shorter (t ∷ ts) = omega arith

module _ (read : Rule → List Lexeme → Read) (n : ℕ) (short : ReadShortens read) where
  joined_shorter : (below : ℕ) (x : Got) → IfOk (joined read n below x) (λ y. length y.rest < length x.rest)
  unfolding joined
  joined_shorter below x =
      if_bind (known (binary_at (suc below) x.rest)) _ _ _ (known_is (binary_at (suc below) x.rest)) (λ number is.
      if_bind (read (Level below) (after x.rest)) _ _ _ (short (Level below) (after x.rest)) (λ y s.
      if_cond (ltb n (max x.depth y.depth)) _ _ _ (λ e. tt) (λ e. omega (arith, s, after_shorter x.rest))))

  suffixed_shorter : (x : Got) → IfOk (suffixed read n x) (λ y. length y.rest < length x.rest)
  unfolding suffixed
  suffixed_shorter x =
      if_cond (begins w.OpenBracket x.rest) _ _ _
      (λ go.
      if_bind (read Expression (after x.rest)) _ _ _ (short Expression (after x.rest)) (λ y s.
      if_bind (expect w.CloseBracket y.rest) _ _ _ (expect_takes w.CloseBracket refl y.rest) (λ c q.
      if_cond (ltb n (max x.depth y.depth)) _ _ _ (λ e. tt) (λ e. omega (arith, s, after_shorter x.rest, ap length q.0)))))
      (λ go.
      if_bind (first x.rest) _ _ _ (first_takes x.rest) (λ t q.
      if_bind (known (operators.suffix t.0.terminal)) _ _ _ (known_is (operators.suffix t.0.terminal)) (λ number is.
      if_cond (ltb n x.depth) _ _ _ (λ e. tt) (λ e. omega (arith, ap length q)))))

  argument_shorter : (x : Arguments) → IfOk (argument read n x) (λ y. length y.rest < length x.rest)
  unfolding argument
  argument_shorter x = if_bind (read Expression (after x.rest)) _ _ _ (short Expression (after x.rest)) (λ y s. omega (arith, s, after_shorter x.rest))

  pub joined_shortens : (below : ℕ) → Shortens rest_of (goes_on_at (suc below)) (joined read n below)
  joined_shortens below x y go e = IfOk-at_ok (λ (z : Got). length z.rest < length x.rest) e (joined_shorter below x)

  pub suffixed_shortens : Shortens rest_of is_suffixed (suffixed read n)
  suffixed_shortens x y go e = IfOk-at_ok (λ (z : Got). length z.rest < length x.rest) e (suffixed_shorter x)

  pub argument_shortens : Shortens rest_of_arguments (begins w.Comma) (argument read n)
  argument_shortens x y go e = IfOk-at_ok (λ (z : Arguments). length z.rest < length x.rest) e (argument_shorter x)

pub read_over : (n : ℕ) → 0 < n → (rule : Rule) (ts : List Lexeme) → read_at n rule ts ≡ by_rule (read_at (n - 1)) (n - 1) rule ts
unfolding read_at
read_over zero lt rule ts = absurd (omega arith)
read_over (suc n) lt rule ts = let e : suc n - 1 ≡ n = omega arith in rw e refl
