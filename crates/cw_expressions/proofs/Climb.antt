-- Reading on from a level to looser ones.
use Rattle.std.proofs.Common.{◌≡◌, ℕ, zero, suc, ◌+◌, ◌-◌, ◌<◌, ◌≤◌, false, List, length, Ok, Err, refl, sym, ap, ◌∙◌, arith}
use Rattle.cw_grammar.specs.declared.terminals.Lexeme.{Lexeme}
use Rattle.cw_grammar.specs.declared.rules.Rule.{Rule}
use Rattle.cw_expressions.specs.declared.refusal.Refusal.{Refusal}
use Rattle.cw_expressions.specs.declared.refusal.Refusal.TheVariants as refusal
use Rattle.cw_expressions.specs.Cursor.{◌>>=◌, Fails, repeat}
use Rattle.cw_expressions.specs.Reading.{Got, Read, rest_of, goes_on_at, joined, operand, chain}
use Rattle.cw_expressions.proofs.Repeat.{repeat_ends}

bound_ok : (r : Read) → (r >>= λ x. Ok x) ≡ r
bound_ok (Ok x) = refl
bound_ok (Err e) = refl

bound_twice : (r : Read) (f g : Got → Read) → ((r >>= f) >>= g) ≡ (r >>= λ x. f x >>= g)
bound_twice (Ok x) f g = refl
bound_twice (Err e) f g = refl

pub fails_on : (e : Refusal) (r : Read) (f : Got → Read) → Fails e r → Fails e (r >>= f)
fails_on refusal.NoMemory r f h = tt
fails_on refusal.Syntax r f h = rw h refl
fails_on refusal.TooDeep r f h = rw h refl

-- no operator of the levels past below and up to level is next
abbrev pub Quiet : (below level : ℕ) → List Lexeme → Type 0
Quiet below level ts = (l : ℕ) → below < l → l ≤ level → goes_on_at l ts ≡ false

module _ (read : Rule → List Lexeme → Read) (limit : ℕ) where
  -- the operators of the level above this one, behind what was read
  abbrev pub joined_on : ℕ → Got → Read
  joined_on below x = repeat rest_of (goes_on_at (suc below)) (joined read limit below) (suc (length x.rest)) x

  -- those of so many levels above this one, level by level
  unfoldable pub climb : (more below : ℕ) → Got → Read
  climb zero below x = Ok x
  climb (suc more) below x = joined_on below x >>= λ y. climb more (suc below) y

  pub chain_climbs : (more below : ℕ) (ts : List Lexeme) → chain read limit (more + below) ts ≡ (chain read limit below ts >>= λ x. climb more below x)
  unfolding climb chain
  chain_climbs zero below ts = let e : 0 + below ≡ below = omega arith in rw e (sym (bound_ok (chain read limit below ts)))
  chain_climbs (suc more) below ts =
      let e : suc more + below ≡ more + suc below = omega arith in
      rw e (chain_climbs more (suc below) ts ∙ step below (λ y. climb more (suc below) y))
    where
      step : (below : ℕ) (g : Got → Read) → (chain read limit (suc below) ts >>= g) ≡ (chain read limit below ts >>= λ x. joined_on below x >>= g)
      step below g = bound_twice (chain read limit below ts) (λ x. joined_on below x) g

  -- from operands on
  pub climbs_up : (level : ℕ) (ts : List Lexeme) → chain read limit level ts ≡ (operand read limit ts >>= λ x. climb level 0 x)
  unfolding chain
  climbs_up level ts =
      let e : level ≡ level + 0 = omega arith in
      ap (λ n. chain read limit n ts) e ∙ chain_climbs level 0 ts

  -- over levels of which no operator is next
  climbs_over : (k more total below next : ℕ) (x : Got) → Quiet below next x.rest → next ≡ k + below → total ≡ k + more → climb total below x ≡ climb more next x
  unfolding climb
  climbs_over zero more total below next x quiet there all =
      let e : next ≡ below = omega arith in
      let f : total ≡ more = omega arith in
      cc
  climbs_over (suc k) more total below next x quiet there all =
      let f : total ≡ suc (k + more) = omega arith in
      let here : joined_on below x ≡ Ok x = repeat_ends rest_of (goes_on_at (suc below)) (joined read limit below) (length x.rest) x (quiet (suc below) (omega arith) (omega arith)) in
      rw f (ap (λ r. r >>= λ y. climb (k + more) (suc below) y) here
      ∙ climbs_over k more (k + more) (suc below) next x (λ l lower upper. quiet l (omega arith) upper) (omega arith) refl)

  pub climbs_to : (level below : ℕ) (x : Got) → Quiet below level x.rest → climb (level - below) below x ≡ Ok x
  unfolding climb
  climbs_to level below x quiet =
      climbs_over (level - below) 0 (level - below) below ((level - below) + below) x (λ l lower upper. quiet l lower (omega arith)) refl (omega arith)

  pub climbs_on : (level below next : ℕ) (x : Got) → below ≤ next → next < level → Quiet below next x.rest
      → climb (level - below) below x ≡ (joined_on next x >>= λ y. climb (level - (next + 1)) (next + 1) y)
  unfolding climb
  climbs_on level below next x past short quiet =
      let e : level - next ≡ suc (level - (next + 1)) = omega (arith, short) in
      let f : next + 1 ≡ suc next = omega arith in
      climbs_over (next - below) (level - next) (level - below) below next x quiet (omega arith) (omega arith) ∙ rw (e, f) refl

  -- where an operator is read, and the operand behind it
  pub climbs_read : (level below next : ℕ) (x y : Got) → below ≤ next → next < level → Quiet below next x.rest → joined_on next y ≡ joined_on next x
      → climb (level - below) below x ≡ climb (level - next) next y
  climbs_read level below next x y past short quiet same =
      climbs_on level below next x past short quiet
      ∙ ap (λ r. r >>= λ z. climb (level - (next + 1)) (next + 1) z) (sym same)
      ∙ sym (climbs_on level next next y (omega arith) short (λ l lower upper. absurd (omega arith)))

  pub climbs_from : (level : ℕ) (ts : List Lexeme) (x : Got) → operand read limit ts ≡ Ok x → chain read limit level ts ≡ climb (level - 0) 0 x
  climbs_from level ts x is =
      let e : level ≡ level - 0 = omega arith in
      climbs_up level ts ∙ ap (λ r. r >>= λ x. climb level 0 x) is ∙ ap (λ n. climb n 0 x) e
