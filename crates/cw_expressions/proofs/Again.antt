-- What derives a tree is read as that tree, or nests too deep: the parts that all rules have in common.
use Rattle.std.proofs.Common.{◌≡◌, ℕ, zero, suc, ◌+◌, ◌<◌, ◌≤◌, max, Bool, true, false, ltb, List, [], ◌∷◌, ◌++◌, length, Result, Ok, Err, refl, sym, ◌∙◌, arith, inl, inr}
use Rattle.std.specs.Prelude.{◌⊎◌}
use Rattle.std.proofs.lemmas.Bool.{ltb-true, false≢true}
use Rattle.cw_syntax.specs.declared.program.Op.{Op}
use Rattle.cw_syntax.specs.Trees.{Tree}
use Rattle.cw_grammar.specs.declared.terminals.Lexeme.{Lexeme}
use Rattle.cw_grammar.specs.declared.rules.Rule.{Rule}
use Rattle.cw_grammar.specs.declared.rules.Rule.TheVariants.{Expression, Level, Unary, Postfix}
use Rattle.cw_grammar.specs.Lexemes.{from_of, to_of}
use Rattle.cw_grammar.specs.Expressions.{node}
use Rattle.cw_expressions.specs.declared.refusal.Refusal.{Refusal}
use Rattle.cw_expressions.specs.declared.refusal.Refusal.TheVariants.{TooDeep}
use Rattle.cw_expressions.specs.Cursor.{◌>>=◌, repeat}
use Rattle.cw_expressions.specs.Reading.{Got, Read, rest_of, built, above}
use Rattle.cw_expressions.proofs.Steps.{from_of_append, to_of_cons, to_of_append}
use Rattle.cw_expressions.proofs.Repeat.{repeat_ends, repeat_goes}

-- a tree of these tokens, read before the rest
abbrev pub state : Tree → Bool → ℕ → List Lexeme → List Lexeme → Got
state e flag depth ts rest = record { tree = e; unary = flag; depth = depth; from = from_of ts; to = to_of ts; rest = rest }

-- read as that tree, with no more nesting, and as a unary where that is wanted
pub record ReadAs (m : ℕ) (wanted : Bool) (r : Read) (ts : List Lexeme) (e : Tree) (rest : List Lexeme) : Type 0 where
  pub depth : ℕ
  pub flag : Bool
  pub fits : depth ≤ m
  pub unary : wanted ≡ true → flag ≡ true
  pub is : r ≡ Ok (state e flag depth ts rest)

abbrev pub NestsTooDeep : {A : Type 0} → (limit m : ℕ) → Result A Refusal → Type 0
NestsTooDeep limit m r = (limit < m) × (r ≡ Err TooDeep)

abbrev pub Again : (limit m : ℕ) → Bool → Read → List Lexeme → Tree → List Lexeme → Type 0
Again limit m wanted r ts e rest = ReadAs m wanted r ts e rest ⊎ NestsTooDeep limit m r

abbrev pub wants_unary : Rule → Bool
wants_unary Expression = false
wants_unary (Level l) = false
wants_unary Unary = true
wants_unary Postfix = true

pub unwanted : (limit m : ℕ) (wanted : Bool) (r : Read) (ts : List Lexeme) (e : Tree) (rest : List Lexeme) → Again limit m wanted r ts e rest → Again limit m false r ts e rest
unwanted limit m wanted r ts e rest (inl h) = inl (record { depth = h.depth; flag = h.flag; fits = h.fits; unary = λ u. absurd (false≢true u); is = h.is })
unwanted limit m wanted r ts e rest (inr h) = inr h

abbrev ok : Got → Read
ok x = Ok x

pub built_is : (o : Op) (parts : List Tree) (flag : Bool) (depth from to : ℕ) (ts rest : List Lexeme) (e : Tree) → from ≡ from_of ts → to ≡ to_of ts → e ≡ node o parts ts
    → ok (built o parts flag depth from to rest) ≡ ok (state e flag depth ts rest)
built_is o parts flag depth from to ts rest e p q s = rw (p, q, s) refl

-- one part, behind other tokens
pub over_again : (n m : ℕ) (r : Read) (o : Op) (flag wanted : Bool) (a b rest : List Lexeme) (x : Tree) (from : ℕ) → 0 < length b → from ≡ from_of (a ++ b)
    → Again n m wanted r b x rest → (e : Tree) → e ≡ node o (x ∷ []) (a ++ b)
    → Again (suc n) (suc m) flag (r >>= λ y. Ok (built o (y.tree ∷ []) flag (y.depth + 1) from y.to y.rest)) (a ++ b) e rest
over_again n m r o flag wanted a b rest x from some begin (inl h) e same =
    let p = h.fits in
    inl (record {
      depth = h.depth + 1;
      flag = flag;
      fits = omega arith;
      unary = λ u. u;
      is = rw h.is (built_is o (x ∷ []) flag (h.depth + 1) from (to_of b) (a ++ b) rest e begin (sym (to_of_append a b some)) same);
    })
over_again n m r o flag wanted a b rest x from some begin (inr h) e same = let p = h.0 in inr (omega arith, rw h.1 refl)

-- two parts with a token between them
pub pair_again : (n m d : ℕ) (r : Read) (o : Op) (wanted : Bool) (a : List Lexeme) (t : Lexeme) (b rest : List Lexeme) (x y : Tree) → 0 < length a → 0 < length b → d ≤ m
    → Again n m wanted r b y rest → (e : Tree) → e ≡ node o (x ∷ y ∷ []) (a ++ t ∷ b)
    → Again (suc n) (suc m) false (r >>= λ z. above n (max d z.depth) (built o (x ∷ z.tree ∷ []) false (max d z.depth + 1) (from_of a) z.to z.rest)) (a ++ t ∷ b) e rest
pair_again n m d r o wanted a t b rest x y first second le (inr h) e same = let p = h.0 in inr (omega arith, rw h.1 refl)
pair_again n m d r o wanted a t b rest x y first second le (inl h) e same = by_test (ltb n (max d h.depth)) refl where
  by_test : (deep : Bool) → ltb n (max d h.depth) ≡ deep
      → Again (suc n) (suc m) false (r >>= λ z. above n (max d z.depth) (built o (x ∷ z.tree ∷ []) false (max d z.depth + 1) (from_of a) z.to z.rest)) (a ++ t ∷ b) e rest
  by_test true test =
      let p = h.fits in
      let q = ltb-true n (max d h.depth) test in
      inr (omega arith, rw (h.is, test) refl)
  by_test false test =
      let p = h.fits in
      inl (record {
        depth = max d h.depth + 1;
        flag = false;
        fits = omega arith;
        unary = λ u. u;
        is = rw (h.is, test) (built_is o (x ∷ y ∷ []) false (max d h.depth + 1) (from_of a) (to_of b) (a ++ t ∷ b) rest e (sym (from_of_append a (t ∷ b) first))
            (sym (to_of_append a (t ∷ b) (omega arith) ∙ to_of_cons t b second)) same);
      })

-- ---- loops

-- reading comes to the loop behind the tree
pub record Arrived (m : ℕ) (wanted : Bool) (goes : List Lexeme → Bool) (step : Got → Read) (r : Read) (ts : List Lexeme) (e : Tree) (rest : List Lexeme) : Type 0 where
  pub depth : ℕ
  pub flag : Bool
  pub fuel : ℕ
  pub fits : depth ≤ m
  pub enough : length rest < fuel
  pub unary : wanted ≡ true → flag ≡ true
  pub is : r ≡ repeat rest_of goes step fuel (state e flag depth ts rest)

abbrev pub Arrives : (limit m : ℕ) → Bool → (List Lexeme → Bool) → (Got → Read) → Read → List Lexeme → Tree → List Lexeme → Type 0
Arrives limit m wanted goes step r ts e rest = Arrived m wanted goes step r ts e rest ⊎ NestsTooDeep limit m r

module _ (limit : ℕ) (wanted : Bool) (goes : List Lexeme → Bool) (step : Got → Read) where
  pub loop_starts : (m : ℕ) (r : Read) (ts : List Lexeme) (e : Tree) (rest : List Lexeme) → Again limit m wanted r ts e rest
      → Arrives limit m wanted goes step (r >>= λ x. repeat rest_of goes step (suc (length x.rest)) x) ts e rest
  loop_starts m r ts e rest (inl h) = inl (record { depth = h.depth; flag = h.flag; fuel = suc (length rest); fits = h.fits; enough = omega arith; unary = h.unary; is = rw h.is refl })
  loop_starts m r ts e rest (inr h) = inr (h.0, rw h.1 refl)

  pub loop_stops : (m : ℕ) (r : Read) (ts : List Lexeme) (e : Tree) (rest : List Lexeme) → Arrives limit m wanted goes step r ts e rest → goes rest ≡ false → Again limit m wanted r ts e rest
  loop_stops m r ts e rest (inr h) stop = inr h
  loop_stops m r ts e rest (inl h) stop = inl (record { depth = h.depth; flag = h.flag; fits = h.fits; unary = h.unary; is = h.is ∙ by_fuel h.fuel h.enough }) where
    by_fuel : (k : ℕ) → length rest < k → repeat rest_of goes step k (state e h.flag h.depth ts rest) ≡ Ok (state e h.flag h.depth ts rest)
    by_fuel zero lt = absurd (omega arith)
    by_fuel (suc k) lt = repeat_ends rest_of goes step k (state e h.flag h.depth ts rest) stop

  pub loop_steps : (m : ℕ) (r : Read) (a : List Lexeme) (x : Tree) (mid ts : List Lexeme) (e : Tree) (rest : List Lexeme)
      → Arrives limit m wanted goes step r a x mid → goes mid ≡ true → length rest < length mid
      → ((flag : Bool) (d : ℕ) → d ≤ m → Again limit (suc m) wanted (step (state x flag d a mid)) ts e rest)
      → Arrives limit (suc m) wanted goes step r ts e rest
  loop_steps m r a x mid ts e rest (inr h) go shorter f = let p = h.0 in inr (omega arith, h.1)
  loop_steps m r a x mid ts e rest (inl h) go shorter f = by_fuel h.fuel h.enough h.is where
    by_step : (k : ℕ) → length rest < k → r ≡ (step (state x h.flag h.depth a mid) >>= λ y. repeat rest_of goes step k y)
        → Again limit (suc m) wanted (step (state x h.flag h.depth a mid)) ts e rest → Arrives limit (suc m) wanted goes step r ts e rest
    by_step k lt is (inl s) = inl (record { depth = s.depth; flag = s.flag; fuel = k; fits = s.fits; enough = lt; unary = s.unary; is = is ∙ rw s.is refl })
    by_step k lt is (inr s) = inr (s.0, is ∙ rw s.1 refl)

    by_fuel : (k : ℕ) → length mid < k → r ≡ repeat rest_of goes step k (state x h.flag h.depth a mid) → Arrives limit (suc m) wanted goes step r ts e rest
    by_fuel zero lt is = absurd (omega arith)
    by_fuel (suc k) lt is = by_step k (omega arith) (is ∙ repeat_goes rest_of goes step k (state x h.flag h.depth a mid) go) (f h.flag h.depth h.fits)
