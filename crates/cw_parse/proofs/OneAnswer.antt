-- The tokens of a source have one program, or one fault.
use Rattle.std.proofs.Common.{◌≡◌, ℕ, zero, suc, ◌+◌, ◌<◌, ◌≤◌, List, [], ◌∷◌, ◌++◌, length, take, drop, refl, sym, ap, subst, ◌∙◌, append_assoc, arith, inl, inr}
use Rattle.std.specs.Prelude.{◌≢◌, slice_get}
use Rattle.cw_syntax.specs.Trees.{File}
use Rattle.cw_lex.specs.declared.tokens.Token.{Token}
use Rattle.cw_grammar.specs.declared.terminals.Lexeme.{Lexeme}
use Rattle.cw_grammar.specs.Expressions.{nesting_limit}
use Rattle.cw_grammar.specs.Files.{IsOfGrammar, IsProgram}
use Rattle.cw_recogniser.specs.Language.{AreOfGrammar, IsFront}
use Rattle.cw_parse.specs.declared.fault.ParseFault.{ParseFault}
use Rattle.cw_parse.specs.declared.fault.ParseFault.TheVariants.{Syntax, TooDeep, NoMemory}
use Rattle.cw_parse.specs.Faults.{place_of, LeaveAt, IsFaultIn}

-- ---- the place where tokens leave the grammar is one

take_sooner : (ts : List Lexeme) (a b : ℕ) → a ≤ b → (rest : List Lexeme) × (take b ts ≡ take a ts ++ rest)
take_sooner ts zero b h = (take b ts, refl)
take_sooner [] (suc a) zero h = absurd (omega (arith, h))
take_sooner [] (suc a) (suc b) h = ([], refl)
take_sooner (t ∷ ts) (suc a) zero h = absurd (omega (arith, h))
take_sooner (t ∷ ts) (suc a) (suc b) h = let more = take_sooner ts a b (omega (arith, h)) in (more.0, ap (λ (z : List Lexeme). t ∷ z) more.1)

front_of_front : (xs ys : List Lexeme) → IsFront (xs ++ ys) → IsFront xs
unfolding IsFront
front_of_front xs ys (more, text) = (ys ++ more, subst (λ (z : List Lexeme). AreOfGrammar z) (append_assoc xs ys more) text)

module _ (ts : List Lexeme) where
  not_sooner : (a b : ℕ) → LeaveAt ts a → LeaveAt ts b → a < b → ⊥
  not_sooner a b p q lt =
      let more = take_sooner ts (a + 1) b (omega (arith, lt)) in
      let front : IsFront (take (a + 1) ts ++ more.0) = subst (λ (z : List Lexeme). IsFront z) more.1 q.front in
      p.first (let w = q.within in omega (arith, lt, w)) (front_of_front (take (a + 1) ts) more.0 front)

  one_place : (a b : ℕ) → LeaveAt ts a → LeaveAt ts b → a ≡ b
  one_place a b p q = let x = not_sooner a b p q in let y = not_sooner b a q p in omega (arith, x, y)

  of_grammar : (file : File) → IsProgram ts file → AreOfGrammar ts
  unfolding AreOfGrammar IsOfGrammar IsProgram
  of_grammar file h = (file, (nesting_limit, h))

  module _ (source : List ℕ) where
    pub one_fault : (fault another : ParseFault) → fault ≢ NoMemory → another ≢ NoMemory → IsFaultIn source ts fault → IsFaultIn source ts another → fault ≡ another
    one_fault (Syntax p) (Syntax q) h k (a, x, e) (b, y, f) = let same : a ≡ b = one_place a b x y in cc
    one_fault (Syntax p) TooDeep h k (a, x, e) y = absurd (x.no_text y.0)
    one_fault TooDeep (Syntax q) h k x (b, y, f) = absurd (y.no_text x.0)
    one_fault TooDeep TooDeep h k x y = refl
    one_fault NoMemory another h k x y = absurd (h refl)
    one_fault (Syntax p) NoMemory h k x y = absurd (k refl)
    one_fault TooDeep NoMemory h k x y = absurd (k refl)

    pub never_both : (file : File) (fault : ParseFault) → fault ≢ NoMemory → IsProgram ts file → IsFaultIn source ts fault → ⊥
    never_both file (Syntax p) other h (a, x, e) = x.no_text (of_grammar file h)
    never_both file TooDeep other h x = x.1 file h
    never_both file NoMemory other h x = other refl
