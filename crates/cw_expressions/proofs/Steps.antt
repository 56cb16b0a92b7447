-- One token after the other, both ways.
use Rattle.std.proofs.Common.{◌≡◌, ◌<◌, Bool, true, false, cond, List, [], ◌∷◌, ◌++◌, length, Option, Some, None, Result, Ok, Err, refl, arith}
use Rattle.std.specs.Prelude.{IfOk}
use Rattle.cw_grammar.specs.declared.terminals.Lexeme.{Lexeme}
use Rattle.cw_grammar.specs.declared.terminals.Terminal.{Terminal}
use Rattle.cw_grammar.specs.Terminals.{same}
use Rattle.cw_grammar.specs.Lexemes.{Is, from_of, to_of}
use Rattle.cw_grammar.proofs.SameTerminal.{is_plain, same-true, same-itself}
use Rattle.cw_expressions.specs.declared.refusal.Refusal.{Refusal}
use Rattle.cw_expressions.specs.declared.refusal.Refusal.TheVariants as refusal
use Rattle.cw_expressions.specs.Cursor.{◌>>=◌, begins, after, first, known, expect}

pub if_bind : {A B : Type 0} (r : Result A Refusal) (f : A → Result B Refusal) (P : A → Type 0) (Q : B → Type 0) → IfOk r P → ((x : A) → P x → IfOk (f x) Q) → IfOk (r >>= f) Q
if_bind (Ok x) f P Q h g = g x h
if_bind (Err e) f P Q h g = tt

pub if_cond : {A : Type 0} (b : Bool) (x y : Result A Refusal) (Q : A → Type 0) → (b ≡ true → IfOk x Q) → (b ≡ false → IfOk y Q) → IfOk (cond b x y) Q
if_cond true x y Q f g = f refl
if_cond false x y Q f g = g refl

pub known_is : {X : Type 0} (o : Option X) → IfOk (known o) (λ x. o ≡ Some x)
known_is None = tt
known_is (Some x) = refl

pub first_takes : (ts : List Lexeme) → IfOk (first ts) (λ x. ts ≡ x.0 ∷ x.1)
first_takes [] = tt
first_takes (t ∷ ts) = refl

-- a token of this kind, and the others
abbrev pub Takes : Terminal → List Lexeme → Lexeme × List Lexeme → Type 0
Takes terminal ts x = (ts ≡ x.0 ∷ x.1) × Is terminal x.0

pub expect_takes : (terminal : Terminal) → is_plain terminal ≡ true → (ts : List Lexeme) → IfOk (expect terminal ts) (Takes terminal ts)
unfolding expect
expect_takes terminal plain [] = tt
expect_takes terminal plain (t ∷ ts) = if_cond (same t.terminal terminal) (Ok (t, ts)) (Err refusal.Syntax) (Takes terminal (t ∷ ts)) (λ e. (refl, same-true t.terminal terminal plain e)) (λ e. tt)

pub expect_again : (terminal : Terminal) (t : Lexeme) (ts : List Lexeme) → Is terminal t → expect terminal (t ∷ ts) ≡ Ok (t, ts)
unfolding expect
expect_again terminal t ts is = rw (is, same-itself terminal) refl

pub begins_takes : (terminal : Terminal) → is_plain terminal ≡ true → (ts : List Lexeme) → begins terminal ts ≡ true → (t : Lexeme) × (ts ≡ t ∷ after ts) × Is terminal t
begins_takes terminal plain [] e = absurd (cc)
begins_takes terminal plain (t ∷ ts) e = (t, refl, same-true t.terminal terminal plain e)

pub begins_again : (terminal : Terminal) (t : Lexeme) (ts : List Lexeme) → Is terminal t → begins terminal (t ∷ ts) ≡ true
begins_again terminal t ts is = rw is (same-itself terminal)

-- ---- the first and the last token

pub from_of_append : (a b : List Lexeme) → 0 < length a → from_of (a ++ b) ≡ from_of a
from_of_append [] b some = absurd (omega arith)
from_of_append (t ∷ a) b some = refl

pub to_of_cons : (t : Lexeme) (ts : List Lexeme) → 0 < length ts → to_of (t ∷ ts) ≡ to_of ts
to_of_cons t [] some = absurd (omega arith)
to_of_cons t (u ∷ ts) some = refl

pub to_of_append : (a b : List Lexeme) → 0 < length b → to_of (a ++ b) ≡ to_of b
to_of_append [] b some = refl
to_of_append (t ∷ []) b some = to_of_cons t b some
to_of_append (t ∷ u ∷ a) b some = to_of_append (u ∷ a) b some
