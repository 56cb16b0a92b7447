-- What a reader took, and what it reads again: both ways in one shape for all readers.
use Rattle.std.proofs.Common.{◌≡◌, ◌≤◌, Bool, true, false, cond, List, ◌∷◌, ◌++◌, length, Result, Ok, Err, refl, sym, ap, ◌∙◌, append_assoc, arith, length-append, inl, inr}
use Rattle.std.specs.Prelude.{◌⊎◌}
use Rattle.cw_grammar.specs.declared.terminals.Lexeme.{Lexeme}
use Rattle.cw_grammar.specs.declared.terminals.Terminal.{Terminal}
use Rattle.cw_grammar.specs.Lexemes.{Is}
use Rattle.cw_expressions.specs.declared.refusal.Refusal.{Refusal}
use Rattle.cw_expressions.specs.declared.refusal.Refusal.TheVariants as refusal
use Rattle.cw_expressions.specs.Cursor.{◌>>=◌, expect}
use Rattle.cw_expressions.proofs.Steps.{expect_again}

-- what was read stands before the rest, and is such a thing
abbrev pub Took : {X : Type 0} → (List Lexeme → X → Type 0) → List Lexeme → X × List Lexeme → Type 0
Took P ts x = (a : List Lexeme) × (ts ≡ a ++ x.1) × P a x.0

-- this is what reading gives, or it nests too deep, which only where D holds
abbrev pub Reads : {A : Type 0} → (D : Type 0) → Result A Refusal → A → Type 0
Reads D r x = (r ≡ Ok x) ⊎ (D × (r ≡ Err refusal.TooDeep))

pub reads_bind : {A B : Type 0} (D : Type 0) (r : Result A Refusal) (f : A → Result B Refusal) (x : A) (y : B) → Reads D r x → Reads D (f x) y → Reads D (r >>= f) y
reads_bind D r f x y (inl e) (inl g) = inl (rw e g)
reads_bind D r f x y (inl e) (inr g) = inr (g.0, rw e g.1)
reads_bind D r f x y (inr e) g = inr (e.0, rw e.1 refl)

pub reads_then : {A : Type 0} (D : Type 0) (b : Bool) (x y : Result A Refusal) (z : A) → b ≡ true → Reads D x z → Reads D (cond b x y) z
reads_then D true x y z e h = h
reads_then D false x y z e h = absurd (cc)

pub reads_else : {A : Type 0} (D : Type 0) (b : Bool) (x y : Result A Refusal) (z : A) → b ≡ false → Reads D y z → Reads D (cond b x y) z
reads_else D true x y z e h = absurd (cc)
reads_else D false x y z e h = h

-- the same reading, of equal tokens
pub reads_of : {A : Type 0} (D : Type 0) (f : List Lexeme → Result A Refusal) (a b : List Lexeme) (x : A) → a ≡ b → Reads D (f b) x → Reads D (f a) x
reads_of D f a b x e h = rw e h

pub reads_expect : (D : Type 0) (terminal : Terminal) (t : Lexeme) (ts : List Lexeme) → Is terminal t → Reads D (expect terminal (t ∷ ts)) (t, ts)
reads_expect D terminal t ts is = inl (expect_again terminal t ts is)

-- one part behind another
pub joined : (ts a r b q : List Lexeme) → ts ≡ a ++ r → r ≡ b ++ q → ts ≡ (a ++ b) ++ q
joined ts a r b q e f = e ∙ ap (λ (z : List Lexeme). a ++ z) f ∙ sym (append_assoc a b q)

pub took_shorter : {X : Type 0} (P : List Lexeme → X → Type 0) (ts : List Lexeme) (x : X × List Lexeme) → Took P ts x → length x.1 ≤ length ts
took_shorter P ts x (a, parts, p) = omega (arith, ap length parts, length-append a x.1)
