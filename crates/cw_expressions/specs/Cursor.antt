-- Working definitions: reading tokens from left to right, on lists, by the steps that all readers take.
use Rattle.std.specs.Prelude.{◌≡◌, ℕ, zero, suc, Bool, false, Option, Some, None, List, [], ◌∷◌, Result, Ok, Err, if◌then◌else◌}
use Rattle.cw_grammar.specs.declared.terminals.Terminal.{Terminal}
use Rattle.cw_grammar.specs.declared.terminals.Lexeme.{Lexeme}
use Rattle.cw_grammar.specs.Terminals.{same}
use Rattle.cw_expressions.specs.declared.refusal.Refusal.{Refusal}
use Rattle.cw_expressions.specs.declared.refusal.Refusal.TheVariants as refusal

infixl 10 ◌>>=◌
abbrev pub ◌>>=◌ : {A B : Type 0} → Result A Refusal → (A → Result B Refusal) → Result B Refusal
(Ok x) >>= f = f x
(Err e) >>= f = Err e

abbrev pub Fails : {Y : Type 0} → Refusal → Result Y Refusal → Type 0
Fails refusal.NoMemory read = Unit {0}
Fails refusal.Syntax read = read ≡ Err refusal.Syntax
Fails refusal.TooDeep read = read ≡ Err refusal.TooDeep

-- What a function returned, seen by view, is what reading gives, unless memory ran out.
abbrev pub Gives : {X Y : Type 0} → (X → Y) → Result X Refusal → Result Y Refusal → Type 0
Gives view (Ok x) read = read ≡ Ok (view x)
Gives view (Err e) read = Fails e read

abbrev pub begins : Terminal → List Lexeme → Bool
begins terminal [] = false
begins terminal (t ∷ ts) = same t.terminal terminal

abbrev pub after : List Lexeme → List Lexeme
after [] = []
after (t ∷ ts) = ts

-- the token at the front
abbrev pub first : List Lexeme → Result (Lexeme × List Lexeme) Refusal
first [] = Err refusal.Syntax
first (t ∷ ts) = Ok (t, ts)

abbrev pub known : {X : Type 0} → Option X → Result X Refusal
known None = Err refusal.Syntax
known (Some x) = Ok x

-- the token of this kind at the front
unfoldable pub expect : Terminal → List Lexeme → Result (Lexeme × List Lexeme) Refusal
expect terminal [] = Err refusal.Syntax
expect terminal (t ∷ ts) = if same t.terminal terminal then Ok (t, ts) else Err refusal.Syntax

-- what a step goes on with as long as tokens of some kind are next
unfoldable pub repeat : {S : Type 0} → (S → List Lexeme) → (List Lexeme → Bool) → (S → Result S Refusal) → ℕ → S → Result S Refusal
repeat rest goes step zero x = Err refusal.Syntax
repeat rest goes step (suc k) x = if goes (rest x) then (step x >>= λ y. repeat rest goes step k y) else Ok x
