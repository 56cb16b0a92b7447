-- The tokens of a source in which some are those of calls that aren't waited for, and those of its form.
use Rattle.std.specs.Prelude.{◌≡◌, ℕ, ◌+◌, List, [], ◌∷◌, ◌++◌, map, codes}
use Rattle.cw_syntax.specs.Names.{slice}
use Rattle.cw_grammar.specs.declared.terminals.Terminal.TheVariants as w
use Rattle.cw_grammar.specs.declared.terminals.Lexeme.{Lexeme}
use Rattle.cw_grammar.specs.Lexemes.{Is}
use Rattle.cw_forms.specs.Moved.{moved, IsKept, AreKept}

-- A token that is kept, or those of a statement `f(..);` that gets the two texts: its first, those between, its `;`.
pub data Stretch : Type 0 where
  Keeps : Lexeme → Stretch
  Calls : Lexeme → List Lexeme → Lexeme → Stretch

abbrev pub call_tokens : Lexeme → List Lexeme → Lexeme → List Lexeme
call_tokens t ys c = t ∷ (ys ++ c ∷ [])

-- the tokens of the source
abbrev pub lefts : List Stretch → List Lexeme
lefts [] = []
lefts (Keeps t ∷ ps) = t ∷ lefts ps
lefts (Calls t ys c ∷ ps) = call_tokens t ys c ++ lefts ps

-- the tokens of `{if(!fork()){` at a place
abbrev pub opening : ℕ → List Lexeme
opening p =
    record { terminal = w.OpenBrace; from = p; to = p + 1 }
    ∷ record { terminal = w.If; from = p + 1; to = p + 1 + 2 }
    ∷ record { terminal = w.Open; from = p + 1 + 2; to = p + 1 + 2 + 1 }
    ∷ record { terminal = w.Exclamation; from = p + 1 + 2 + 1; to = p + 1 + 2 + 1 + 1 }
    ∷ record { terminal = w.Name; from = p + 1 + 2 + 1 + 1; to = p + 1 + 2 + 1 + 1 + 4 }
    ∷ record { terminal = w.Open; from = p + 1 + 2 + 1 + 1 + 4; to = p + 1 + 2 + 1 + 1 + 4 + 1 }
    ∷ record { terminal = w.Close; from = p + 1 + 2 + 1 + 1 + 4 + 1; to = p + 1 + 2 + 1 + 1 + 4 + 1 + 1 }
    ∷ record { terminal = w.Close; from = p + 1 + 2 + 1 + 1 + 4 + 1 + 1; to = p + 1 + 2 + 1 + 1 + 4 + 1 + 1 + 1 }
    ∷ record { terminal = w.OpenBrace; from = p + 1 + 2 + 1 + 1 + 4 + 1 + 1 + 1; to = p + 1 + 2 + 1 + 1 + 4 + 1 + 1 + 1 + 1 }
    ∷ []

-- those of `_exit(0);for(;;);}}`
abbrev pub closed : ℕ → List Lexeme
closed p =
    record { terminal = w.Name; from = p; to = p + 5 }
    ∷ record { terminal = w.Open; from = p + 5; to = p + 5 + 1 }
    ∷ record { terminal = w.Number 0; from = p + 5 + 1; to = p + 5 + 1 + 1 }
    ∷ record { terminal = w.Close; from = p + 5 + 1 + 1; to = p + 5 + 1 + 1 + 1 }
    ∷ record { terminal = w.Semicolon; from = p + 5 + 1 + 1 + 1; to = p + 5 + 1 + 1 + 1 + 1 }
    ∷ record { terminal = w.For; from = p + 5 + 1 + 1 + 1 + 1; to = p + 5 + 1 + 1 + 1 + 1 + 3 }
    ∷ record { terminal = w.Open; from = p + 5 + 1 + 1 + 1 + 1 + 3; to = p + 5 + 1 + 1 + 1 + 1 + 3 + 1 }
    ∷ record { terminal = w.Semicolon; from = p + 5 + 1 + 1 + 1 + 1 + 3 + 1; to = p + 5 + 1 + 1 + 1 + 1 + 3 + 1 + 1 }
    ∷ record { terminal = w.Semicolon; from = p + 5 + 1 + 1 + 1 + 1 + 3 + 1 + 1; to = p + 5 + 1 + 1 + 1 + 1 + 3 + 1 + 1 + 1 }
    ∷ record { terminal = w.Close; from = p + 5 + 1 + 1 + 1 + 1 + 3 + 1 + 1 + 1; to = p + 5 + 1 + 1 + 1 + 1 + 3 + 1 + 1 + 1 + 1 }
    ∷ record { terminal = w.Semicolon; from = p + 5 + 1 + 1 + 1 + 1 + 3 + 1 + 1 + 1 + 1; to = p + 5 + 1 + 1 + 1 + 1 + 3 + 1 + 1 + 1 + 1 + 1 }
    ∷ record { terminal = w.CloseBrace; from = p + 5 + 1 + 1 + 1 + 1 + 3 + 1 + 1 + 1 + 1 + 1; to = p + 5 + 1 + 1 + 1 + 1 + 3 + 1 + 1 + 1 + 1 + 1 + 1 }
    ∷ record { terminal = w.CloseBrace; from = p + 5 + 1 + 1 + 1 + 1 + 3 + 1 + 1 + 1 + 1 + 1 + 1; to = p + 5 + 1 + 1 + 1 + 1 + 3 + 1 + 1 + 1 + 1 + 1 + 1 + 1 }
    ∷ []

-- the tokens of the form, where so many bytes were brought in before
abbrev pub rights : ℕ → List Stretch → List Lexeme
rights d [] = []
rights d (Keeps t ∷ ps) = moved d t ∷ rights d ps
rights d (Calls t ys c ∷ ps) = opening (t.from + d) ++ (map (moved (d + 13)) (call_tokens t ys c) ++ (closed (c.to + (d + 13)) ++ rights (d + 32) ps))

-- each of these statements ends in a `;`
abbrev pub AreEnded : List Stretch → Type 0
AreEnded [] = Unit {0}
AreEnded (Keeps t ∷ ps) = AreEnded ps
AreEnded (Calls t ys c ∷ ps) = Is w.Semicolon c × AreEnded ps

-- What is brought in at these places has its names.
abbrev pub IsBrought : List ℕ → (begin finish : ℕ) → Type 0
IsBrought form begin finish =
    (slice form (begin + 1 + 2 + 1 + 1) (begin + 1 + 2 + 1 + 1 + 4) ≡ codes "fork") × (slice form finish (finish + 5) ≡ codes "_exit")

-- The tokens that are kept have the same bytes in the form, and the names that are brought in are theirs.
abbrev pub AreSame : List ℕ → List ℕ → ℕ → List Stretch → Type 0
AreSame source form d [] = Unit {0}
AreSame source form d (Keeps t ∷ ps) = IsKept source form d t × AreSame source form d ps
AreSame source form d (Calls t ys c ∷ ps) =
    AreKept source form (d + 13) (call_tokens t ys c) × IsBrought form (t.from + d) (c.to + (d + 13)) × AreSame source form (d + 32) ps
