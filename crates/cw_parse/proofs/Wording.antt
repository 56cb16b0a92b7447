-- Tokens by their terminals, and what stands next.
use Rattle.std.proofs.Common.{◌≡◌, ℕ, zero, suc, ◌<◌, Bool, true, false, List, [], ◌∷◌, ◌++◌, length, replicate, Ok, Err, refl, arith}
use Rattle.std.proofs.lemmas.Bool.{false≢true}
use Rattle.cw_syntax.specs.declared.program.Base.{Base}
use Rattle.cw_syntax.specs.declared.program.Base.TheVariants as base
use Rattle.cw_grammar.specs.declared.terminals.Lexeme.{Lexeme}
use Rattle.cw_grammar.specs.declared.terminals.Terminal.{Terminal}
use Rattle.cw_grammar.specs.declared.terminals.Terminal.TheVariants as w
use Rattle.cw_grammar.specs.Terminals.{same}
use Rattle.cw_grammar.specs.Lexemes.{Is, from_of, IsFlag}
use Rattle.cw_grammar.specs.Types.{IsType, AreStars}
use Rattle.cw_expressions.specs.declared.refusal.Refusal.TheVariants as refusal
use Rattle.cw_expressions.specs.Cursor.{begins, first}
use Rattle.cw_expressions.specs.Next.{ends, IsEnd}
use Rattle.cw_expressions.specs.TypeReading.{skip, Based, based, unsigned_base, base_of}
use Rattle.cw_expressions.proofs.Follows.{Starts}
use Rattle.cw_expressions.proofs.TypesComplete.{base_is}
use Rattle.cw_parse.specs.DeclarationReading.{flag}
use Rattle.cw_grammar.proofs.Wording.{first_terminal as first_token, no_terminals as no_tokens, one_terminal as one_token}

pub flag_again : (terminal : Terminal) (b : Bool) (a ts : List Lexeme) → IsFlag terminal a b → ((t : Lexeme) → Is terminal t → same t.terminal terminal ≡ true) → begins terminal ts ≡ false → flag terminal (a ++ ts) ≡ (b, ts)
flag_again terminal true a ts h yes_terminal e = let p = one_token a terminal h in rw (p.1, yes_terminal p.0 p.2) refl
flag_again terminal false a ts h yes_terminal e = rw (h, e) refl

pub first_again : (a rest : List Lexeme) → 0 < length a → (t : Lexeme) × (u : List Lexeme) × (first (a ++ rest) ≡ Ok (t, u)) × (t.from ≡ from_of a)
first_again [] rest some = absurd (omega arith)
first_again (t ∷ a) rest some = (t, a ++ rest, refl, refl)

-- a terminal that goes on with the tokens of a declared name
abbrev pub starts_declarator : Terminal → Bool
starts_declarator w.Star = true
starts_declarator w.Name = true
starts_declarator _ = false

-- a terminal that is the end of a declared name
abbrev pub ends_item : Terminal → Bool
ends_item w.Comma = true
ends_item w.Semicolon = true
ends_item _ = false

abbrev pub ends_element : Terminal → Bool
ends_element w.Comma = true
ends_element w.CloseBrace = true
ends_element _ = false

abbrev pub ends_param : Terminal → Bool
ends_param w.Comma = true
ends_param w.Close = true
ends_param _ = false

-- a terminal behind a parameter's name
abbrev pub follows_name : Terminal → Bool
follows_name w.OpenBracket = true
follows_name w.Comma = true
follows_name w.Close = true
follows_name _ = false

starts_end : (f : Terminal → Bool) → ((terminal : Terminal) → f terminal ≡ true → ends terminal ≡ true) → (rest : List Lexeme) → Starts f rest → IsEnd rest
starts_end f wider [] h = absurd h
starts_end f wider (t ∷ ts) h = wider t.terminal h

pub item_end : (rest : List Lexeme) → Starts ends_item rest → IsEnd rest
item_end rest h = starts_end ends_item by_terminal rest h where
  by_terminal : (terminal : Terminal) → ends_item terminal ≡ true → ends terminal ≡ true
  by_terminal w.Comma e = refl
  by_terminal w.Semicolon e = refl
  by_terminal _ e = absurd (false≢true e)

pub element_end : (rest : List Lexeme) → Starts ends_element rest → IsEnd rest
element_end rest h = starts_end ends_element by_terminal rest h where
  by_terminal : (terminal : Terminal) → ends_element terminal ≡ true → ends terminal ≡ true
  by_terminal w.Comma e = refl
  by_terminal w.CloseBrace e = refl
  by_terminal _ e = absurd (false≢true e)

pub param_follows : (rest : List Lexeme) → Starts ends_param rest → Starts follows_name rest
param_follows [] h = absurd h
param_follows (t ∷ ts) h = by_terminal t.terminal h where
  by_terminal : (terminal : Terminal) → ends_param terminal ≡ true → follows_name terminal ≡ true
  by_terminal w.Comma e = refl
  by_terminal w.Close e = refl
  by_terminal _ e = absurd (false≢true e)

-- ---- types

abbrev continues_base : Terminal → Bool
continues_base w.Char = true
continues_base w.Int = true
continues_base w.Long = true
continues_base _ = false

declarator_stops : (terminal : Terminal) → starts_declarator terminal ≡ true → continues_base terminal ≡ false
declarator_stops w.Star e = refl
declarator_stops w.Name e = refl
declarator_stops _ e = absurd (false≢true e)

pub base_again : (a rest : List Lexeme) (b : Base) (unsigned : Bool) → IsType a b unsigned → Starts starts_declarator rest → base_of (a ++ rest) ≡ based b unsigned rest
base_again a [] b unsigned h stop = absurd stop
base_again a (t ∷ ts) b unsigned h stop = base_is a (t ∷ ts) b unsigned (declarator_stops t.terminal stop) h

-- a terminal that begins a type without `const`
abbrev pub starts_base : Terminal → Bool
starts_base w.Void = true
starts_base w.Char = true
starts_base w.Int = true
starts_base w.Long = true
starts_base w.Unsigned = true
starts_base _ = false

based_starts : (ts : List Lexeme) (x : (Base × Bool) × List Lexeme) → base_of ts ≡ Ok x → Starts starts_base ts
unfolding base_of
based_starts [] x e = absurd (cc)
based_starts (t ∷ ts) x e = by_terminal t.terminal e where
  by_terminal : (terminal : Terminal) → elim terminal as (λ z. Based) [
    | w.Void ↦ based base.Void false ts
    | w.Char ↦ based base.Char false ts
    | w.Int ↦ based base.Int false ts
    | w.Long ↦ based
        base.Long false (skip w.Int ts)
    | w.Unsigned ↦ unsigned_base ts
    | _ ↦ Err refusal.Syntax
  ] ≡ Ok x → starts_base terminal ≡ true
  by_terminal w.Void f = refl
  by_terminal w.Char f = refl
  by_terminal w.Int f = refl
  by_terminal w.Long f = refl
  by_terminal w.Unsigned f = refl
  by_terminal _ f = absurd (cc)

pub type_starts : (a rest : List Lexeme) (b : Base) (unsigned : Bool) → IsType a b unsigned → Starts starts_declarator rest → Starts starts_base (a ++ rest)
type_starts a rest b unsigned h stop = based_starts (a ++ rest) ((b, unsigned), rest) (base_again a rest b unsigned h stop)

-- ---- stars

pub stars_start : (n : ℕ) (a rest : List Lexeme) → AreStars a n → Starts starts_declarator rest → Starts starts_declarator (a ++ rest)
stars_start zero a rest h e = rw (no_tokens a h.1) e
stars_start (suc n) a rest h e = let p = first_token a w.Star (replicate n w.Star) h.1 in rw (p.2, p.3) refl
