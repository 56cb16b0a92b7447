-- A type is read as that type.
use Rattle.std.proofs.Common.{◌≡◌, ℕ, zero, suc, Bool, true, false, List, [], ◌∷◌, ◌++◌, replicate, Ok, refl, sym, ap, ◌∙◌, append_assoc, arith, inl, inr}
use Rattle.std.proofs.lemmas.Bool.{false≢true}
use Rattle.cw_syntax.specs.declared.program.CType.{CType}
use Rattle.cw_syntax.specs.declared.program.Base.{Base}
use Rattle.cw_syntax.specs.declared.program.Base.TheVariants as base
use Rattle.cw_grammar.specs.declared.terminals.Lexeme.{Lexeme}
use Rattle.cw_grammar.specs.declared.terminals.Terminal.{Terminal}
use Rattle.cw_grammar.specs.declared.terminals.Terminal.TheVariants as w
use Rattle.cw_grammar.specs.Terminals.{same}
use Rattle.cw_grammar.specs.Lexemes.{Is, terminals, from_of, to_of, IsFlag, IsBetween}
use Rattle.cw_grammar.specs.Types.{IsType, AreStars, IsTypeName}
use Rattle.cw_grammar.proofs.SameTerminal.{is_plain, same-true}
use Rattle.cw_expressions.specs.Cursor.{begins}
use Rattle.cw_expressions.specs.TypeReading.{starts_type, skip, Based, based, unsigned_base, base_of, stars_of, type_name, type_between}
use Rattle.cw_expressions.specs.Reading.{begins_cast}
use Rattle.cw_expressions.proofs.Steps.{expect_again, begins_again, to_of_append}
use Rattle.cw_expressions.proofs.Follows.{Starts, starts_append, starts_never}
use Rattle.std.proofs.lemmas.Bool.{false_from_ne_true as is_false}
use Rattle.cw_grammar.proofs.Wording.{first_terminal, no_terminals as nothing, one_terminal, three_terminals, two_terminals}

-- whether the next terminal is such a one
abbrev pub next_is : (Terminal → Bool) → List Lexeme → Bool
next_is f [] = false
next_is f (t ∷ ts) = f t.terminal

pub not_next : (f : Terminal → Bool) (terminal : Terminal) → is_plain terminal ≡ true → f terminal ≡ true → (ts : List Lexeme) → next_is f ts ≡ false → begins terminal ts ≡ false
not_next f terminal plain yes_terminal [] e = refl
not_next f terminal plain yes_terminal (t ∷ ts) e = is_false (same t.terminal terminal) (λ s. false≢true (sym e ∙ ap f (same-true t.terminal terminal plain s) ∙ yes_terminal))

-- a terminal that goes on with a type
abbrev pub continues_type : Terminal → Bool
continues_type w.Star = true
continues_type w.Char = true
continues_type w.Int = true
continues_type w.Long = true
continues_type _ = false

abbrev continues_base : Terminal → Bool
continues_base w.Char = true
continues_base w.Int = true
continues_base w.Long = true
continues_base _ = false

-- ---- terminals and tokens

-- ---- past a terminal

pub skip_none : (terminal : Terminal) (ts : List Lexeme) → begins terminal ts ≡ false → skip terminal ts ≡ ts
skip_none terminal ts e = rw e refl

pub skip_one : (terminal : Terminal) (t : Lexeme) (ts : List Lexeme) → Is terminal t → skip terminal (t ∷ ts) ≡ ts
skip_one terminal t ts is = rw (begins_again terminal t ts is) refl

-- ---- the base

unsigned_default : (rest : List Lexeme) → next_is continues_base rest ≡ false → unsigned_base rest ≡ based base.Int true rest
unfolding unsigned_base
unsigned_default [] e = refl
unsigned_default (t ∷ ts) e = by_terminal t.terminal e where
  by_terminal : (terminal : Terminal) → continues_base terminal ≡ false → elim terminal as
      (λ z. Based) [ w.Char ↦ based base.Char true ts | w.Int ↦ based base.Int true ts | w.Long ↦ based base.Long true (skip w.Int ts) | _ ↦ based base.Int true (t ∷ ts) ] ≡ based
      base.Int true (t ∷ ts)
  by_terminal w.Char f = absurd (false≢true (sym f))
  by_terminal w.Int f = absurd (false≢true (sym f))
  by_terminal w.Long f = absurd (false≢true (sym f))
  by_terminal _ f = refl

abbrev starts_base : Terminal → Bool
starts_base w.Void = true
starts_base w.Char = true
starts_base w.Int = true
starts_base w.Long = true
starts_base w.Unsigned = true
starts_base _ = false

-- what a base is read as, and what begins it
abbrev BaseAgain : List Lexeme → Base → Bool → List Lexeme → Type 0
BaseAgain a b unsigned rest = (base_of (a ++ rest) ≡ based b unsigned rest) × Starts starts_base a

abbrev entry : List Terminal → Base → Bool → List Terminal × (Base × Bool)
entry ws b unsigned = (ws, (b, unsigned))

same_base : {a b : Base} {u v : Bool} (rest : List Lexeme) → a ≡ b → u ≡ v → based a u rest ≡ based b v rest
same_base rest p q = cc

module _ (a rest : List Lexeme) (b : Base) (unsigned : Bool) (stop : next_is continues_base rest ≡ false) where
  alone : (terminal : Terminal) (c : Base) → entry (terminals a) b unsigned ≡ entry (terminal ∷ []) c false
      → ((t : Lexeme) → Is terminal t → (base_of (t ∷ rest) ≡ based c false rest) × (starts_base t.terminal ≡ true)) → BaseAgain a b unsigned rest
  alone terminal c e f =
      let p = one_terminal a terminal (ap (λ (z : List Terminal × (Base × Bool)). z.0) e) in
      let q = f p.0 p.2 in
      rw p.1 (q.0 ∙ same_base rest (sym (ap (λ (z : List Terminal × (Base × Bool)). z.1.0) e)) (sym (ap (λ (z : List Terminal × (Base × Bool)). z.1.1) e)), q.1)

  void : (t : Lexeme) → Is w.Void t → (base_of (t ∷ rest) ≡ based base.Void false rest) × (starts_base t.terminal ≡ true)
  unfolding base_of
  void t is = rw is (refl, refl)

  char : (t : Lexeme) → Is w.Char t → (base_of (t ∷ rest) ≡ based base.Char false rest) × (starts_base t.terminal ≡ true)
  unfolding base_of
  char t is = rw is (refl, refl)

  int : (t : Lexeme) → Is w.Int t → (base_of (t ∷ rest) ≡ based base.Int false rest) × (starts_base t.terminal ≡ true)
  unfolding base_of
  int t is = rw is (refl, refl)

  long : (t : Lexeme) → Is w.Long t → (base_of (t ∷ rest) ≡ based base.Long false rest) × (starts_base t.terminal ≡ true)
  unfolding base_of
  long t is = rw (is, skip_none w.Int rest (not_next continues_base w.Int refl refl rest stop)) (refl, refl)

  long_int_at : (t i : Lexeme) → Is w.Long t → Is w.Int i → base_of (t ∷ i ∷ rest) ≡ based base.Long false rest
  unfolding base_of
  long_int_at t i is next = rw (is, skip_one w.Int i rest next) refl

  long_int : entry (terminals a) b unsigned ≡ entry (w.Long ∷ w.Int ∷ []) base.Long false → BaseAgain a b unsigned rest
  long_int e =
      let p = two_terminals a w.Long w.Int (ap (λ (z : List Terminal × (Base × Bool)). z.0) e) in
      rw p.2 (long_int_at p.0 p.1 p.3 p.4 ∙ same_base rest (sym (ap (λ (z : List Terminal × (Base × Bool)). z.1.0) e)) (sym (ap (λ (z : List Terminal × (Base × Bool)). z.1.1) e)), rw p.3 refl)

  -- behind `unsigned`
  unsigned_then : (c : List Lexeme) (k : Base) → (u : Lexeme) → a ≡ u ∷ c → Is w.Unsigned u → unsigned_base (c ++ rest) ≡ based k true rest → b ≡ k → unsigned ≡ true → BaseAgain a b unsigned rest
  unfolding base_of
  unsigned_then c k u parts is f p q = rw (parts, is, f) (same_base rest (sym p) (sym q), refl)

  unsigned_alone : entry (terminals a) b unsigned ≡ entry (w.Unsigned ∷ []) base.Int true → BaseAgain a b unsigned rest
  unsigned_alone e =
      let p = one_terminal a w.Unsigned (ap (λ (z : List Terminal × (Base × Bool)). z.0) e) in
      unsigned_then [] base.Int p.0 p.1 p.2 (unsigned_default rest stop) (ap (λ (z : List Terminal × (Base × Bool)). z.1.0) e) (ap (λ (z : List Terminal × (Base × Bool)). z.1.1) e)

  unsigned_char_at : (t : Lexeme) → Is w.Char t → unsigned_base (t ∷ rest) ≡ based base.Char true rest
  unfolding unsigned_base
  unsigned_char_at t is = rw is refl

  unsigned_int_at : (t : Lexeme) → Is w.Int t → unsigned_base (t ∷ rest) ≡ based base.Int true rest
  unfolding unsigned_base
  unsigned_int_at t is = rw is refl

  unsigned_long_at : (t : Lexeme) → Is w.Long t → unsigned_base (t ∷ rest) ≡ based base.Long true rest
  unfolding unsigned_base
  unsigned_long_at t is = rw (is, skip_none w.Int rest (not_next continues_base w.Int refl refl rest stop)) refl

  unsigned_long_int_at : (t i : Lexeme) → Is w.Long t → Is w.Int i → unsigned_base (t ∷ i ∷ rest) ≡ based base.Long true rest
  unfolding unsigned_base
  unsigned_long_int_at t i is next = rw (is, skip_one w.Int i rest next) refl

  unsigned_terminal : (terminal : Terminal) (k : Base) → entry (terminals a) b unsigned ≡ entry (w.Unsigned ∷ terminal ∷ []) k true
      → ((t : Lexeme) → Is terminal t → unsigned_base (t ∷ rest) ≡ based k true rest) → BaseAgain a b unsigned rest
  unsigned_terminal terminal k e f =
      let p = two_terminals a w.Unsigned terminal (ap (λ (z : List Terminal × (Base × Bool)). z.0) e) in
      unsigned_then (p.1 ∷ []) k p.0 p.2 p.3 (f p.1 p.4) (ap (λ (z : List Terminal × (Base × Bool)). z.1.0) e) (ap (λ (z : List Terminal × (Base × Bool)). z.1.1) e)

  unsigned_long_int : entry (terminals a) b unsigned ≡ entry (w.Unsigned ∷ w.Long ∷ w.Int ∷ []) base.Long true → BaseAgain a b unsigned rest
  unsigned_long_int e =
      let p = three_terminals a w.Unsigned w.Long w.Int (ap (λ (z : List Terminal × (Base × Bool)). z.0) e) in
      unsigned_then (p.1 ∷ p.2 ∷ []) base.Long p.0 p.3 p.4 (unsigned_long_int_at p.1 p.2 p.5 p.6) (ap (λ (z : List Terminal × (Base × Bool)). z.1.0) e) (ap (λ (z : List Terminal × (Base × Bool)). z.1.1) e)

  base_again : IsType a b unsigned → BaseAgain a b unsigned rest
  base_again (inl e) = alone w.Void base.Void e void
  base_again (inr (inl e)) = alone w.Char base.Char e char
  base_again (inr (inr (inl e))) = unsigned_terminal w.Char base.Char e unsigned_char_at
  base_again (inr (inr (inr (inl e)))) = alone w.Int base.Int e int
  base_again (inr (inr (inr (inr (inl e))))) = unsigned_terminal w.Int base.Int e unsigned_int_at
  base_again (inr (inr (inr (inr (inr (inl e)))))) = unsigned_alone e
  base_again (inr (inr (inr (inr (inr (inr (inl e))))))) = alone w.Long base.Long e long
  base_again (inr (inr (inr (inr (inr (inr (inr (inl e)))))))) = long_int e
  base_again (inr (inr (inr (inr (inr (inr (inr (inr (inl e))))))))) = unsigned_terminal w.Long base.Long e unsigned_long_at
  base_again (inr (inr (inr (inr (inr (inr (inr (inr (inr (inl e)))))))))) = unsigned_long_int e
  base_again (inr (inr (inr (inr (inr (inr (inr (inr (inr (inr e)))))))))) = absurd e

  pub base_is : IsType a b unsigned → base_of (a ++ rest) ≡ based b unsigned rest
  base_is h = (base_again h).0

  base_starts : IsType a b unsigned → Starts starts_base a
  base_starts h = (base_again h).1

type_begins : (a : List Lexeme) (b : Base) (unsigned : Bool) → IsType a b unsigned → Starts starts_base a
type_begins a b unsigned h = base_starts a [] b unsigned refl h

-- ---- stars

pub stars_again : (n : ℕ) (a rest : List Lexeme) → AreStars a n → begins w.Star rest ≡ false → stars_of (a ++ rest) ≡ (n, rest)
unfolding stars_of
stars_again zero a rest h e = rw (nothing a h.1, e) refl
stars_again (suc zero) a rest h e =
    let p = one_terminal a w.Star h.1 in
    rw (p.1, begins_again w.Star p.0 rest p.2, e) refl
stars_again (suc (suc zero)) a rest h e =
    let p = two_terminals a w.Star w.Star h.1 in
    rw (p.2, begins_again w.Star p.0 (p.1 ∷ rest) p.3, begins_again w.Star p.1 rest p.4) refl
stars_again (suc (suc (suc n))) a rest h e = let le = h.0 in absurd (omega arith)

-- stars don't go on with a base
after_base : (n : ℕ) (a rest : List Lexeme) → AreStars a n → next_is continues_type rest ≡ false → next_is continues_base (a ++ rest) ≡ false
after_base zero a rest h e = rw (nothing a h.1) (by_rest rest e) where
  by_terminal : (terminal : Terminal) → continues_type terminal ≡ false → continues_base terminal ≡ false
  by_terminal w.Char f = absurd (false≢true (sym f))
  by_terminal w.Int f = absurd (false≢true (sym f))
  by_terminal w.Long f = absurd (false≢true (sym f))
  by_terminal _ f = refl

  by_rest : (ts : List Lexeme) → next_is continues_type ts ≡ false → next_is continues_base ts ≡ false
  by_rest [] f = refl
  by_rest (t ∷ ts) f = by_terminal t.terminal f
after_base (suc n) a rest h e =
    let p = first_terminal a w.Star (replicate n w.Star) h.1 in
    rw (p.2, p.3) refl

-- ---- a type

skip_flag : (terminal : Terminal) (flag : Bool) (c ts : List Lexeme) → IsFlag terminal c flag → begins terminal ts ≡ false → skip terminal (c ++ ts) ≡ ts
skip_flag terminal true c ts h e = let p = one_terminal c terminal h in rw p.1 (skip_one terminal p.0 ts p.2)
skip_flag terminal false c ts h e = rw h (skip_none terminal ts e)

pub type_name_again : (a : List Lexeme) (kind : CType) (rest : List Lexeme) → IsTypeName a kind → next_is continues_type rest ≡ false → type_name (a ++ rest) ≡ Ok (kind, rest)
unfolding type_name
type_name_again a kind rest (flag, c, t, s, parts, f, base, stars) e =
    let regrouped : a ++ rest ≡ c ++ (t ++ (s ++ rest)) = rw parts (append_assoc c (t ++ s) rest ∙ ap (λ (z : List Lexeme). c ++ z) (append_assoc t s rest)) in
    let first : begins w.Const (t ++ (s ++ rest)) ≡ false =
    starts_never starts_base w.Const refl refl (t ++ (s ++ rest)) (starts_append starts_base t (s ++ rest) (type_begins t kind.base kind.unsigned base)) in
    let skipped : skip w.Const (c ++ (t ++ (s ++ rest))) ≡ t ++ (s ++ rest) = skip_flag w.Const flag c (t ++ (s ++ rest)) f first in
    let based_on : base_of (t ++ (s ++ rest)) ≡ based kind.base kind.unsigned (s ++ rest) = base_is t (s ++ rest) kind.base kind.unsigned (after_base kind.stars s rest stars e) base in
    let starred : stars_of (s ++ rest) ≡ (kind.stars, rest) = stars_again kind.stars s rest stars (not_next continues_type w.Star refl refl rest e) in
    rw (regrouped, skipped, based_on, starred) refl

base_type : (terminal : Terminal) → starts_base terminal ≡ true → starts_type terminal ≡ true
base_type w.Void h = refl
base_type w.Char h = refl
base_type w.Int h = refl
base_type w.Long h = refl
base_type w.Unsigned h = refl
base_type _ h = absurd (false≢true h)

wider : (ts : List Lexeme) → Starts starts_base ts → Starts starts_type ts
wider [] h = absurd h
wider (t ∷ ts) h = base_type t.terminal h

type_name_starts : (a : List Lexeme) (kind : CType) → IsTypeName a kind → Starts starts_type a
type_name_starts a kind (true, c, t, s, parts, f, base, stars) = let p = one_terminal c w.Const f in rw (parts, p.1, p.2) refl
type_name_starts a kind (false, c, t, s, parts, f, base, stars) = rw (parts, f) (starts_append starts_type t s (wider t (type_begins t kind.base kind.unsigned base)))

pub type_between_again : (a : List Lexeme) (kind : CType) (rest : List Lexeme) → IsBetween w.Open w.Close IsTypeName a kind → type_between (a ++ rest) ≡ Ok ((kind, (from_of a, to_of a)), rest)
unfolding type_between
type_between_again a kind rest (o, inner, c, parts, p, q, h) =
    let regrouped : a ++ rest ≡ o ∷ (inner ++ (c ∷ rest)) = rw parts (ap (λ (z : List Lexeme). o ∷ z) (append_assoc inner (c ∷ []) rest)) in
    let stop : next_is continues_type (c ∷ rest) ≡ false = rw q refl in
    let ends : c.to ≡ to_of a = sym (ap to_of parts ∙ to_of_append (o ∷ inner) (c ∷ []) (omega arith)) in
    let begin : o.from ≡ from_of a = sym (ap from_of parts) in
    rw (regrouped, expect_again w.Open o (inner ++ (c ∷ rest)) p, type_name_again inner kind (c ∷ rest) h stop, expect_again w.Close c rest q, begin, ends) refl

cast_next : (o : Lexeme) (ts rest : List Lexeme) → Is w.Open o → Starts starts_type ts → begins_cast (o ∷ ts ++ rest) ≡ true
cast_next o [] rest is h = absurd h
cast_next o (t ∷ ts) rest is h = rw (is, h) refl

pub type_between_begins : (a : List Lexeme) (kind : CType) (rest : List Lexeme) → IsBetween w.Open w.Close IsTypeName a kind → begins_cast (a ++ rest) ≡ true
type_between_begins a kind rest (o, inner, c, parts, p, q, h) =
    let regrouped : a ++ rest ≡ o ∷ (inner ++ (c ∷ rest)) = rw parts (ap (λ (z : List Lexeme). o ∷ z) (append_assoc inner (c ∷ []) rest)) in
    rw regrouped (cast_next o inner (c ∷ rest) p (type_name_starts inner kind h))
