-- The recogniser reads types and what stands before declared names.
use Rattle.std.proofs.Common.{◌≡◌, ℕ, zero, suc, Bool, true, false, List, [], ◌∷◌, ◌++◌, refl, ap, ◌∙◌, append_assoc, inl, inr, Some, replicate, arith}
use Rattle.std.specs.Prelude.{is_some}
use Rattle.cw_syntax.specs.declared.program.CType.{CType}
use Rattle.cw_syntax.specs.declared.program.Base.{Base}
use Rattle.cw_grammar.specs.declared.terminals.Terminal.{Terminal}
use Rattle.cw_grammar.specs.declared.terminals.Terminal.TheVariants as w
use Rattle.cw_grammar.specs.declared.terminals.Lexeme.{Lexeme}
use Rattle.cw_grammar.specs.Lexemes.{terminals, IsFlag}
use Rattle.cw_grammar.specs.Types.{IsType, AreStars, IsTypeName}
use Rattle.cw_grammar.specs.Declarations.{IsStorage, Specifiers, AreSpecifiers}
use Rattle.cw_recogniser.specs.declared.kinds.TerminalKind.{TerminalKind}
use Rattle.cw_recogniser.specs.declared.kinds.TerminalKind.TheVariants as k
use Rattle.cw_recogniser.specs.declared.symbols.Symbol.{Symbol}
use Rattle.cw_recogniser.specs.declared.symbols.Symbol.TheVariants as s
use Rattle.cw_recogniser.specs.Kinds.{kind_of_terminal}
use Rattle.cw_recogniser.specs.Machine.{onto, after, after_unsigned, after_long, qualified, specifiers}
use Rattle.cw_recogniser.proofs.Accepting.{Accepts, takes, step, skip, instead}
use Rattle.cw_grammar.proofs.Wording.{first_terminal, no_terminals, one_terminal, two_terminals, three_terminals}

-- behind a type
abbrev pub EndsType : List Lexeme → Type 0
EndsType rest = takes s.AfterUnsigned rest ≡ false

no_int : (kind : TerminalKind) → is_some (after_unsigned kind) ≡ false → is_some (after_long kind) ≡ false
no_int k.Int e = absurd cc
no_int _ e = refl

ends_long : (rest : List Lexeme) → EndsType rest → takes s.AfterLong rest ≡ false
ends_long [] e = refl
ends_long (t ∷ ts) e = no_int (kind_of_terminal t.terminal) e

module _ (rest : List Lexeme) (below : List Symbol) (e : EndsType rest) (h : Accepts below rest) where
  type_one : (terminal : Terminal) (ts : List Lexeme) → terminals ts ≡ terminal ∷ [] → after s.Type (kind_of_terminal terminal) ≡ Some [] → Accepts (s.Type ∷ below) (ts ++ rest)
  type_one terminal ts ws a = let x = one_terminal ts terminal ws in rw x.1 (step x.2 a h)

  type_long : (ts : List Lexeme) → terminals ts ≡ w.Long ∷ [] → Accepts (s.Type ∷ below) (ts ++ rest)
  type_long ts ws = let x = one_terminal ts w.Long ws in rw x.1 (step x.2 refl (skip refl (ends_long rest e) h))

  type_unsigned : (ts : List Lexeme) → terminals ts ≡ w.Unsigned ∷ [] → Accepts (s.Type ∷ below) (ts ++ rest)
  type_unsigned ts ws = let x = one_terminal ts w.Unsigned ws in rw x.1 (step x.2 refl (skip refl e h))

  type_long_int : (ts : List Lexeme) → terminals ts ≡ w.Long ∷ w.Int ∷ [] → Accepts (s.Type ∷ below) (ts ++ rest)
  type_long_int ts ws = let x = two_terminals ts w.Long w.Int ws in rw x.2 (step x.3 refl (step x.4 refl h))

  type_two : (terminal : Terminal) (ts : List Lexeme) → terminals ts ≡ w.Unsigned ∷ terminal ∷ [] → after s.AfterUnsigned (kind_of_terminal terminal) ≡ Some [] → Accepts (s.Type ∷ below) (ts ++ rest)
  type_two terminal ts ws a = let x = two_terminals ts w.Unsigned terminal ws in rw x.2 (step x.3 refl (step x.4 a h))

  type_unsigned_long : (ts : List Lexeme) → terminals ts ≡ w.Unsigned ∷ w.Long ∷ [] → Accepts (s.Type ∷ below) (ts ++ rest)
  type_unsigned_long ts ws = let x = two_terminals ts w.Unsigned w.Long ws in rw x.2 (step x.3 refl (step x.4 refl (skip refl (ends_long rest e) h)))

  type_three : (ts : List Lexeme) → terminals ts ≡ w.Unsigned ∷ w.Long ∷ w.Int ∷ [] → Accepts (s.Type ∷ below) (ts ++ rest)
  type_three ts ws = let x = three_terminals ts w.Unsigned w.Long w.Int ws in rw x.3 (step x.4 refl (step x.5 refl (step x.6 refl h)))

  abbrev first_of_pair : List Terminal × (Base × Bool) → List Terminal
  first_of_pair p = p.0

  pub reads_type : (ts : List Lexeme) (base : Base) (unsigned : Bool) → IsType ts base unsigned → Accepts (s.Type ∷ below) (ts ++ rest)
  reads_type ts base unsigned (inl p) = type_one w.Void ts (ap first_of_pair p) refl
  reads_type ts base unsigned (inr (inl p)) = type_one w.Char ts (ap first_of_pair p) refl
  reads_type ts base unsigned (inr (inr (inl p))) = type_two w.Char ts (ap first_of_pair p) refl
  reads_type ts base unsigned (inr (inr (inr (inl p)))) = type_one w.Int ts (ap first_of_pair p) refl
  reads_type ts base unsigned (inr (inr (inr (inr (inl p))))) = type_two w.Int ts (ap first_of_pair p) refl
  reads_type ts base unsigned (inr (inr (inr (inr (inr (inl p)))))) = type_unsigned ts (ap first_of_pair p)
  reads_type ts base unsigned (inr (inr (inr (inr (inr (inr (inl p))))))) = type_long ts (ap first_of_pair p)
  reads_type ts base unsigned (inr (inr (inr (inr (inr (inr (inr (inl p)))))))) = type_long_int ts (ap first_of_pair p)
  reads_type ts base unsigned (inr (inr (inr (inr (inr (inr (inr (inr (inl p))))))))) = type_unsigned_long ts (ap first_of_pair p)
  reads_type ts base unsigned (inr (inr (inr (inr (inr (inr (inr (inr (inr (inl p)))))))))) = type_three ts (ap first_of_pair p)
  reads_type ts base unsigned (inr (inr (inr (inr (inr (inr (inr (inr (inr (inr p)))))))))) = absurd p

-- ---- stars

pub reads_stars : (stars : ℕ) (ts rest : List Lexeme) (below : List Symbol) → AreStars ts stars → takes s.TwoStars rest ≡ false → Accepts below rest → Accepts (s.TwoStars ∷ below) (ts ++ rest)
reads_stars zero ts rest below a e h = rw (no_terminals ts a.1) (skip refl e h)
reads_stars (suc zero) ts rest below a e h = let x = one_terminal ts w.Star a.1 in rw x.1 (step x.2 refl (skip refl (one_less rest e) h)) where
  one_less : (rest : List Lexeme) → takes s.TwoStars rest ≡ false → takes s.OneStar rest ≡ false
  one_less [] e = refl
  one_less (t ∷ ts) e = by_kind (kind_of_terminal t.terminal) e where
    by_kind : (kind : TerminalKind) → is_some (after s.TwoStars kind) ≡ false → is_some (after s.OneStar kind) ≡ false
    by_kind k.Star e = absurd cc
    by_kind _ e = refl
reads_stars (suc (suc zero)) ts rest below a e h = let x = two_terminals ts w.Star w.Star a.1 in rw x.2 (step x.3 refl (step x.4 refl h))
reads_stars (suc (suc (suc stars))) ts rest below a e h = absurd (let f = a.0 in omega arith)

-- what ends a type ends it behind stars too
pub stars_end : (stars : ℕ) (ts rest : List Lexeme) → AreStars ts stars → EndsType rest → EndsType (ts ++ rest)
stars_end zero ts rest a e = rw (no_terminals ts a.1) e
stars_end (suc stars) ts rest a e = let x = first_terminal ts w.Star (replicate stars w.Star) a.1 in rw (x.2, x.3) refl

-- ---- types with `const`, with stars, with a storage class

not_const : (kind : TerminalKind) → is_some (after s.Type kind) ≡ true → after s.Qualified kind ≡ onto (after s.Type kind) []
not_const k.Void e = refl
not_const k.Char e = refl
not_const k.Int e = refl
not_const k.Long e = refl
not_const k.Unsigned e = refl
not_const _ e = absurd cc

pub reads_qualified : (constant : Bool) (c ts rest : List Lexeme) (base : Base) (unsigned : Bool) (below : List Symbol) → IsFlag w.Const c constant → IsType ts base unsigned
    → EndsType rest → Accepts below rest → Accepts (s.Qualified ∷ below) (c ++ (ts ++ rest))
reads_qualified true c ts rest base unsigned below f t e h = let x = one_terminal c w.Const f in rw x.1 (step x.2 refl (reads_type rest below e h ts base unsigned t))
reads_qualified false c ts rest base unsigned below f t e h = rw f (instead {first = s.Type} [] refl not_const (reads_type rest below e h ts base unsigned t))

pub reads_type_name : (ts rest : List Lexeme) (kind : CType) (below : List Symbol) → IsTypeName ts kind → EndsType rest → takes s.TwoStars rest ≡ false → Accepts below rest
    → Accepts (s.Qualified ∷ s.TwoStars ∷ below) (ts ++ rest)
reads_type_name ts rest kind below (constant, c, t, stars, e, f, is, a) ends none h =
    rw (e, append_assoc, append_assoc) (reads_qualified constant c t (stars ++ rest) kind.base kind.unsigned (s.TwoStars ∷ below) f is (stars_end kind.stars stars rest a ends)
    (reads_stars kind.stars stars rest below a none h))

plain_specifiers : (kind : TerminalKind) → is_some (qualified kind) ≡ true → specifiers kind ≡ qualified kind
plain_specifiers k.Const e = refl
plain_specifiers k.Void e = refl
plain_specifiers k.Char e = refl
plain_specifiers k.Int e = refl
plain_specifiers k.Long e = refl
plain_specifiers k.Unsigned e = refl
plain_specifiers _ e = absurd cc

-- a symbol that begins as declarations do
abbrev pub Declares : Symbol → List Symbol → Type 0
Declares symbol more = (kind : TerminalKind) → is_some (specifiers kind) ≡ true → after symbol kind ≡ onto (specifiers kind) more

as_qualified : (symbol : Symbol) (more : List Symbol) → Declares symbol more → (kind : TerminalKind) → is_some (qualified kind) ≡ true → after symbol kind ≡ onto (qualified kind) more
as_qualified symbol more d kind e = let p = plain_specifiers kind e in d kind (rw p e) ∙ ap (λ z. onto z more) p

module _ (symbol : Symbol) (more : List Symbol) (d : Declares symbol more) (rest : List Lexeme) (below : List Symbol) (ends : EndsType rest) (h : Accepts (more ++ below) rest) where
  stored : (terminal : Terminal) (a b c : List Lexeme) (constant : Bool) (base : Base) (unsigned : Bool) → terminals a ≡ terminal ∷ [] → kind_of_terminal terminal ≡ k.Storage → IsFlag w.Const b constant
      → IsType c base unsigned → Accepts (symbol ∷ below) (a ++ (b ++ (c ++ rest)))
  stored terminal a b c constant base unsigned ws e f t =
      let x = one_terminal a terminal ws in
      rw x.1 (step x.2 (ap (after symbol) e ∙ d k.Storage refl) (reads_qualified constant b c rest base unsigned (more ++ below) f t ends h))

  by_storage : (external fixed : Bool) (a b c : List Lexeme) (constant : Bool) (base : Base) (unsigned : Bool) → IsStorage a external fixed → IsFlag w.Const b constant
      → IsType c base unsigned → Accepts (symbol ∷ below) (a ++ (b ++ (c ++ rest)))
  by_storage false false a b c constant base unsigned i f t =
      rw i (instead {first = s.Qualified} more refl (as_qualified symbol more d) (reads_qualified constant b c rest base unsigned (more ++ below) f t ends h))
  by_storage true false a b c constant base unsigned i f t = stored w.Extern a b c constant base unsigned i refl f t
  by_storage false true a b c constant base unsigned i f t = stored w.Static a b c constant base unsigned i refl f t
  by_storage true true a b c constant base unsigned i f t = absurd i

  pub reads_specifiers : (ts : List Lexeme) (specs : Specifiers) → AreSpecifiers ts specs → Accepts (symbol ∷ below) (ts ++ rest)
  reads_specifiers ts specs (a, b, c, e, i, f, t) = rw (e, append_assoc, append_assoc) (by_storage specs.external specs.fixed a b c specs.constant specs.base specs.unsigned i f t)
