-- What the recogniser takes for a type is one.
use Rattle.std.proofs.Common.{◌≡◌, suc, Bool, true, false, List, [], ◌∷◌, ◌++◌, refl, sym, ap, subst, append_assoc, inl, inr, ◌⊎◌, arith}
use Rattle.cw_syntax.specs.declared.program.Base.{Base}
use Rattle.cw_syntax.specs.declared.program.Base.TheVariants as base
use Rattle.cw_grammar.specs.declared.terminals.Terminal.{Terminal}
use Rattle.cw_grammar.specs.declared.terminals.Terminal.TheVariants as w
use Rattle.cw_grammar.specs.declared.terminals.Lexeme.{Lexeme}
use Rattle.cw_grammar.specs.Lexemes.{Is, terminals}
use Rattle.cw_grammar.specs.Types.{IsAmong, type_terminals}
use Rattle.cw_recogniser.specs.declared.kinds.TerminalKind.{TerminalKind}
use Rattle.cw_recogniser.specs.declared.kinds.TerminalKind.TheVariants as k
use Rattle.cw_recogniser.specs.declared.symbols.Symbol.TheVariants as s
use Rattle.cw_recogniser.specs.Kinds.{kind_of_terminal}
use Rattle.cw_recogniser.specs.Machine.{after_long, after_unsigned, bare_type, qualified, specifiers, type_name, two_stars, one_star}
use Rattle.cw_recogniser.proofs.TerminalKinds.{is_storage}
use Rattle.cw_recogniser.proofs.Meanings.{SomeType, SomeQualified, SomeStars, SomeTypeName, SomeSpecifiers, Means, Given, split_onto, exact}
use Rattle.cw_grammar.proofs.Wording.{terminals_one as one, terminals_three as three, terminals_two as two}

type_is : (ts : List Lexeme) (ws : List Terminal) (b : Base) (unsigned : Bool) → terminals ts ≡ ws → IsAmong (ws, (b, unsigned)) type_terminals → SomeType ts
type_is ts ws b unsigned e h = (b, unsigned, subst (λ (z : List Terminal). IsAmong (z, (b, unsigned)) type_terminals) (sym e) h)

is_long : (t : Lexeme) → Is w.Long t → SomeType (t ∷ [])
is_long t is = type_is (t ∷ []) (w.Long ∷ []) base.Long false (one t w.Long is) (inr (inr (inr (inr (inr (inr (inl refl)))))))

is_unsigned_long : (u t : Lexeme) → Is w.Unsigned u → Is w.Long t → SomeType (u ∷ t ∷ [])
is_unsigned_long u t p q = type_is (u ∷ t ∷ []) (w.Unsigned ∷ w.Long ∷ []) base.Long true (two u t w.Unsigned w.Long p q) (inr (inr (inr (inr (inr (inr (inr (inr (inl refl)))))))))

pub long_none : Means s.AfterLong [] []
long_none = (is_long, is_unsigned_long)

pub unsigned_none : Means s.AfterUnsigned [] []
unsigned_none t is = type_is (t ∷ []) (w.Unsigned ∷ []) base.Int true (one t w.Unsigned is) (inr (inr (inr (inr (inr (inl refl))))))

pub long_sound : (kind : TerminalKind) (t : Lexeme) (a rest : List Lexeme) → kind_of_terminal t.terminal ≡ kind → Given (after_long kind) a rest → Means s.AfterLong (t ∷ a) rest
long_sound k.Int t a rest e h = (
  λ l p. rw h (type_is (l ∷ t ∷ []) (w.Long ∷ w.Int ∷ []) base.Long false (two l t w.Long w.Int p (exact t k.Int w.Int e refl)) (inr (inr (inr (inr (inr (inr (inr (inl refl))))))))),
  λ u l q p. rw h (type_is (u ∷ l ∷ t ∷ []) (w.Unsigned ∷ w.Long ∷ w.Int ∷ []) base.Long true (three u l t w.Unsigned w.Long w.Int q p (exact t k.Int w.Int e refl))
      (inr (inr (inr (inr (inr (inr (inr (inr (inr (inl refl))))))))))),
)
long_sound _ t a rest e h = absurd h

pub unsigned_sound : (kind : TerminalKind) (t : Lexeme) (a rest : List Lexeme) → kind_of_terminal t.terminal ≡ kind → Given (after_unsigned kind) a rest → Means s.AfterUnsigned (t ∷ a) rest
unsigned_sound k.Char t a rest e h = λ u p. rw h (type_is (u ∷ t ∷ []) (w.Unsigned ∷ w.Char ∷ []) base.Char true (two u t w.Unsigned w.Char p (exact t k.Char w.Char e refl)) (inr (inr (inl refl))))
unsigned_sound k.Int t a rest e h = λ u p. rw h (type_is (u ∷ t ∷ []) (w.Unsigned ∷ w.Int ∷ []) base.Int true (two u t w.Unsigned w.Int p (exact t k.Int w.Int e refl))
    (inr (inr (inr (inr (inl refl))))))
unsigned_sound k.Long t a rest e h = λ u p. h.1 u t p (exact t k.Long w.Long e refl)
unsigned_sound _ t a rest e h = absurd h

pub type_sound : (kind : TerminalKind) (t : Lexeme) (a rest : List Lexeme) → kind_of_terminal t.terminal ≡ kind → Given (bare_type kind) a rest → SomeType (t ∷ a)
type_sound k.Void t a rest e h = rw h (type_is (t ∷ []) (w.Void ∷ []) base.Void false (one t w.Void (exact t k.Void w.Void e refl)) (inl refl))
type_sound k.Char t a rest e h = rw h (type_is (t ∷ []) (w.Char ∷ []) base.Char false (one t w.Char (exact t k.Char w.Char e refl)) (inr (inl refl)))
type_sound k.Int t a rest e h = rw h (type_is (t ∷ []) (w.Int ∷ []) base.Int false (one t w.Int (exact t k.Int w.Int e refl)) (inr (inr (inr (inl refl)))))
type_sound k.Long t a rest e h = h.0 t (exact t k.Long w.Long e refl)
type_sound k.Unsigned t a rest e h = h t (exact t k.Unsigned w.Unsigned e refl)
type_sound _ t a rest e h = absurd h

pub qualified_sound : (kind : TerminalKind) (t : Lexeme) (a rest : List Lexeme) → kind_of_terminal t.terminal ≡ kind → Given (qualified kind) a rest → SomeQualified (t ∷ a)
qualified_sound k.Const t a rest e h = (true, t ∷ [], a, refl, one t w.Const (exact t k.Const w.Const e refl), h)
qualified_sound kind t a rest e h = (false, [], t ∷ a, refl, refl, type_sound kind t a rest e h)

pub specifiers_sound : (kind : TerminalKind) (t : Lexeme) (a rest : List Lexeme) → kind_of_terminal t.terminal ≡ kind → Given (specifiers kind) a rest → SomeSpecifiers (t ∷ a)
specifiers_sound k.Storage t a rest e (constant, c, ty, f, flag, (b, unsigned, is)) = by_terminal (is_storage t.terminal e) where
  by_terminal : (t.terminal ≡ w.Extern) ⊎ (t.terminal ≡ w.Static) → SomeSpecifiers (t ∷ a)
  by_terminal (inl p) = (record { external = true; fixed = false; constant = constant; base = b; unsigned = unsigned }, (t ∷ [], c, ty, rw f refl, one t w.Extern p, flag, is))
  by_terminal (inr p) = (record { external = false; fixed = true; constant = constant; base = b; unsigned = unsigned }, (t ∷ [], c, ty, rw f refl, one t w.Static p, flag, is))
specifiers_sound kind t a rest e h =
    let q = qualified_sound kind t a rest e h in
    (record { external = false; fixed = false; constant = q.0; base = q.5.0; unsigned = q.5.1 }, ([], q.1, q.2, q.3, refl, q.4, q.5.2))

named_type : (a b : List Lexeme) → SomeQualified a → SomeStars b → SomeTypeName (a ++ b)
named_type a b (constant, c, t, e, flag, (base, unsigned, is)) (stars, are) =
    (record { base = base; unsigned = unsigned; stars = stars }, (constant, c, t, b, rw (e, append_assoc) refl, flag, is, are))

pub type_name_sound : (kind : TerminalKind) (t : Lexeme) (a rest : List Lexeme) → kind_of_terminal t.terminal ≡ kind → Given (type_name kind) a rest → SomeTypeName (t ∷ a)
type_name_sound kind t a rest e h =
    let x = split_onto (qualified kind) s.TwoStars [] a rest h in
    subst (λ (z : List Lexeme). SomeTypeName (t ∷ z)) (sym x.2) (named_type (t ∷ x.0) x.1 (qualified_sound kind t x.0 (x.1 ++ rest) e x.3) x.4)

pub stars_none : SomeStars []
stars_none = (0, (omega arith, refl))

pub star_none : (rest : List Lexeme) → Means s.OneStar [] rest
star_none rest = (0, omega arith, refl)

pub two_stars_sound : (kind : TerminalKind) (t : Lexeme) (a rest : List Lexeme) → kind_of_terminal t.terminal ≡ kind → Given (two_stars kind) a rest → SomeStars (t ∷ a)
two_stars_sound k.Star t a rest e (stars, le, ws) = (suc stars, (omega arith, rw (exact t k.Star w.Star e refl, ws) refl))
two_stars_sound _ t a rest e h = absurd h

pub one_star_sound : (kind : TerminalKind) (t : Lexeme) (a rest : List Lexeme) → kind_of_terminal t.terminal ≡ kind → Given (one_star kind) a rest → Means s.OneStar (t ∷ a) rest
one_star_sound k.Star t a rest e h = (1, omega arith, rw (exact t k.Star w.Star e refl, h) refl)
one_star_sound _ t a rest e h = absurd h
