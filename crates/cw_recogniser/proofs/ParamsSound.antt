-- What the recogniser takes for parameters and what comes behind them is that.
use Rattle.std.proofs.Common.{◌≡◌, ◌≢◌, suc, Bool, true, false, List, [], ◌∷◌, ◌++◌, refl, sym, ap, subst, ◌∙◌, append_assoc, inl, inr, Option, Some, None, arith}
use Rattle.std.proofs.lemmas.List.{append-nil}
use Rattle.std.specs.Prelude.{◌&&◌}
use Rattle.cw_syntax.specs.declared.program.Name.{Name}
use Rattle.cw_syntax.specs.declared.program.CType.{CType}
use Rattle.cw_syntax.specs.declared.program.Param.{Param}
use Rattle.cw_grammar.specs.declared.terminals.Terminal.{Terminal}
use Rattle.cw_grammar.specs.declared.terminals.Terminal.TheVariants as w
use Rattle.cw_grammar.specs.declared.terminals.Lexeme.{Lexeme}
use Rattle.cw_grammar.specs.Lexemes.{Is, terminals, name_of}
use Rattle.cw_grammar.specs.Types.{IsTypeName}
use Rattle.cw_grammar.specs.Declarations.{IsBrackets, IsParam}
use Rattle.cw_recogniser.specs.declared.kinds.TerminalKind.{TerminalKind}
use Rattle.cw_recogniser.specs.declared.kinds.TerminalKind.TheVariants as k
use Rattle.cw_recogniser.specs.declared.symbols.Symbol.TheVariants as s
use Rattle.cw_recogniser.specs.Kinds.{kind_of_terminal}
use Rattle.cw_recogniser.specs.Machine.{param, params, after_type, after_void, brackets, more_params, ending, type_name}
use Rattle.cw_grammar.proofs.Wording.{one_terminal}
use Rattle.cw_recogniser.proofs.FilesRead.{and_assoc, is_named, all_named}
use Rattle.cw_lemmas.proofs.Truths.{and_true, and_false}
use Rattle.cw_recogniser.proofs.Meanings.{SomeTypeName, SomeList, SomeParams, Ends, Means, Given, split_onto, exact}
use Rattle.cw_recogniser.proofs.TypesSound.{type_name_sound}

abbrev param_of : CType → Option Name → Bool → Param
param_of kind name array = record { kind = kind; name = name; array = array }

-- ---- behind a parameter

last_param : (before named : Bool) (b : List Lexeme) (p : Param) (c : Lexeme) (d : List Lexeme) → IsParam b p → named ≡ (before && is_named p) → Is w.Close c → Ends named d
    → SomeList before (b ++ (c ∷ d))
last_param before named b p c d is e q h = (p, [], b, c, d, refl, is, q, subst (λ (z : Bool). Ends z d) (e ∙ ap (λ (z : Bool). before && z) (sym (and_true (is_named p)))) h)

next_param : (before named : Bool) (b : List Lexeme) (p : Param) (c : Lexeme) (d : List Lexeme) → IsParam b p → named ≡ (before && is_named p) → Is w.Comma c → SomeList named d
    → SomeList before (b ++ (c ∷ d))
next_param before named b p c d is e q (x, xs, u, l, v, f, h, close, ends) = (
  p,
  x ∷ xs,
  b ++ (c ∷ u),
  l,
  v,
  ap (λ (z : List Lexeme). b ++ (c ∷ z)) f ∙ sym (append_assoc b (c ∷ u) (l ∷ v)),
  (b, c, u, refl, q, is, h),
  close,
  subst (λ (z : Bool). Ends z v) (ap (λ (z : Bool). z && all_named (x ∷ xs)) e ∙ and_assoc before (is_named p) (all_named (x ∷ xs))) ends,
)

pub more_params_sound : (named : Bool) (kind : TerminalKind) (t : Lexeme) (a rest : List Lexeme) → kind_of_terminal t.terminal ≡ kind → Given (more_params named kind) a rest → Means (s.MoreParams named) (t ∷ a) rest
more_params_sound named k.Comma t a rest e h = λ before b p is f. next_param before named b p t a is f (exact t k.Comma w.Comma e refl) h
more_params_sound named k.Close t a rest e h = λ before b p is f. last_param before named b p t a is f (exact t k.Close w.Close e refl) h
more_params_sound named _ t a rest e h = absurd h

pub brackets_none : (rest : List Lexeme) → Means s.Brackets [] rest
brackets_none rest = (false, refl)

brackets_are : (o c : Lexeme) → Is w.OpenBracket o → Is w.CloseBracket c → IsBrackets (o ∷ c ∷ []) true
brackets_are o c p q = rw (p, q) refl

pub brackets_sound : (kind : TerminalKind) (t : Lexeme) (a rest : List Lexeme) → kind_of_terminal t.terminal ≡ kind → Given (brackets kind) a rest → Means s.Brackets (t ∷ a) rest
brackets_sound k.OpenBracket t a rest e (z, f, q) = (true, rw f (brackets_are t z (exact t k.OpenBracket w.OpenBracket e refl) q))
brackets_sound _ t a rest e h = absurd h

-- ---- a parameter behind its type

nameless : (b : List Lexeme) (kind : CType) → IsTypeName b kind → IsParam b (param_of kind None false)
nameless b kind h = (b, [], [], sym (append-nil b), h, refl, refl)

pub after_type_sound : (named : Bool) (kind : TerminalKind) (t : Lexeme) (a rest : List Lexeme) → kind_of_terminal t.terminal ≡ kind → Given (after_type named kind) a rest → Means (s.AfterType named) (t ∷ a) rest
after_type_sound named k.Name t a rest e (b, c, f, (array, d), others) = λ m n.
    let is : IsParam (m ++ (t ∷ b)) (param_of n.0 (Some (name_of t)) array) = (m, t ∷ [], b, refl, n.1, (t, refl, exact t k.Name w.Name e refl, refl), d) in
    subst (λ (z : List Lexeme). SomeList named z) (append_assoc m (t ∷ b) c ∙ ap (λ (z : List Lexeme). m ++ (t ∷ z)) (sym f))
    (others named (m ++ (t ∷ b)) (param_of n.0 (Some (name_of t)) array) is (sym (and_true named)))
after_type_sound named k.OpenBracket t a rest e (b, c, f, (z, g, q), others) = λ m n.
    let is : IsParam (m ++ (t ∷ z ∷ [])) (param_of n.0 None true) = (m, [], t ∷ z ∷ [], refl, n.1, refl, brackets_are t z (exact t k.OpenBracket w.OpenBracket e refl) q) in
    subst (λ (y : List Lexeme). SomeList named y) (append_assoc m (t ∷ z ∷ []) c ∙ ap (λ (y : List Lexeme). m ++ (t ∷ y)) (sym (f ∙ ap (λ (y : List Lexeme). y ++ c) g)))
    (others named (m ++ (t ∷ z ∷ [])) (param_of n.0 None true) is (sym (and_false named)))
after_type_sound named k.Comma t a rest e h = λ m n. next_param named false m (param_of n.0 None false) t a (nameless m n.0 n.1) (sym (and_false named)) (exact t k.Comma w.Comma e refl) h
after_type_sound named k.Close t a rest e h = λ m n. last_param named false m (param_of n.0 None false) t a (nameless m n.0 n.1) (sym (and_false named)) (exact t k.Close w.Close e refl) h
after_type_sound named _ t a rest e h = absurd h

pub param_sound : (named : Bool) (kind : TerminalKind) (t : Lexeme) (a rest : List Lexeme) → kind_of_terminal t.terminal ≡ kind → Given (param named kind) a rest → SomeList named (t ∷ a)
param_sound named kind t a rest e h =
    let x = split_onto (type_name kind) (s.AfterType named) [] a rest h in
    subst (λ (z : List Lexeme). SomeList named (t ∷ z)) (sym x.2) (x.4 (t ∷ x.0) (type_name_sound kind t x.0 (x.1 ++ rest) e x.3))

-- ---- the whole list

-- a list that isn't the terminal `void` alone
listed : (ts : List Lexeme) → ((b : List Lexeme) (c : Lexeme) (d : List Lexeme) → ts ≡ b ++ (c ∷ d) → Is w.Close c → terminals b ≢ w.Void ∷ []) → SomeList true ts → SomeParams ts
listed ts f (p, ps, b, c, d, e, h, is, ends) = (p ∷ ps, b, c, d, e, inr (f b c d e is, h), is, ends)

not_void : (t : Lexeme) (a : List Lexeme) → ¬ (Is w.Void t) → (b : List Lexeme) (c : Lexeme) (d : List Lexeme) → (t ∷ a) ≡ (b ++ (c ∷ d)) → Is w.Close c → terminals b ≢ w.Void ∷ []
not_void t a ne b c d e is v =
    let x = one_terminal b w.Void v in
    let f : t ∷ a ≡ x.0 ∷ c ∷ d = e ∙ ap (λ (z : List Lexeme). z ++ (c ∷ d)) x.1 in
    let g : t ≡ x.0 = cc in
    ne (ap (λ (z : Lexeme). z.terminal) g ∙ x.2)

not_void_alone : (v t : Lexeme) (a : List Lexeme) → ¬ (Is w.Close t) → (b : List Lexeme) (c : Lexeme) (d : List Lexeme) → (v ∷ t ∷ a) ≡ (b ++ (c ∷ d)) → Is w.Close c → terminals b ≢ w.Void ∷ []
not_void_alone v t a ne b c d e is p =
    let x = one_terminal b w.Void p in
    let f : v ∷ t ∷ a ≡ x.0 ∷ c ∷ d = e ∙ ap (λ (z : List Lexeme). z ++ (c ∷ d)) x.1 in
    let g : t ≡ c = cc in
    ne (ap (λ (z : Lexeme). z.terminal) g ∙ is)

kind_of : (t : Lexeme) (terminal : Terminal) → Is terminal t → kind_of_terminal t.terminal ≡ kind_of_terminal terminal
kind_of t terminal is = ap kind_of_terminal is

void_type : (t : Lexeme) → Is w.Void t → SomeTypeName (t ∷ [])
void_type t is = type_name_sound k.Void t [] [] (kind_of t w.Void is) (0, (omega arith, refl))

pub after_void_sound : (kind : TerminalKind) (t : Lexeme) (a rest : List Lexeme) → kind_of_terminal t.terminal ≡ kind → Given (after_void kind) a rest → Means s.AfterVoid (t ∷ a) rest
after_void_sound k.Close t a rest e h = λ v is. ([], v ∷ [], t, a, refl, inl (rw is refl, refl), exact t k.Close w.Close e refl, h)
after_void_sound k.Star t a rest e h = λ v is.
    listed (v ∷ t ∷ a) (not_void_alone v t a (λ p. let f = kind_of t w.Close p in absurd cc)) (param_sound true k.Void v (t ∷ a) rest (kind_of v w.Void is) (starred h)) where
      starred : (b : List Lexeme) × (c : List Lexeme) × (a ≡ b ++ c) × Means s.OneStar b (c ++ rest) × Means (s.AfterType true) c rest → Given (param true k.Void) (t ∷ a) rest
      starred (b, c, f, (stars, le, ws), others) = (t ∷ b, c, ap (λ (z : List Lexeme). t ∷ z) f, (suc stars, (omega arith, rw (exact t k.Star w.Star e refl, ws) refl)), others)
after_void_sound kind t a rest e h = λ v is.
    listed (v ∷ t ∷ a) (not_void_alone v t a (λ p. let f = kind_of t w.Close p in absurd cc)) (after_type_sound true kind t a rest e h (v ∷ []) (void_type v is))

pub params_sound : (kind : TerminalKind) (t : Lexeme) (a rest : List Lexeme) → kind_of_terminal t.terminal ≡ kind → Given (params kind) a rest → SomeParams (t ∷ a)
params_sound k.Close t a rest e h = ([], [], t, a, refl, inr (λ p. absurd cc, refl), exact t k.Close w.Close e refl, h)
params_sound k.Void t a rest e h = h t (exact t k.Void w.Void e refl)
params_sound kind t a rest e h = listed (t ∷ a) (not_void t a (λ p. let f = kind_of t w.Void p in absurd cc)) (param_sound true kind t a rest e h)

-- ---- behind the list

pub ending_sound : (named : Bool) (kind : TerminalKind) (t : Lexeme) (a rest : List Lexeme) → kind_of_terminal t.terminal ≡ kind → Given (ending named kind) a rest → Ends named (t ∷ a)
ending_sound true k.Semicolon t a rest e h = inl (t, ap (λ (z : List Lexeme). t ∷ z) h, exact t k.Semicolon w.Semicolon e refl)
ending_sound false k.Semicolon t a rest e h = inl (t, ap (λ (z : List Lexeme). t ∷ z) h, exact t k.Semicolon w.Semicolon e refl)
ending_sound true k.OpenBrace t a rest e (b, c, f, items, (z, g, q)) = inr (refl, (t, b, z, rw (f, g) refl, exact t k.OpenBrace w.OpenBrace e refl, items, q))
ending_sound true _ t a rest e h = absurd h
ending_sound false _ t a rest e h = absurd h
