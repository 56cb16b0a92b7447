-- The recogniser reads declarations.
use Rattle.std.proofs.Common.{◌≡◌, ℕ, ◌<◌, Bool, true, false, List, [], ◌∷◌, ◌++◌, length, refl, sym, ap, subst, append_assoc, Option, Some, None, arith}
use Rattle.std.proofs.lemmas.List.{append-nil}
use Rattle.std.specs.Prelude.{is_some}
use Rattle.cw_syntax.specs.Trees.{Tree, Trees, none, more, Declared, Declaration}
use Rattle.cw_grammar.specs.declared.terminals.Terminal.{Terminal}
use Rattle.cw_grammar.specs.declared.terminals.Terminal.TheVariants as w
use Rattle.cw_grammar.specs.declared.terminals.Lexeme.{Lexeme}
use Rattle.cw_grammar.specs.Lexemes.{Is, IsFlag, IsOptional, AreSeparated, IsBetween, IsEnded}
use Rattle.cw_grammar.specs.Types.{AreStars}
use Rattle.cw_grammar.specs.Expressions.{IsExpression}
use Rattle.cw_grammar.specs.Declarations.{Specifiers, IsArray, AreElements, IsInitialiser, IsItem, IsDeclaration}
use Rattle.cw_recogniser.specs.declared.kinds.TerminalKind.{TerminalKind}
use Rattle.cw_recogniser.specs.declared.kinds.TerminalKind.TheVariants as k
use Rattle.cw_recogniser.specs.declared.symbols.Symbol.{Symbol}
use Rattle.cw_recogniser.specs.declared.symbols.Symbol.TheVariants as s
use Rattle.cw_recogniser.specs.Kinds.{kind_of_terminal}
use Rattle.cw_recogniser.specs.Machine.{Next, onto, after, expression}
use Rattle.cw_recogniser.proofs.Accepting.{Accepts, step, skip, pass, instead}
use Rattle.cw_recogniser.proofs.Heads.{head, head_is, untaken, head_wider, is_end}
use Rattle.cw_grammar.proofs.Wording.{one_terminal}
use Rattle.cw_recogniser.proofs.TypesRead.{EndsType, reads_stars, stars_end, Declares, reads_specifiers}
use Rattle.cw_recogniser.proofs.ExpressionsRead.{reads}

pub onto_none : (next : Next) → next ≡ onto next []
onto_none None = refl
onto_none (Some new) = ap Some (sym (append-nil new))

pub maybe_begins : (kind : TerminalKind) → is_some (expression kind) ≡ true → after s.MaybeExpression kind ≡ onto (expression kind) []
maybe_begins kind e = onto_none (expression kind)

pub initial_begins : (kind : TerminalKind) → is_some (expression kind) ≡ true → after s.Initial kind ≡ onto (expression kind) []
initial_begins k.OpenBrace e = absurd cc
initial_begins k.Open e = refl
initial_begins k.Name e = refl
initial_begins k.Constant e = refl
initial_begins k.Text e = refl
initial_begins k.SizeOf e = refl
initial_begins k.Sign e = refl
initial_begins k.Both e = refl
initial_begins k.Star e = refl
initial_begins k.Step e = refl
initial_begins _ e = absurd cc

elements_begin : (kind : TerminalKind) → is_some (expression kind) ≡ true → after s.Elements kind ≡ onto (expression kind) (s.MoreElements ∷ [])
elements_begin kind e = refl

-- no expression begins with what ends one
no_begin : (kind : TerminalKind) → is_end kind ≡ true → is_some (after s.MaybeExpression kind) ≡ false
no_begin k.Close e = refl
no_begin k.CloseBracket e = refl
no_begin k.CloseBrace e = refl
no_begin k.Semicolon e = refl
no_begin k.Comma e = refl
no_begin _ e = absurd cc

-- behind an item
abbrev pub is_item_end : TerminalKind → Bool
is_item_end k.Comma = true
is_item_end k.Semicolon = true
is_item_end _ = false

item_end_ends : (kind : TerminalKind) → is_item_end kind ≡ true → is_end kind ≡ true
item_end_ends k.Comma e = refl
item_end_ends k.Semicolon e = refl
item_end_ends _ e = absurd cc

-- behind an array's brackets
abbrev is_value_end : TerminalKind → Bool
is_value_end k.Assign = true
is_value_end kind = is_item_end kind

item_end_wider : (kind : TerminalKind) → is_item_end kind ≡ true → is_value_end kind ≡ true
item_end_wider k.Comma e = refl
item_end_wider k.Semicolon e = refl
item_end_wider _ e = absurd cc

no_array : (kind : TerminalKind) → is_value_end kind ≡ true → is_some (after s.Array kind) ≡ false
no_array k.OpenBracket e = absurd cc
no_array _ e = refl

no_initialiser : (kind : TerminalKind) → is_item_end kind ≡ true → is_some (after s.Initialiser kind) ≡ false
no_initialiser k.Assign e = absurd cc
no_initialiser _ e = refl

module _ (n : ℕ) where
  -- an expression that may be absent, before a punctuator
  pub reads_optional : (x : Option Tree) (ts : List Lexeme) (terminal : Terminal) (c : Lexeme) (rest : List Lexeme) (below : List Symbol) → IsOptional (IsExpression n) ts x → Is terminal c
      → is_end (kind_of_terminal terminal) ≡ true → Accepts below (c ∷ rest) → Accepts (s.MaybeExpression ∷ below) (ts ++ (c ∷ rest))
  reads_optional None ts terminal c rest below d is e h = rw d (skip refl (untaken s.MaybeExpression is_end no_begin (c ∷ rest) (head_is is_end terminal c rest is e)) h)
  reads_optional (Some x) ts terminal c rest below d is e h =
      instead {first = s.Expression} {symbol = s.MaybeExpression} [] refl maybe_begins ((reads n).expression ts x (c ∷ rest) below d (head_is is_end terminal c rest is e) h)

  reads_array : (array : Option (Option Tree)) (ts rest : List Lexeme) (below : List Symbol) → IsArray (IsExpression n) ts array → head is_value_end rest ≡ true
      → Accepts below rest → Accepts (s.Array ∷ below) (ts ++ rest)
  reads_array None ts rest below d f h = rw d (skip refl (untaken s.Array is_value_end no_array rest f) h)
  reads_array (Some x) ts rest below (o, inner, c, e, p, q, d) f h =
      rw (e, append_assoc) (step p refl (reads_optional x inner w.CloseBracket c rest (s.CloseBracket ∷ below) d q refl (step q refl h)))

  reads_listed : (xs : List Tree) (x : Tree) (ts rest : List Lexeme) (below : List Symbol) → AreSeparated (IsExpression n) ts (x ∷ xs) → head is_end rest ≡ true
      → Accepts (s.MoreElements ∷ below) rest → Accepts (s.Expression ∷ s.MoreElements ∷ below) (ts ++ rest)
  reads_listed [] x ts rest below d f h = (reads n).expression ts x rest (s.MoreElements ∷ below) d f h
  reads_listed (y ∷ ys) x ts rest below (a, m, b, e, comma, p, q) f h =
      rw (e, append_assoc) ((reads n).expression a x (m ∷ (b ++ rest)) (s.MoreElements ∷ below) p (head_is is_end w.Comma m (b ++ rest) comma refl)
      (step comma refl (instead {first = s.Expression} {symbol = s.Elements} (s.MoreElements ∷ []) refl elements_begin (reads_listed ys y b rest below q f h))))

  reads_trailing : (trailing : Bool) (b : List Lexeme) (c : Lexeme) (rest : List Lexeme) (below : List Symbol) → IsFlag w.Comma b trailing → Is w.CloseBrace c → Accepts below rest
      → Accepts (s.MoreElements ∷ s.CloseBrace ∷ below) (b ++ (c ∷ rest))
  reads_trailing true b c rest below g is h = let x = one_terminal b w.Comma g in rw x.1 (step x.2 refl (pass is refl refl (step is refl h)))
  reads_trailing false b c rest below g is h = rw g (pass is refl refl (step is refl h))

  trailing_ends : (trailing : Bool) (b : List Lexeme) (c : Lexeme) (rest : List Lexeme) → IsFlag w.Comma b trailing → Is w.CloseBrace c → head is_end (b ++ (c ∷ rest)) ≡ true
  trailing_ends true b c rest g is = let x = one_terminal b w.Comma g in rw (x.1, x.2) refl
  trailing_ends false b c rest g is = rw (g, is) refl

  reads_elements : (es : List Tree) (ts : List Lexeme) (c : Lexeme) (rest : List Lexeme) (below : List Symbol) → AreElements (IsExpression n) ts es → Is w.CloseBrace c
      → Accepts below rest → Accepts (s.Expression ∷ s.MoreElements ∷ s.CloseBrace ∷ below) (ts ++ (c ∷ rest))
  reads_elements [] ts c rest below (a, b, trailing, e, some, d, g) is h = absurd (omega arith)
  reads_elements (x ∷ xs) ts c rest below (a, b, trailing, e, some, d, g) is h =
      rw (e, append_assoc) (reads_listed xs x a (b ++ (c ∷ rest)) (s.CloseBrace ∷ below) d (trailing_ends trailing b c rest g is) (reads_trailing trailing b c rest below g is h))

  -- `=` and a value
  abbrev IsBraced : List Lexeme → Type 0
  IsBraced ts = (t : Lexeme) × (b : List Lexeme) × (elements : List Tree) × (ts ≡ t ∷ b) × Is w.Assign t × IsBetween w.OpenBrace w.CloseBrace (AreElements (IsExpression n)) b elements

  reads_braced : (ts rest : List Lexeme) (below : List Symbol) → IsBraced ts → Accepts below rest → Accepts (s.Initialiser ∷ below) (ts ++ rest)
  reads_braced ts rest below (t, b, elements, e, p, (o, inner, c, e2, q, z, d)) h = rw (e, e2, append_assoc) (step p refl (step q refl (reads_elements elements inner c rest below d z h)))

  reads_initialiser : (init : Trees) (braces : Bool) (ts rest : List Lexeme) (below : List Symbol) → IsInitialiser (IsExpression n) ts init braces → head is_item_end rest ≡ true
      → Accepts below rest → Accepts (s.Initialiser ∷ below) (ts ++ rest)
  reads_initialiser none false ts rest below d f h = rw d (skip refl (untaken s.Initialiser is_item_end no_initialiser rest f) h)
  reads_initialiser (more x none) false ts rest below (t, b, e, p, d) f h =
      rw e (step p refl (instead {first = s.Expression} {symbol = s.Initial} [] refl initial_begins
      ((reads n).expression b x rest below d (head_wider is_item_end is_end item_end_ends rest f) h)))
  reads_initialiser (more x (more y z)) false ts rest below d f h = absurd d
  reads_initialiser none true ts rest below (t, b, es, e, p, d, _) f h = reads_braced ts rest below (t, b, es, e, p, d) h
  reads_initialiser (more x none) true ts rest below (t, b, es, e, p, d, _) f h = reads_braced ts rest below (t, b, es, e, p, d) h
  reads_initialiser (more x (more y z)) true ts rest below (t, b, es, e, p, d, _) f h = reads_braced ts rest below (t, b, es, e, p, d) h

  initialiser_head : (init : Trees) (braces : Bool) (ts rest : List Lexeme) → IsInitialiser (IsExpression n) ts init braces → head is_item_end rest ≡ true → head is_value_end (ts ++ rest) ≡ true
  initialiser_head none false ts rest d f = rw d (head_wider is_item_end is_value_end item_end_wider rest f)
  initialiser_head (more x none) false ts rest (t, b, e, p, d) f = rw (e, p) refl
  initialiser_head (more x (more y z)) false ts rest d f = absurd d
  initialiser_head none true ts rest (t, b, es, e, p, d, _) f = rw (e, p) refl
  initialiser_head (more x none) true ts rest (t, b, es, e, p, d, _) f = rw (e, p) refl
  initialiser_head (more x (more y z)) true ts rest (t, b, es, e, p, d, _) f = rw (e, p) refl

  -- ---- items: the stars and the name of the first one, and the others

  pub record FirstItem (ts rest : List Lexeme) (below : List Symbol) : Type 0 where
    pub a : List Lexeme
    pub name : Lexeme
    pub others : List Lexeme
    pub stars : ℕ
    pub split : ts ≡ a ++ (name ∷ others)
    pub are_stars : AreStars a stars
    pub is_name : Is w.Name name
    pub ok : Accepts (s.Array ∷ s.Initialiser ∷ s.MoreItems ∷ below) (others ++ rest)

  pub reads_first : {ts rest : List Lexeme} {below : List Symbol} → FirstItem ts rest below → Accepts (s.TwoStars ∷ s.Name ∷ s.Array ∷ s.Initialiser ∷ s.MoreItems ∷ below) (ts ++ rest)
  reads_first {ts} {rest} {below} i = rw (i.split, append_assoc)
      (reads_stars i.stars i.a (i.name ∷ (i.others ++ rest)) (s.Name ∷ s.Array ∷ s.Initialiser ∷ s.MoreItems ∷ below) i.are_stars (rw i.is_name refl) (step i.is_name refl i.ok))

  item_first : (specs : Specifiers) (x : Declared) (ts rest : List Lexeme) (below : List Symbol) → IsItem (IsExpression n) specs ts x → head is_item_end rest ≡ true
      → Accepts (s.MoreItems ∷ below) rest → FirstItem ts rest below
  item_first specs x ts rest below (a, b, c, d, stars, e, are, kind, (m, e2, name, _), array, init) f h = record {
    a = a;
    name = m;
    others = c ++ d;
    stars = stars;
    split = rw (e, e2) refl;
    are_stars = are;
    is_name = name;
    ok = rw append_assoc (reads_array x.array c (d ++ rest) (s.Initialiser ∷ s.MoreItems ∷ below) array (initialiser_head x.init x.braces d rest init f)
        (reads_initialiser x.init x.braces d rest (s.MoreItems ∷ below) init f h));
  }

  joined : (a b rest : List Lexeme) (below : List Symbol) → FirstItem a (b ++ rest) below → FirstItem (a ++ b) rest below
  joined a b rest below i = record {
    a = i.a;
    name = i.name;
    others = i.others ++ b;
    stars = i.stars;
    split = rw (i.split, append_assoc) refl;
    are_stars = i.are_stars;
    is_name = i.is_name;
    ok = rw append_assoc i.ok;
  }

  pub items_first : (specs : Specifiers) (xs : List Declared) (x : Declared) (ts : List Lexeme) (c : Lexeme) (rest : List Lexeme) (below : List Symbol)
      → AreSeparated (IsItem (IsExpression n) specs) ts (x ∷ xs) → Is w.Semicolon c → Accepts below (c ∷ rest) → FirstItem ts (c ∷ rest) below
  items_first specs [] x ts c rest below d is h = item_first specs x ts (c ∷ rest) below d (head_is is_item_end w.Semicolon c rest is refl) (pass is refl refl h)
  items_first specs (y ∷ ys) x ts c rest below (a, m, b, e, comma, p, q) is h =
      subst (λ (z : List Lexeme). FirstItem z (c ∷ rest) below) (sym e) (
      joined a (m ∷ b) (c ∷ rest) below (
      item_first specs x a (m ∷ (b ++ (c ∷ rest))) below p (head_is is_item_end w.Comma m (b ++ (c ∷ rest)) comma refl) (step comma refl (reads_first (items_first specs ys y b c rest below q is h)))
      )
      )

  pub first_ends : {ts rest : List Lexeme} {below : List Symbol} → FirstItem ts rest below → EndsType (ts ++ rest)
  first_ends {ts} {rest} {below} i = rw (i.split, append_assoc) (stars_end i.stars i.a (i.name ∷ (i.others ++ rest)) i.are_stars (rw i.is_name refl))

  abbrev pub behind : List Symbol → List Symbol
  behind others = s.TwoStars ∷ s.Name ∷ s.Array ∷ s.Initialiser ∷ s.MoreItems ∷ s.Semicolon ∷ others

  pub first_of_items : (items : List Declared) (specs : Specifiers) (b rest : List Lexeme) (below : List Symbol) → 0 < length items
      → IsEnded w.Semicolon (AreSeparated (IsItem (IsExpression n) specs)) b items → Accepts below rest → FirstItem b rest (s.Semicolon ∷ below)
  first_of_items [] specs b rest below some d h = absurd (omega arith)
  first_of_items (x ∷ xs) specs b rest below some (inner, c, e, is, d) h =
      subst (λ (z : List Lexeme). FirstItem z rest (s.Semicolon ∷ below)) (sym e)
      (joined inner (c ∷ []) rest (s.Semicolon ∷ below) (items_first specs xs x inner c rest (s.Semicolon ∷ below) d is (step is refl h)))

  -- a symbol that begins as declarations do
  pub reads_declaration : (symbol : Symbol) (others : List Symbol) → Declares symbol (behind others) → (x : Declaration) (ts rest : List Lexeme) (below : List Symbol)
      → IsDeclaration (IsExpression n) ts x → Accepts (others ++ below) rest → Accepts (symbol ∷ below) (ts ++ rest)
  reads_declaration symbol others begins x ts rest below (a, b, specs, e, are, _, _, _, some, d, _, _) h =
      let i : FirstItem b rest (s.Semicolon ∷ (others ++ below)) = first_of_items x.items specs b rest (others ++ below) some d h in
      rw (e, append_assoc) (reads_specifiers symbol (behind others) begins (b ++ rest) below (first_ends i) (reads_first i) a specs are)
