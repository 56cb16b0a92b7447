-- What the recogniser takes for a declaration is one.
use Rattle.std.proofs.Common.{◌≡◌, ℕ, max, true, false, List, [], ◌∷◌, ◌++◌, refl, sym, ap, subst, ◌∙◌, append_assoc, Some, None, arith}
use Rattle.std.proofs.lemmas.List.{append-nil}
use Rattle.cw_syntax.specs.Trees.{Tree, Trees, none, more, Declaration}
use Rattle.cw_grammar.specs.declared.terminals.Terminal.TheVariants as w
use Rattle.cw_grammar.specs.declared.terminals.Lexeme.{Lexeme}
use Rattle.cw_grammar.specs.declared.rules.Rule.TheVariants.{Expression}
use Rattle.cw_grammar.specs.Lexemes.{Is, name_of, from_of, to_of, IsBetween, trees}
use Rattle.cw_grammar.specs.Expressions.{IsExpression}
use Rattle.cw_grammar.specs.Declarations.{pointer, AreElements, IsInitialiser, IsItem, IsDeclaration}
use Rattle.cw_recogniser.specs.declared.kinds.TerminalKind.{TerminalKind}
use Rattle.cw_recogniser.specs.declared.kinds.TerminalKind.TheVariants as k
use Rattle.cw_recogniser.specs.declared.symbols.Symbol.TheVariants as s
use Rattle.cw_recogniser.specs.Kinds.{kind_of_terminal}
use Rattle.cw_recogniser.specs.Machine.{after, array, initialiser, initial, more_elements, more_items, expression, specifiers, declaration}
use Rattle.cw_grammar.proofs.Deeper.{expression_deeper, separated_weaker, array_weaker, initialiser_weaker, item_weaker}
use Rattle.cw_recogniser.proofs.Chains.{Stands}
use Rattle.cw_recogniser.proofs.Meanings.{SomeStars, SomeSpecifiers, SomeArray, SomeInitialiser, SomeElements, SomeItem, SomeItems, Means, Follow, Given, split_follow, split_onto, exact}
use Rattle.cw_recogniser.proofs.TypesSound.{specifiers_sound}
use Rattle.cw_recogniser.proofs.ExpressionsSound.{expression_sound}

pub array_none : SomeArray []
array_none = (0, None, refl)

pub array_sound : (kind : TerminalKind) (t : Lexeme) (a rest : List Lexeme) → kind_of_terminal t.terminal ≡ kind → Given (array kind) a rest → SomeArray (t ∷ a)
array_sound k.OpenBracket t a rest e (b, c, f, (n, x, d), (z, g, q)) = (n, Some x, (t, b, z, rw (f, g) refl, exact t k.OpenBracket w.OpenBracket e refl, q, d))
array_sound _ t a rest e h = absurd h

pub initialiser_none : SomeInitialiser []
initialiser_none = (0, none, false, refl)

pub initialiser_sound : (kind : TerminalKind) (t : Lexeme) (a rest : List Lexeme) → kind_of_terminal t.terminal ≡ kind → Given (initialiser kind) a rest → SomeInitialiser (t ∷ a)
initialiser_sound k.Assign t a rest e h = h t (exact t k.Assign w.Assign e refl)
initialiser_sound _ t a rest e h = absurd h

-- ---- elements

pub more_elements_none : (rest : List Lexeme) → Means s.MoreElements [] rest
more_elements_none rest b h = (h.nesting, h.tree ∷ [], (b, [], false, refl, omega arith, h.derives, refl))

pub more_elements_sound : (kind : TerminalKind) (t : Lexeme) (a rest : List Lexeme) → kind_of_terminal t.terminal ≡ kind → Given (more_elements kind) a rest → Means s.MoreElements (t ∷ a) rest
more_elements_sound k.Comma t a rest e h = λ b p. h b t p (exact t k.Comma w.Comma e refl)
more_elements_sound _ t a rest e h = absurd h

pub elements_none : (rest : List Lexeme) → Means s.Elements [] rest
elements_none rest b c h is = (h.nesting, h.tree ∷ [], (b, c ∷ [], true, refl, omega arith, h.derives, rw is refl))

before_elements : (b : List Lexeme) (c : Lexeme) (ts : List Lexeme) → Stands Expression b → Is w.Comma c → SomeElements ts → SomeElements (b ++ (c ∷ ts))
before_elements b c ts h is (n, [], (a, d, trailing, e, some, p, g)) = absurd (omega arith)
before_elements b c ts h is (n, x ∷ xs, (a, d, trailing, e, some, p, g)) =
    let k = max h.nesting n in (
      k,
      h.tree ∷ x ∷ xs,
      (
        b ++ (c ∷ a),
        d,
        trailing,
        ap (λ (z : List Lexeme). b ++ (c ∷ z)) e ∙ sym (append_assoc b (c ∷ a) d),
        omega arith,
        (b, c, a, refl, is, expression_deeper h.nesting k (omega arith) b h.tree h.derives, separated_weaker (IsExpression n) (IsExpression k) (expression_deeper n k (omega arith)) (x ∷ xs) a p),
        g,
      ),
    )

pub elements_sound : (kind : TerminalKind) (t : Lexeme) (a rest : List Lexeme) → kind_of_terminal t.terminal ≡ kind → Given (after s.Elements kind) a rest → Means s.Elements (t ∷ a) rest
elements_sound kind t a rest e h = λ b c p is.
    let x = split_onto (expression kind) s.MoreElements [] a rest h in
    let y = x.4 (t ∷ x.0) (expression_sound kind t x.0 (x.1 ++ rest) e x.3) in
    before_elements b c (t ∷ a) p is (subst (λ (z : List Lexeme). SomeElements (t ∷ z)) (sym x.2) y)

-- ---- what stands behind `=`

abbrev IsBraced : ℕ → List Lexeme → Trees → Type 0
IsBraced n ts es = (t : Lexeme) × (b : List Lexeme) × (elements : List Tree) × (ts ≡ t ∷ b) × Is w.Assign t
    × IsBetween w.OpenBrace w.CloseBrace (AreElements (IsExpression n)) b elements × (es ≡ trees elements)

braced : (n : ℕ) (ts : List Lexeme) (es : Trees) → IsBraced n ts es → IsInitialiser (IsExpression n) ts es true
braced n ts none h = h
braced n ts (more x none) h = h
braced n ts (more x (more y z)) h = h

pub initial_sound : (kind : TerminalKind) (t : Lexeme) (a rest : List Lexeme) → kind_of_terminal t.terminal ≡ kind → Given (initial kind) a rest → Means s.Initial (t ∷ a) rest
initial_sound k.OpenBrace t a rest e (b, c, f, h, (u, v, g, elements, (z, i, q))) = λ m is.
    let x = elements b h in (
      x.0,
      trees x.1,
      true,
      braced x.0 (m ∷ t ∷ a) (trees x.1)
          (m, t ∷ a, x.1, refl, is, (t, b ++ u, z, rw (f, g, i) (ap (λ (y : List Lexeme). t ∷ y) (sym (append_assoc b u (z ∷ [])))), exact t k.OpenBrace w.OpenBrace e refl, q, x.2), refl),
    )
initial_sound kind t a rest e h = λ m is. let x = expression_sound kind t a rest e h in (x.nesting, more x.tree none, false, (m, t ∷ a, refl, is, x.derives))

-- ---- items

pub item_of : (a : List Lexeme) (m : Lexeme) (c d : List Lexeme) → SomeStars a → Is w.Name m → SomeArray c → SomeInitialiser d → SomeItem (a ++ (m ∷ (c ++ d)))
item_of a m c d (stars, are) is (n, x, p) (l, init, braces, q) specs =
    let k = max n l in (
      k,
      record { kind = pointer specs stars; name = name_of m; array = x; init = init; braces = braces },
      (
        a,
        m ∷ [],
        c,
        d,
        stars,
        refl,
        are,
        refl,
        (m, refl, is, refl),
        array_weaker (IsExpression n) (IsExpression k) (expression_deeper n k (omega arith)) x c p,
        initialiser_weaker
            (IsExpression l) (IsExpression k) (expression_deeper l k (omega arith)) init braces d q,
      ),
    )

pub more_items_none : (rest : List Lexeme) → Means s.MoreItems [] rest
more_items_none rest b i specs = let x = i specs in (x.0, x.1, [], subst (λ (z : List Lexeme). IsItem (IsExpression x.0) specs z x.1) (sym (append-nil b)) x.2)

before_items : (b : List Lexeme) (c : Lexeme) (ts : List Lexeme) → SomeItem b → Is w.Comma c → SomeItems ts → SomeItems (b ++ (c ∷ ts))
before_items b c ts i is others specs =
    let x = i specs in
    let y = others specs in
    let k = max x.0 y.0 in (
      k,
      x.1,
      y.1 ∷ y.2,
      (
        b,
        c,
        ts,
        refl,
        is,
        item_weaker (IsExpression x.0) (IsExpression k) (expression_deeper x.0 k (omega arith)) specs b x.1 x.2,
        separated_weaker
            (IsItem (IsExpression y.0) specs) (IsItem (IsExpression k) specs) (item_weaker (IsExpression y.0) (IsExpression k) (expression_deeper y.0 k (omega arith)) specs) (y.1 ∷ y.2) ts y.3,
      ),
    )

-- stars, a name, brackets, a value, and further items
pub items_of : (a rest : List Lexeme) → Follow (s.TwoStars ∷ s.Name ∷ s.Array ∷ s.Initialiser ∷ s.MoreItems ∷ []) a rest → SomeItems a
items_of a rest (b, c, f, stars, (m, d, g, (z, i, q), (u, v, j, p, (x, y, l, o, others)))) =
    subst (λ (e : List Lexeme). SomeItems e) (sym (rw (f, g, i, j, l) (sym (append_assoc b (z ∷ (u ++ x)) y ∙ ap (λ (e : List Lexeme). b ++ (z ∷ e)) (append_assoc u x y)))))
    (others (b ++ (z ∷ (u ++ x))) (item_of b z u x stars q p o))

pub more_items_sound : (kind : TerminalKind) (t : Lexeme) (a rest : List Lexeme) → kind_of_terminal t.terminal ≡ kind → Given (more_items kind) a rest → Means s.MoreItems (t ∷ a) rest
more_items_sound k.Comma t a rest e h = λ b i. before_items b t a i (exact t k.Comma w.Comma e refl) (items_of a rest h)
more_items_sound _ t a rest e h = absurd h

-- ---- declarations

abbrev pub SomeDeclaration : List Lexeme → Type 0
SomeDeclaration a = (n : ℕ) × (x : Declaration) × IsDeclaration (IsExpression n) a x

pub declaration_of : (a b : List Lexeme) (z : Lexeme) → SomeSpecifiers a → SomeItems b → Is w.Semicolon z → SomeDeclaration (a ++ (b ++ (z ∷ [])))
declaration_of a b z (specs, are) items is =
    let x = items specs in
    let whole = a ++ (b ++ (z ∷ [])) in (
      x.0,
      record { external = specs.external; fixed = specs.fixed; constant = specs.constant; items = x.1 ∷ x.2; from = from_of whole; to = to_of whole },
      (a, b ++ (z ∷ []), specs, refl, are, refl, refl, refl, omega arith, (b, z, refl, is, x.3), refl, refl),
    )

pub declaration_sound : (kind : TerminalKind) (t : Lexeme) (a rest : List Lexeme) → kind_of_terminal t.terminal ≡ kind → Given (declaration kind) a rest → SomeDeclaration (t ∷ a)
declaration_sound kind t a rest e h =
    let x = split_onto (specifiers kind) s.TwoStars (s.Name ∷ s.Array ∷ s.Initialiser ∷ s.MoreItems ∷ s.Semicolon ∷ []) a rest h in
    let y = split_follow (s.TwoStars ∷ s.Name ∷ s.Array ∷ s.Initialiser ∷ s.MoreItems ∷ []) s.Semicolon [] x.1 rest x.4 in
    subst (λ (z : List Lexeme). SomeDeclaration (t ∷ z)) (sym (x.2 ∙ ap (λ (z : List Lexeme). x.0 ++ z) (y.2 ∙ ap (λ (z : List Lexeme). y.0 ++ z) y.4.1)))
    (declaration_of (t ∷ x.0) y.0 y.4.0 (specifiers_sound kind t x.0 (x.1 ++ rest) e x.3) (items_of y.0 (y.1 ++ rest) y.3) y.4.2)
