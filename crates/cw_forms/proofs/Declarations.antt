-- What derives a declaration, a parameter or a header derives one that is alike of the tokens that are kept.
use Rattle.std.proofs.Common.{◌≡◌, ℕ, Bool, true, false, List, [], ◌∷◌, ◌++◌, map, length, Some, None, refl, sym, ap, subst, ◌∙◌, inl, inr, arith}
use Rattle.cw_syntax.specs.declared.program.Name.{Name}
use Rattle.cw_syntax.specs.declared.program.CType.{CType}
use Rattle.cw_syntax.specs.declared.program.Param.{Param}
use Rattle.cw_syntax.specs.Trees.{Tree, Trees, none, more, Declared, Declaration, Prototype}
use Rattle.cw_grammar.specs.declared.terminals.Terminal.TheVariants as w
use Rattle.cw_grammar.specs.declared.terminals.Lexeme.{Lexeme}
use Rattle.cw_grammar.specs.Lexemes.{Is, name_of, from_of, to_of, IsOptional, AreSeparated, IsBetween, trees}
use Rattle.cw_grammar.specs.Declarations.{Expressions, IsName, IsStorage, Specifiers, AreSpecifiers, IsArray, AreElements, IsInitialiser, IsItem, IsDeclaration, IsBrackets, IsParam, AreParams}
use Rattle.cw_grammar.specs.Declarations.{IsHeader, IsPrototype}
use Rattle.cw_forms.specs.Moved.{moved, Pairs, AreKept, SameName, Alike, AllAlike}
use Rattle.cw_forms.specs.Declared.{Both, MovedName, SameParam, SameItem, SameDeclaration, SamePrototype}
use Rattle.cw_forms.proofs.Kept.{terminals_moved, empty_moved, parts_moved, three_moved, flag_moved, type_moved, stars_moved, type_name_moved, kept_as, kept_parts, Moves, separated_moves}
use Rattle.cw_forms.proofs.Kept.{between_moves, ended_moves, trees_alike}

pub pairs_length : {X Y : Type 0} (R : X → Y → Type 0) (xs : List X) (ys : List Y) → Pairs R xs ys → length ys ≡ length xs
pairs_length R [] [] h = refl
pairs_length R [] (y ∷ ys) h = absurd h
pairs_length R (x ∷ xs) [] h = absurd h
pairs_length R (x ∷ xs) (y ∷ ys) h = let rest = pairs_length R xs ys h.1 in omega (arith, rest)

storage_moved : (d : ℕ) (ts : List Lexeme) (external fixed : Bool) → IsStorage ts external fixed → IsStorage (map (moved d) ts) external fixed
storage_moved d ts false false h = empty_moved d ts h
storage_moved d ts true false h = terminals_moved d ts ∙ h
storage_moved d ts false true h = terminals_moved d ts ∙ h
storage_moved d ts true true h = absurd h

specifiers_moved : (d : ℕ) (ts : List Lexeme) (specs : Specifiers) → AreSpecifiers ts specs → AreSpecifiers (map (moved d) ts) specs
specifiers_moved d ts specs (a, b, c, whole, storage, flag, type) = (
  map (moved d) a,
  map (moved d) b,
  map (moved d) c,
  three_moved d ts a b c whole,
  storage_moved d a specs.external specs.fixed storage,
  flag_moved d w.Const b specs.constant flag,
  type_moved d c specs.base specs.unsigned type,
)

four_moved : (d : ℕ) (ts a b c e : List Lexeme) → ts ≡ a ++ (b ++ (c ++ e)) → map (moved d) ts ≡ map (moved d) a ++ (map (moved d) b ++ (map (moved d) c ++ map (moved d) e))
four_moved d ts a b c e whole = parts_moved d ts a (b ++ (c ++ e)) whole ∙ ap (λ (z : List Lexeme). map (moved d) a ++ z) (three_moved d (b ++ (c ++ e)) b c e refl)

brackets_moved : (d : ℕ) (ts : List Lexeme) (b : Bool) → IsBrackets ts b → IsBrackets (map (moved d) ts) b
brackets_moved d ts true h = terminals_moved d ts ∙ h
brackets_moved d ts false h = empty_moved d ts h

module _ (source form : List ℕ) (d : ℕ) where
  abbrev K : List Lexeme → Type 0
  K ts = AreKept source form d ts

  abbrev m : List Lexeme → List Lexeme
  m ts = map (moved d) ts

  name_moves : Moves source form d IsName (MovedName source form d)
  name_moves ts x k (n, whole, is, e) =
      let own = kept_as source form d ts (n ∷ []) whole k in
      (name_of (moved d n), (moved d n, ap m whole, is, refl), subst (λ (z : Name). MovedName source form d z (name_of (moved d n))) (sym e) (own.0, refl))

  pub optional_moves : {X : Type 0} (P : List Lexeme → X → Type 0) (A : X → X → Type 0) → Moves source form d P A → Moves source form d (IsOptional P) (Both A)
  optional_moves P A f ts None k h = (None, empty_moved d ts h, tt)
  optional_moves P A f ts (Some x) k h = let q = f ts x k h in (Some q.0, q.1, q.2)

  -- ---- declarations

  module _ (E : Expressions) (rec : Moves source form d E (Alike source form)) where
    array_moves : Moves source form d (IsArray E) (Both (Both (Alike source form)))
    array_moves ts x k h =
        optional_moves (IsBetween w.OpenBracket w.CloseBracket (IsOptional E)) (Both (Alike source form))
        (λ us y own is. between_moves source form d (IsOptional E) (Both (Alike source form)) (optional_moves E (Alike source form) rec) w.OpenBracket w.CloseBracket us y own is) ts x k h

    elements_moves : Moves source form d (AreElements E) (Pairs (Alike source form))
    elements_moves ts es k (a, b, trailing, whole, some, are, comma) =
        let own = kept_parts source form d ts a b whole k in
        let q = separated_moves source form d E (Alike source form) rec es a own.0 are in
        (q.0, (m a, m b, trailing, parts_moved d ts a b whole, omega (arith, some, pairs_length (Alike source form) es q.0 q.2), q.1, flag_moved d w.Comma b trailing comma), q.2)

    braced : (es : Trees) (ts : List Lexeme) → ((t : Lexeme) × (b : List Lexeme) × (elements : List Tree)
        × (ts ≡ t ∷ b) × Is w.Assign t × IsBetween w.OpenBrace w.CloseBrace (AreElements E) b elements × (es ≡ trees elements)) → IsInitialiser E ts es true
    braced none ts h = h
    braced (more x none) ts h = h
    braced (more x (more y z)) ts h = h

    by_braces : (es : Trees) (ts : List Lexeme) → K ts → ((t : Lexeme) × (b : List Lexeme) × (elements : List Tree)
        × (ts ≡ t ∷ b) × Is w.Assign t × IsBetween w.OpenBrace w.CloseBrace (AreElements E) b elements × (es ≡ trees elements))
        → (us : Trees) × IsInitialiser E (m ts) us true × AllAlike source form es us
    by_braces es ts k (t, b, elements, whole, is, inner, e) =
        let own = kept_as source form d ts (t ∷ b) whole k in
        let q = between_moves source form d (AreElements E) (Pairs (Alike source form)) elements_moves w.OpenBrace w.CloseBrace b elements own.1 inner in (
          trees q.0,
          braced (trees q.0) (m ts) (moved d t, m b, q.0, ap m whole, is, q.1, refl),
          subst (λ (z : Trees). AllAlike source form z (trees q.0)) (sym e) (trees_alike source form d elements q.0 q.2),
        )

    initialiser_moves : (es : Trees) (braces : Bool) (ts : List Lexeme) → K ts → IsInitialiser E ts es braces → (us : Trees) × IsInitialiser E (m ts) us braces × AllAlike source form es us
    initialiser_moves none false ts k h = (none, empty_moved d ts h, tt)
    initialiser_moves (more x none) false ts k (t, b, whole, is, first) =
        let q = rec b x (kept_as source form d ts (t ∷ b) whole k).1 first in
        (more q.0 none, (moved d t, m b, ap m whole, is, q.1), (q.2, tt))
    initialiser_moves (more x (more y z)) false ts k h = absurd h
    initialiser_moves none true ts k h = by_braces none ts k h
    initialiser_moves (more x none) true ts k h = by_braces (more x none) ts k h
    initialiser_moves (more x (more y z)) true ts k h = by_braces (more x (more y z)) ts k h

    item_moves : (specs : Specifiers) → Moves source form d (IsItem E specs) (SameItem source form d)
    item_moves specs ts x k (a, b, c, e, stars, whole, are, kind, name, array, init) =
        let own = kept_parts source form d ts a (b ++ (c ++ e)) whole k in
        let second = kept_parts source form d (b ++ (c ++ e)) b (c ++ e) refl own.1 in
        let third = kept_parts source form d (c ++ e) c e refl second.1 in
        let n = name_moves b x.name second.0 name in
        let y = array_moves c x.array third.0 array in
        let z = initialiser_moves x.init x.braces e third.1 init in
        let item : Declared = record { kind = x.kind; name = n.0; array = y.0; init = z.0; braces = x.braces } in
        (item, (m a, m b, m c, m e, stars, four_moved d ts a b c e whole, stars_moved d a stars are, kind, n.1, y.1, z.1), (refl, n.2, y.2, z.2, refl))

    pub declaration_moves : Moves source form d (IsDeclaration E) (SameDeclaration source form d)
    declaration_moves ts x k (a, b, specs, whole, are, external, fixed, constant, some, items, from, to) =
        let own = kept_parts source form d ts a b whole k in
        let q = ended_moves source form d (AreSeparated (IsItem E specs)) (Pairs (SameItem source form d)) (λ us ys l is. separated_moves source form d (IsItem E specs)
        (SameItem source form d) (item_moves specs) ys us l is) w.Semicolon b x.items own.1 items in
        let d' : Declaration = record { external = x.external; fixed = x.fixed; constant = x.constant; items = q.0; from = from_of (m ts); to = to_of (m ts) } in (
          d',
          (
            m a,
            m b,
            specs,
            parts_moved d ts a b whole,
            specifiers_moved d a specs are,
            external,
            fixed,
            constant,
            omega (
              arith,
              some,
              pairs_length
                  (SameItem source form d) x.items q.0 q.2,
            ),
            q.1,
            refl,
            refl,
          ),
          (refl, refl, q.2),
        )

  -- ---- functions

  weak_name : Moves source form d IsName (SameName source form)
  weak_name ts x k h = let q = name_moves ts x k h in (q.0, q.1, q.2.0)

  param_moves : Moves source form d IsParam (SameParam source form)
  param_moves ts p k (a, b, c, whole, kind, name, brackets) =
      let own = kept_parts source form d ts a (b ++ c) whole k in
      let second = kept_parts source form d (b ++ c) b c refl own.1 in
      let n = optional_moves IsName (SameName source form) weak_name b p.name second.0 name in
      let q : Param = record { kind = p.kind; name = n.0; array = p.array } in
      (q, (m a, m b, m c, three_moved d ts a b c whole, type_name_moved d a p.kind kind, n.1, brackets_moved d c p.array brackets), n.2)

  params_moves : Moves source form d AreParams (Pairs (SameParam source form))
  params_moves ts ps k (inl (only, none_there)) = ([], inl (terminals_moved d ts ∙ only, refl), subst (λ (z : List Param). Pairs (SameParam source form) z []) (sym none_there) tt)
  params_moves ts ps k (inr (other, are)) =
      let q = separated_moves source form d IsParam (SameParam source form) param_moves ps ts k are in
      (q.0, inr ((λ e. other (sym (terminals_moved d ts) ∙ e)), q.1), q.2)

  pub header_moves : (ts : List Lexeme) (name : Name) (result : CType) (params : List Param) → K ts → IsHeader ts name result params
      → (n : Name) × (ps : List Param) × IsHeader (m ts) n result ps × MovedName source form d name n × Pairs (SameParam source form) params ps
  header_moves ts name result params k (a, b, c, e, specs, stars, whole, are, stars_are, result_is, name_is, params_are) =
      let own = kept_parts source form d ts a (b ++ (c ++ e)) whole k in
      let second = kept_parts source form d (b ++ (c ++ e)) b (c ++ e) refl own.1 in
      let third = kept_parts source form d (c ++ e) c e refl second.1 in
      let n = name_moves c name third.0 name_is in
      let q = between_moves source form d AreParams (Pairs (SameParam source form)) params_moves w.Open w.Close e params third.1 params_are in
      (n.0, q.0, (m a, m b, m c, m e, specs, stars, four_moved d ts a b c e whole, specifiers_moved d a specs are, stars_moved d b stars stars_are, result_is, n.1, q.1), n.2, q.2)

  pub prototype_moves : Moves source form d IsPrototype (SamePrototype source form)
  prototype_moves ts p k (a, s, whole, header, is) =
      let own = kept_parts source form d ts a (s ∷ []) whole k in
      let q = header_moves a p.name p.result p.params own.0 header in
      let p' : Prototype = record { name = q.0; result = p.result; params = q.1 } in
      (p', (m a, moved d s, parts_moved d ts a (s ∷ []) whole, q.2, is), (q.3.0, q.4))
