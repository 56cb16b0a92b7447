-- The tree that is built of an expression's items is its meaning.
use Rattle.std.proofs.Common.{◌≡◌, ℕ, List, [], ◌∷◌, ◌++◌, map, refl, sym, ap, ◌∙◌, append_assoc}
use Rattle.std.proofs.lemmas.List.{map-append}
use Rattle.cw_rights.specs.declared.words.Regex.{Regex}
use Rattle.cw_rights.specs.Trees.{tree_of, Tree, star as star_of, plus as plus_of, maybe as maybe_of}
use Rattle.cw_regex.specs.declared.text.Sign.TheVariants.{ParenOpen, Bar}
use Rattle.cw_regex.specs.Parts.{sign}
use Rattle.cw_regex.specs.Grammar.{Expression, only, either, Term, single, then, Factor, plain, star, plus, maybe, Atom, literal, group, spelled, spelled_term, spelled_factor, spelled_atom}
use Rattle.cw_regex.specs.Meaning.{joined_seq, joined_alt, terms, factors, factor_meaning, atom_meaning, meaning}
use Rattle.cw_regex.specs.Items.{Item, close, bar, many, some, optional, spelled_items, items, items_term, items_factor, items_atom, Level, Levels, finished, on_last, put_all}

-- the items are spelled as the expression is
mutual
  pub items_spelled : (e : Expression) (rest : List Item) → spelled_items (items e rest) ≡ spelled e (spelled_items rest)
  items_spelled (only t) rest = term_spelled t rest
  items_spelled (either t e) rest = term_spelled t (bar ∷ items e rest) ∙ ap (λ l. spelled_term t (sign Bar ∷ l)) (items_spelled e rest)

  term_spelled : (t : Term) (rest : List Item) → spelled_items (items_term t rest) ≡ spelled_term t (spelled_items rest)
  term_spelled (single f) rest = factor_spelled f rest
  term_spelled (then f t) rest = factor_spelled f (items_term t rest) ∙ ap (spelled_factor f) (term_spelled t rest)

  factor_spelled : (f : Factor) (rest : List Item) → spelled_items (items_factor f rest) ≡ spelled_factor f (spelled_items rest)
  factor_spelled (plain a) rest = atom_spelled a rest
  factor_spelled (star a) rest = atom_spelled a (many ∷ rest)
  factor_spelled (plus a) rest = atom_spelled a (some ∷ rest)
  factor_spelled (maybe a) rest = atom_spelled a (optional ∷ rest)

  atom_spelled : (a : Atom) (rest : List Item) → spelled_items (items_atom a rest) ≡ spelled_atom a (spelled_items rest)
  atom_spelled (literal label ts) rest = refl
  atom_spelled (group e) rest = ap (λ l. sign ParenOpen ∷ l) (items_spelled e (close ∷ rest))

last_changed : (f : Tree → Tree) (ts : List Tree) (t : Tree) → on_last f (ts ++ t ∷ []) ≡ ts ++ f t ∷ []
last_changed f [] t = refl
last_changed f (u ∷ []) t = refl
last_changed f (u ∷ (v ∷ ts)) t = ap (λ l. u ∷ l) (last_changed f (v ∷ ts) t)

pub last_mapped : (f : Tree → Tree) (xs : List Regex) (r s : Regex) → tree_of s ≡ f (tree_of r) → map tree_of (xs ++ s ∷ []) ≡ on_last f (map tree_of (xs ++ r ∷ []))
last_mapped f xs r s e = map-append tree_of xs (s ∷ []) ∙ ap (λ t. map tree_of xs ++ t ∷ []) e ∙ sym (last_changed f (map tree_of xs) (tree_of r))
    ∙ ap (on_last f) (sym (map-append tree_of xs (r ∷ [])))

module _ (format : ℕ) (labels descriptors : List (List ℕ)) where
  abbrev level : List Tree → List Tree → Level
  level a b = record { terms = a; factors = b }

  abbrev at : List Tree → List Tree → List Level → Levels
  at a b outer = record { inner = level a b; outer = outer }

  abbrev go : Levels → List Item → Levels
  go = put_all format labels descriptors

  -- what is put after a factor, with its tree behind the factors before
  mutual
    put_expression : (e : Expression) (a : List Tree) (outer : List Level) (rest : List Item) → (c : List Tree) × (d : List Tree) ×
        (go (at a [] outer) (items e rest) ≡ go (at c d outer) rest) × (c ++ joined_seq d ∷ [] ≡ a ++ terms format labels descriptors e)
    put_expression (only t) a outer rest = (a, factors format labels descriptors t, put_term t a [] outer rest, refl)
    put_expression (either t e) a outer rest =
        let ts = joined_seq (factors format labels descriptors t) in
        let x = put_expression e (a ++ ts ∷ []) outer rest in
        (x.0, x.1, put_term t a [] outer (bar ∷ items e rest) ∙ x.2, x.3 ∙ append_assoc a (ts ∷ []) (terms format labels descriptors e))

    put_term : (t : Term) (a b : List Tree) (outer : List Level) (rest : List Item) → go (at a b outer) (items_term t rest) ≡ go (at a (b ++ factors format labels descriptors t) outer) rest
    put_term (single f) a b outer rest = put_factor f a b outer rest
    put_term (then f t) a b outer rest =
        let m = factor_meaning format labels descriptors f in
        put_factor f a b outer (items_term t rest) ∙ put_term t a (b ++ m ∷ []) outer rest ∙ ap (λ l. go (at a l outer) rest) (append_assoc b (m ∷ []) (factors format labels descriptors t))

    put_factor : (f : Factor) (a b : List Tree) (outer : List Level) (rest : List Item) → go (at a b outer) (items_factor f rest) ≡ go
        (at a (b ++ factor_meaning format labels descriptors f ∷ []) outer) rest
    put_factor (plain x) a b outer rest = put_atom x a b outer rest
    put_factor (star x) a b outer rest = put_atom x a b outer (many ∷ rest) ∙ ap (λ l. go (at a l outer) rest) (last_changed star_of b (atom_meaning format labels descriptors x))
    put_factor (plus x) a b outer rest = put_atom x a b outer (some ∷ rest) ∙ ap (λ l. go (at a l outer) rest) (last_changed plus_of b (atom_meaning format labels descriptors x))
    put_factor (maybe x) a b outer rest = put_atom x a b outer (optional ∷ rest) ∙ ap (λ l. go (at a l outer) rest) (last_changed maybe_of b (atom_meaning format labels descriptors x))

    put_atom : (x : Atom) (a b : List Tree) (outer : List Level) (rest : List Item) → go (at a b outer) (items_atom x rest) ≡ go (at a (b ++ atom_meaning format labels descriptors x ∷ []) outer) rest
    put_atom (literal label ts) a b outer rest = refl
    put_atom (group e) a b outer rest =
        let y = put_expression e [] (level a b ∷ outer) (close ∷ rest) in
        y.2 ∙ ap (λ l. go (at a (b ++ joined_alt l ∷ []) outer) rest) y.3

  pub built : (e : Expression) → finished (go (at [] [] []) (items e [])).inner ≡ meaning format labels descriptors e
  built e = let x = put_expression e [] [] [] in ap (λ s. finished s.inner) x.2 ∙ ap joined_alt x.3
