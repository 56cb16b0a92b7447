-- What statements that are alike have in them: whole expressions, labels and names.
use Rattle.std.proofs.Common.{ℕ, Bool, List, [], ◌∷◌, ◌++◌, map, Option, None, Some, refl, inl}
use Rattle.std.specs.List.{flat_map}
use Rattle.cw_syntax.specs.Trees.{Tree, Trees, none, more, Declared, Declaration, Stated, Block, Evaluates, Empties, Chooses, Fors}
use Rattle.cw_syntax.specs.Trees.{nothing, nil, cons}
use Rattle.cw_scope.specs.Walks.{Nested, nested, given, listed, size_of, item_trees, declaration_trees, inner}
use Rattle.cw_scope.specs.Names.{declared_names}
use Rattle.cw_forms.specs.Moved.{Pairs, SameName, Alike, AllAlike}
use Rattle.cw_forms.specs.Declared.{Both, SameItem, SameDeclaration}
use Rattle.cw_forms.specs.Statements.{SameWhole, SamePlaced, IsFork, IsExit, IsCalled, StandFor}

pub pairs_both : {X Y : Type 0} (R : X → Y → Type 0) (xs : List X) (ys : List Y) (us : List X) (vs : List Y) → Pairs R xs ys → Pairs R us vs → Pairs R (xs ++ us) (ys ++ vs)
pairs_both R [] [] us vs h k = k
pairs_both R [] (y ∷ ys) us vs h k = absurd h
pairs_both R (x ∷ xs) [] us vs h k = absurd h
pairs_both R (x ∷ xs) (y ∷ ys) us vs h k = (h.0, pairs_both R xs ys us vs h.1 k)

pub pairs_flat : {X Y U V : Type 0} (R : X → Y → Type 0) (S : U → V → Type 0) (f : X → List U) (g : Y → List V) → ((x : X) (y : Y) → R x y → Pairs S (f x) (g y))
    → (xs : List X) (ys : List Y) → Pairs R xs ys
    → Pairs S (flat_map f xs) (flat_map g ys)
pairs_flat R S f g each [] [] h = tt
pairs_flat R S f g each [] (y ∷ ys) h = absurd h
pairs_flat R S f g each (x ∷ xs) [] h = absurd h
pairs_flat R S f g each (x ∷ xs) (y ∷ ys) h = pairs_both S (f x) (g y) (flat_map f xs) (flat_map g ys) (each x y h.0) (pairs_flat R S f g each xs ys h.1)

pub pairs_map : {X Y U V : Type 0} (R : X → Y → Type 0) (S : U → V → Type 0) (f : X → U) (g : Y → V) → ((x : X) (y : Y) → R x y → S (f x) (g y)) → (xs : List X) (ys : List Y)
    → Pairs R xs ys → Pairs S (map f xs) (map g ys)
pairs_map R S f g each [] [] h = tt
pairs_map R S f g each [] (y ∷ ys) h = absurd h
pairs_map R S f g each (x ∷ xs) [] h = absurd h
pairs_map R S f g each (x ∷ xs) (y ∷ ys) h = (each x y h.0, pairs_map R S f g each xs ys h.1)

module _ (source form : List ℕ) where
  abbrev L : Tree → Tree → Type 0
  L x y = Alike source form x y

  pub listed_pairs : (ts us : Trees) → AllAlike source form ts us → Pairs L (listed ts) (listed us)
  listed_pairs none none h = tt
  listed_pairs none (more u us) h = absurd h
  listed_pairs (more t ts) none h = absurd h
  listed_pairs (more t ts) (more u us) h = (h.0, listed_pairs ts us h.1)

  pub given_pairs : (a b : Option Tree) → Both L a b → Pairs L (given a) (given b)
  given_pairs None None h = tt
  given_pairs None (Some y) h = absurd h
  given_pairs (Some x) None h = absurd h
  given_pairs (Some x) (Some y) h = (h, tt)

  size_pairs : (a b : Option (Option Tree)) → Both (Both L) a b → Pairs L (size_of a) (size_of b)
  size_pairs None None h = tt
  size_pairs None (Some y) h = absurd h
  size_pairs (Some x) None h = absurd h
  size_pairs (Some x) (Some y) h = given_pairs x y h

  item_pairs : (d : ℕ) (x y : Declared) → SameItem source form d x y → Pairs L (item_trees x) (item_trees y)
  item_pairs d x y (kind, name, array, init, braces) = pairs_both L (size_of x.array) (size_of y.array) (listed x.init) (listed y.init) (size_pairs x.array y.array array)
      (listed_pairs x.init y.init init)

  pub declaration_pairs : (d : ℕ) (x y : Declaration) → SameDeclaration source form d x y → Pairs L (declaration_trees x) (declaration_trees y)
  declaration_pairs d x y (external, constant, items) = pairs_flat (SameItem source form d) L item_trees item_trees (item_pairs d) x.items y.items items

  pub declared_pairs : (d : ℕ) (x y : Declaration) → SameDeclaration source form d x y → Pairs (SameName source form) (declared_names x) (declared_names y)
  declared_pairs d x y (external, constant, items) = pairs_map (SameItem source form d) (SameName source form) (λ i. i.name) (λ i. i.name) (λ a b h. h.1.0) x.items y.items items

  pub inner_pairs : (ts us : List Tree) → Pairs L ts us → Pairs (SameWhole source form) (map inner ts) (map inner us)
  inner_pairs ts us h = pairs_map L (SameWhole source form) inner inner (λ a b k. (k, refl)) ts us h

  pub one_more : (p q : Nested) (ps qs : List Nested) → SamePlaced source form p q → StandFor source form ps qs → StandFor source form (p ∷ ps) (q ∷ qs)
  one_more p q ps qs same h = (q ∷ [], qs, refl, inl (q, refl, same), h)

  pub called_is : (e again exit test : Tree) (looped : Bool) (from to a b c d g h i j k l m n o p : ℕ) → Alike source form e again → IsFork source form test → IsExit source form exit
      → IsCalled source form (record { statement = Stated (Evaluates e) from to; looped = looped })
      (nested looped (Stated (Block (cons (Stated (Chooses test (Stated (Block (cons (Stated (Evaluates again) a b) (cons (Stated (Evaluates exit) c d)
      (cons (Stated (Fors nothing None None (Stated Empties g h)) i j) nil)))) k l) nothing) m n) nil)) o p))
  called_is e again exit test looped from to a b c d g h i j k l m n o p alike is_test is_exit = record {
    call = e;
    again = again;
    test = test;
    exit = exit;
    alike = alike;
    is_test = is_test;
    is_exit = is_exit;
    whole = refl;
    wholes = refl;
    no_label = refl;
    no_labels = refl;
    no_local = refl;
    no_locals = refl;
    no_jump = refl;
  }
