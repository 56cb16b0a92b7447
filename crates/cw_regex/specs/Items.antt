-- Working definitions: an expression as a list of items, and the tree that is built of them from left to right.
use Rattle.std.specs.Prelude.{ℕ, List, [], ◌∷◌, ◌++◌, Option, map, fold, reverse}
use Rattle.cw_rights.specs.Trees.{Literal, Tree, tree_of, one, star as star_of, plus as plus_of, maybe as maybe_of}
use Rattle.cw_regex.specs.declared.text.Sign.{Sign}
use Rattle.cw_regex.specs.declared.text.Sign.TheVariants.{ParenOpen, ParenClose, Bar, Star, Plus, Question}
use Rattle.cw_regex.specs.declared.build.Frame.{Frame}
use Rattle.cw_regex.specs.declared.build.Building.{Building}
use Rattle.cw_regex.specs.Parts.{Part, sign}
use Rattle.cw_regex.specs.Grammar.{Name, TestForm, Expression, only, either, Term, single, then, Factor, plain, star, plus, maybe, Atom, literal, group, spelled_label, spelled_tests}
use Rattle.cw_regex.specs.Meaning.{literal_meaning, joined_seq, joined_alt}

pub data Item : Type 0 where
  lit : Option Name → List TestForm → Item
  begin : Item  -- `(`
  close : Item
  bar : Item
  many : Item  -- `*`
  some : Item  -- `+`
  optional : Item

abbrev pub spelled_item : Item → List Part → List Part
spelled_item (lit label tests) rest = spelled_label label (spelled_tests tests rest)
spelled_item begin rest = sign ParenOpen ∷ rest
spelled_item close rest = sign ParenClose ∷ rest
spelled_item bar rest = sign Bar ∷ rest
spelled_item many rest = sign Star ∷ rest
spelled_item some rest = sign Plus ∷ rest
spelled_item optional rest = sign Question ∷ rest

abbrev pub spelled_items : List Item → List Part
spelled_items [] = []
spelled_items (i ∷ rest) = spelled_item i (spelled_items rest)

abbrev mutual
  pub items : Expression → List Item → List Item
  items (only t) rest = items_term t rest
  items (either t e) rest = items_term t (bar ∷ items e rest)

  pub items_term : Term → List Item → List Item
  items_term (single f) rest = items_factor f rest
  items_term (then f t) rest = items_factor f (items_term t rest)

  pub items_factor : Factor → List Item → List Item
  items_factor (plain a) rest = items_atom a rest
  items_factor (star a) rest = items_atom a (many ∷ rest)
  items_factor (plus a) rest = items_atom a (some ∷ rest)
  items_factor (maybe a) rest = items_atom a (optional ∷ rest)

  pub items_atom : Atom → List Item → List Item
  items_atom (literal label tests) rest = lit label tests ∷ rest
  items_atom (group e) rest = begin ∷ items e (close ∷ rest)

-- the terms that were closed by `|`, and the factors of the term after them
pub record Level : Type 0 where
  pub terms : List Tree
  pub factors : List Tree

-- the level that is open, and those around it, the innermost first
pub record Levels : Type 0 where
  pub inner : Level
  pub outer : List Level

abbrev pub empty : Level
empty = record { terms = []; factors = [] }

abbrev pub finished : Level → Tree
finished l = joined_alt (l.terms ++ joined_seq l.factors ∷ [])

abbrev pub with_factor : Level → Tree → Level
with_factor l t = record { terms = l.terms; factors = l.factors ++ t ∷ [] }

abbrev pub on_last : (Tree → Tree) → List Tree → List Tree
on_last f [] = []
on_last f (t ∷ []) = f t ∷ []
on_last f (t ∷ (u ∷ rest)) = t ∷ on_last f (u ∷ rest)

abbrev pub closed_into : List Level → Tree → Levels
closed_into [] t = record { inner = with_factor empty t; outer = [] }
closed_into (l ∷ rest) t = record { inner = with_factor l t; outer = rest }

abbrev pub repeated : (Tree → Tree) → Levels → Levels
repeated f s = record { inner = record { terms = s.inner.terms; factors = on_last f s.inner.factors }; outer = s.outer }

abbrev pub with_literal : Levels → Literal → Levels
with_literal s l = record { inner = with_factor s.inner (one l); outer = s.outer }

abbrev pub with_begin : Levels → Levels
with_begin s = record { inner = empty; outer = s.inner ∷ s.outer }

abbrev pub with_close : Levels → Levels
with_close s = closed_into s.outer (finished s.inner)

abbrev pub with_bar : Levels → Levels
with_bar s = record { inner = record { terms = s.inner.terms ++ joined_seq s.inner.factors ∷ []; factors = [] }; outer = s.outer }

abbrev pub put : ℕ → List (List ℕ) → List (List ℕ) → Levels → Item → Levels
put format labels descriptors s (lit label tests) = with_literal s (literal_meaning format labels descriptors label tests)
put format labels descriptors s begin = with_begin s
put format labels descriptors s close = with_close s
put format labels descriptors s bar = with_bar s
put format labels descriptors s many = repeated star_of s
put format labels descriptors s some = repeated plus_of s
put format labels descriptors s optional = repeated maybe_of s

-- the same by the sign that stands in the text
abbrev pub repeated_by : Sign → Tree → Tree
repeated_by Star t = star_of t
repeated_by Plus t = plus_of t
repeated_by m t = maybe_of t

abbrev pub with_sign : Levels → Sign → Levels
with_sign s ParenOpen = with_begin s
with_sign s ParenClose = with_close s
with_sign s Bar = with_bar s
with_sign s m = repeated (repeated_by m) s

abbrev pub put_all : ℕ → List (List ℕ) → List (List ℕ) → Levels → List Item → Levels
put_all format labels descriptors s is = fold (put format labels descriptors) s is

-- the levels that the program's frames stand for
abbrev pub level_of : Frame → Level
level_of f = record { terms = map tree_of f.terms.items; factors = map tree_of f.factors.items }

abbrev pub levels_of : Building → Levels
levels_of b = record { inner = level_of b.inner; outer = reverse (map level_of b.outer.items) }
