-- What an expression and a test mean: the tree, with numbers for names.
use Rattle.std.specs.Prelude.{ℕ, List, [], ◌∷◌, ◌++◌, map, Bool, true, false, cond, not, Option, Some, None, fold, position, unwrap_or, is_some}
use Rattle.std.specs.Option.{option_map}
use Rattle.std.specs.List.{list_any}
use Rattle.std.specs.Str.{bytes_eq}
use Rattle.cw_rights.specs.declared.words.Test.{Test}
use Rattle.cw_rights.specs.declared.words.Test.TheVariants.{Amb, Holds}
use Rattle.cw_rights.specs.declared.policy.Descriptor.{Descriptor}
use Rattle.cw_rights.specs.declared.capabilities.Rights.{Rights}
use Rattle.cw_rights.specs.Names.{right_mask}
use Rattle.cw_rights.specs.Trees.{Literal, Tree, nothing, never, one, seq, alt, star as star_of, plus as plus_of, maybe as maybe_of}
use Rattle.cw_regex.specs.declared.text.Sign.TheVariants.{BracketOpen, BracketClose}
use Rattle.cw_regex.specs.Parts.{Part, identifier, sign}
use Rattle.cw_regex.specs.Grammar.{Name, Subject, ambient, holds, TestForm, Expression, only, either, Term, single, then, Factor, plain, star, plus, maybe, Atom, literal, group}

-- the identifier is the name of a right in this format
abbrev pub is_right : ℕ → List ℕ → Bool
is_right format w = is_some (right_mask format w)

-- the place of a name in a list, and 0 where it isn't there
abbrev pub number_in : List (List ℕ) → List ℕ → ℕ
number_in names w = unwrap_or (position (bytes_eq w) names) 0

abbrev pub names_of : List Descriptor → List (List ℕ)
names_of descriptors = map (λ d. d.name.items) descriptors

-- a right's name asks for the set that it stands for
abbrev pub need_of : ℕ → List ℕ → Rights
need_of format w = record { 0 = unwrap_or (right_mask format w) 0 }

abbrev pub subject_meaning : ℕ → List (List ℕ) → Subject → Test
subject_meaning format descriptors ambient = Amb
subject_meaning format descriptors (holds d r) = Holds (number_in descriptors d.bytes) (need_of format r.bytes)

-- the wanted truth and the test
abbrev pub test_meaning : ℕ → List (List ℕ) → TestForm → Bool × Test
test_meaning format descriptors t = (not t.negated, subject_meaning format descriptors t.what)

abbrev pub literal_meaning : ℕ → List (List ℕ) → List (List ℕ) → Option Name → List TestForm → Literal
literal_meaning format labels descriptors label tests = record {
  label = option_map (λ name. number_in labels name.bytes) label;
  tests = map (test_meaning format descriptors) tests;
}

-- several parts are a sequence or an alternative, one is itself
abbrev pub chain_seq : List Tree → Tree
chain_seq [] = nothing
chain_seq (t ∷ rest) = seq t (chain_seq rest)

abbrev pub chain_alt : List Tree → Tree
chain_alt [] = never
chain_alt (t ∷ rest) = alt t (chain_alt rest)

abbrev pub joined_seq : List Tree → Tree
joined_seq [] = nothing
joined_seq (t ∷ []) = t
joined_seq (t ∷ (u ∷ rest)) = seq t (seq u (chain_seq rest))

abbrev pub joined_alt : List Tree → Tree
joined_alt [] = never
joined_alt (t ∷ []) = t
joined_alt (t ∷ (u ∷ rest)) = alt t (alt u (chain_alt rest))

module _ (format : ℕ) (labels descriptors : List (List ℕ)) where
  abbrev mutual
    pub terms : Expression → List Tree
    terms (only t) = joined_seq (factors t) ∷ []
    terms (either t e) = joined_seq (factors t) ∷ terms e

    pub factors : Term → List Tree
    factors (single f) = factor_meaning f ∷ []
    factors (then f t) = factor_meaning f ∷ factors t

    pub factor_meaning : Factor → Tree
    factor_meaning (plain a) = atom_meaning a
    factor_meaning (star a) = star_of (atom_meaning a)
    factor_meaning (plus a) = plus_of (atom_meaning a)
    factor_meaning (maybe a) = maybe_of (atom_meaning a)

    pub atom_meaning : Atom → Tree
    atom_meaning (literal label tests) = one (literal_meaning format labels descriptors label tests)
    atom_meaning (group e) = joined_alt (terms e)

  abbrev pub meaning : Expression → Tree
  meaning e = joined_alt (terms e)

-- the labels that an expression names, from left to right, before others
abbrev pub named_label : Option Name → List (List ℕ) → List (List ℕ)
named_label None rest = rest
named_label (Some name) rest = name.bytes ∷ rest

abbrev mutual
  pub labels_of : Expression → List (List ℕ) → List (List ℕ)
  labels_of (only t) rest = labels_of_term t rest
  labels_of (either t e) rest = labels_of_term t (labels_of e rest)

  pub labels_of_term : Term → List (List ℕ) → List (List ℕ)
  labels_of_term (single f) rest = labels_of_factor f rest
  labels_of_term (then f t) rest = labels_of_factor f (labels_of_term t rest)

  pub labels_of_factor : Factor → List (List ℕ) → List (List ℕ)
  labels_of_factor (plain a) rest = labels_of_atom a rest
  labels_of_factor (star a) rest = labels_of_atom a rest
  labels_of_factor (plus a) rest = labels_of_atom a rest
  labels_of_factor (maybe a) rest = labels_of_atom a rest

  pub labels_of_atom : Atom → List (List ℕ) → List (List ℕ)
  labels_of_atom (literal label tests) rest = named_label label rest
  labels_of_atom (group e) rest = labels_of e rest

-- a name goes to the end of a list that lacks it
abbrev pub with_name : List (List ℕ) → List ℕ → List (List ℕ)
with_name names w = cond (list_any (bytes_eq w) names) names (names ++ w ∷ [])

abbrev pub with_names : List (List ℕ) → List (List ℕ) → List (List ℕ)
with_names names ws = fold with_name names ws

-- the identifiers outside brackets
abbrev pub labels_in : Bool → List Part → List (List ℕ)
labels_in inside [] = []
labels_in false (identifier w ∷ rest) = w ∷ labels_in false rest
labels_in true (identifier w ∷ rest) = labels_in true rest
labels_in inside (sign BracketOpen ∷ rest) = labels_in true rest
labels_in inside (sign BracketClose ∷ rest) = labels_in false rest
labels_in inside (sign m ∷ rest) = labels_in inside rest
