-- The numbers of a tree are those of names that there are.
use Rattle.std.proofs.Common.{◌≡◌, ℕ, ◌+◌, ◌<◌, ◌≤◌, IfSome, List, [], ◌∷◌, ◌++◌, Bool, true, false, not, ◌&&◌, cond, Vec, Global, Option, Some, None, map, length, unwrap_or, nat_lt}
use Rattle.std.proofs.Common.{refl, sym, subst, ap, ◌∙◌, arith}
use Rattle.std.specs.Option.{option_map}
use Rattle.std.specs.List.{All, list_any, position_or_len}
use Rattle.std.specs.Str.{bytes_eq}
use Rattle.std.proofs.lemmas.List.Elements.{All-nil, All-cons}
use Rattle.std.proofs.lemmas.List.{length-map}
use Rattle.std.proofs.lemmas.List.Folds.{list_any-append}
use Rattle.std.proofs.lemmas.Slice.Eq.{bytes_eq-Decides}
use Rattle.cw_rights.specs.declared.words.Test.{Test}
use Rattle.cw_rights.specs.Names.{right_mask, all_rights}
use Rattle.cw_rights.proofs.Named.{mask_within}
use Rattle.cw_rights.specs.Trees.{Literal, Tree, AllLiterals}
use Rattle.cw_rights.specs.Valid.{IsTestWithin, IsLabelWithin, IsLiteralWithin, IsTreeWithin}
use Rattle.cw_regex.specs.declared.text.Sign.TheVariants.{ParenClose, Bar, Star, Plus, Question}
use Rattle.cw_regex.specs.declared.unknown.Unknown.{Unknown}
use Rattle.cw_regex.specs.declared.unknown.Unknown.TheVariants.{Descriptor, Right}
use Rattle.cw_rights.specs.Valid.{is_name_byte}
use Rattle.cw_regex.specs.Parts.{Part, identifier, sign, is_blank, sign_of, begins_identifier, grown, parts, Placed, grown_at, placed}
use Rattle.cw_regex.specs.Grammar.{Name, Subject, ambient, holds, TestForm, Expression, only, either, Term, single, then, Factor, plain, star, plus, maybe, Atom, literal, group}
use Rattle.cw_regex.specs.Grammar.{spelled_subject, spelled_if, spelled_test, spelled_more, spelled_tests, spelled_label, spelled, spelled_term, spelled_factor, spelled_atom, Spells}
use Rattle.cw_regex.specs.Grammar.{SpellsTest, IsExpression, IsTest}
use Rattle.cw_regex.specs.Meaning.{need_of, is_right, number_in, subject_meaning, test_meaning, chain_seq, chain_alt, joined_seq, joined_alt, terms, factors, factor_meaning, atom_meaning}
use Rattle.cw_regex.specs.Meaning.{meaning, named_label, labels_of, labels_of_term, labels_of_factor, labels_of_atom, with_name, with_names, names_of}
use Rattle.cw_rights.specs.declared.policy.Descriptor.{Descriptor as AnyDescriptor}
use Rattle.cw_regex.specs.Labels.{names_in}
use Rattle.cw_regex.specs.Tokens.{Settled}
use Rattle.cw_regex.specs.Faults.{is_known, is_colon_part, colon_next, unknown_identifier, unknown_part, or_else, first_unknown}
use Rattle.std.proofs.lemmas.Bool.{or_left as any_left, or_right as any_right}
use Rattle.cw_lemmas.proofs.Numbers.{below_or_zero as some_below}

-- a name's rights are some of the twelve
need_within : (format : ℕ) (w : List ℕ) → (need_of format w).0 ≤ all_rights
need_within format w = by (right_mask format w) (mask_within format w)
  where
    by : (o : Option ℕ) → IfSome o (λ n. n ≤ all_rights) → unwrap_or o 0 ≤ all_rights
    by None h = omega arith
    by (Some n) h = h

pub number_below : (w : List ℕ) (names : List (List ℕ)) → 0 < length names → number_in names w < length names
number_below w names l = some_below (nat_lt (position_or_len (bytes_eq w) names) (length names)) (position_or_len (bytes_eq w) names) (length names) refl l

not_empty : (w : List ℕ) (names : List (List ℕ)) → list_any (bytes_eq w) names ≡ true → 0 < length names
not_empty w [] e = absurd (cc)
not_empty w (n ∷ names) e = omega arith

-- names of a list, and after others were added to it
abbrev pub AllIn : List (List ℕ) → List (List ℕ) → Type 0
AllIn names [] = Unit {0}
AllIn names (w ∷ ws) = (list_any (bytes_eq w) names ≡ true) × AllIn names ws

kept_name : (names : List (List ℕ)) (v w : List ℕ) → list_any (bytes_eq v) names ≡ true → list_any (bytes_eq v) (with_name names w) ≡ true
kept_name names v w e = by (list_any (bytes_eq w) names)
  where
    by : (b : Bool) → list_any (bytes_eq v) (cond b names (names ++ w ∷ [])) ≡ true
    by true = e
    by false = list_any-append (bytes_eq v) names (w ∷ []) ∙ any_left (list_any (bytes_eq v) names) (list_any (bytes_eq v) (w ∷ [])) e

its_name : (names : List (List ℕ)) (w : List ℕ) → list_any (bytes_eq w) (with_name names w) ≡ true
its_name names w = by (list_any (bytes_eq w) names) refl
  where
    by : (b : Bool) → list_any (bytes_eq w) names ≡ b → list_any (bytes_eq w) (cond b names (names ++ w ∷ [])) ≡ true
    by true e = e
    by false e =
        let same : bytes_eq w w ≡ true = (bytes_eq-Decides w w).1 refl in
        list_any-append (bytes_eq w) names (w ∷ []) ∙ any_right (list_any (bytes_eq w) names) (list_any (bytes_eq w) (w ∷ [])) (any_left (bytes_eq w w) false same)

kept_names : (ws names : List (List ℕ)) (v : List ℕ) → list_any (bytes_eq v) names ≡ true → list_any (bytes_eq v) (with_names names ws) ≡ true
kept_names [] names v e = e
kept_names (w ∷ ws) names v e = kept_names ws (with_name names w) v (kept_name names v w e)

all_in : (ws names : List (List ℕ)) → AllIn (with_names names ws) ws
all_in [] names = tt
all_in (w ∷ ws) names = (kept_names ws (with_name names w) w (its_name names w), all_in ws (with_name names w))

-- trees whose literals are in P, joined
abbrev pub AllTrees : (Literal → Type 0) → List Tree → Type 0
AllTrees P [] = Unit {0}
AllTrees P (t ∷ ts) = AllLiterals P t × AllTrees P ts

all_chain_seq : (P : Literal → Type 0) (ts : List Tree) → AllTrees P ts → AllLiterals P (chain_seq ts)
all_chain_seq P [] a = tt
all_chain_seq P (t ∷ ts) a = (a.0, all_chain_seq P ts a.1)

all_chain_alt : (P : Literal → Type 0) (ts : List Tree) → AllTrees P ts → AllLiterals P (chain_alt ts)
all_chain_alt P [] a = tt
all_chain_alt P (t ∷ ts) a = (a.0, all_chain_alt P ts a.1)

all_seq : (P : Literal → Type 0) (ts : List Tree) → AllTrees P ts → AllLiterals P (joined_seq ts)
all_seq P [] a = tt
all_seq P (t ∷ []) a = a.0
all_seq P (t ∷ (u ∷ ts)) a = (a.0, (a.1.0, all_chain_seq P ts a.1.1))

all_alt : (P : Literal → Type 0) (ts : List Tree) → AllTrees P ts → AllLiterals P (joined_alt ts)
all_alt P [] a = tt
all_alt P (t ∷ []) a = a.0
all_alt P (t ∷ (u ∷ ts)) a = (a.0, (a.1.0, all_chain_alt P ts a.1.1))

abbrev next_colon : List Part → Bool
next_colon [] = false
next_colon (p ∷ rest) = is_colon_part p

part_grown : (n b k : ℕ) (q : Part) (rest : List Placed) → map (λ p. p.part) (grown_at n b true (record { at = k; part = q } ∷ rest)) ≡ grown b true (q ∷ map (λ p. p.part) rest)
part_grown n b k (identifier w) rest = refl
part_grown n b k (sign m) rest = refl

all_grown : (n b : ℕ) (more : Bool) (ps : List Placed) → map (λ p. p.part) (grown_at n b more ps) ≡ grown b more (map (λ p. p.part) ps)
all_grown n b true [] = refl
all_grown n b true (p ∷ rest) = part_grown n b p.at p.part rest
all_grown n b false ps = refl

-- the parts without their places
parts_placed : (text : List ℕ) (n : ℕ) → map (λ p. p.part) (placed n text) ≡ parts text
parts_placed [] n = refl
parts_placed (b ∷ rest) n = by (parts_placed rest (n + 1)) (is_blank b) (is_name_byte b)
  where
    by : map (λ p. p.part) (placed (n + 1) rest) ≡ parts rest → (s w : Bool) →
        map (λ p. p.part) (cond s (placed (n + 1) rest) (cond w (grown_at n b (begins_identifier rest) (placed (n + 1) rest)) (record { at = n; part = sign (sign_of b) } ∷ placed (n + 1) rest))) ≡
        cond s (parts rest) (cond w (grown b (begins_identifier rest) (parts rest)) (sign (sign_of b) ∷ parts rest))
    by tail true w = tail
    by tail false true = all_grown n b (begins_identifier rest) (placed (n + 1) rest) ∙ ap (grown b (begins_identifier rest)) tail
    by tail false false = ap (λ ps. sign (sign_of b) ∷ ps) tail

module _ (format : ℕ) (names : List (List ℕ)) where
  -- no name of these parts is unknown
  abbrev pub Known : Bool → List Part → Type 0
  Known after [] = Unit {0}
  Known after (p ∷ rest) = (unknown_part format names after (next_colon rest) 0 p ≡ None) × Known (is_colon_part p) rest

  any_identifier : (after before : Bool) (n : ℕ) (w : List ℕ) → unknown_identifier format names after before n w ≡ None → unknown_identifier format names after before 0 w ≡ None
  any_identifier true before n w e = by (is_right format w) e
    where
      by : (b : Bool) → cond b None (Some (Right n)) ≡ None → cond b None (Some (Right 0)) ≡ None
      by true e = refl
      by false e = absurd (cc)
  any_identifier false before n w e = by (before && not (is_known names w)) e
    where
      by : (b : Bool) → cond b (Some (Descriptor n)) None ≡ None → cond b (Some (Descriptor 0)) None ≡ None
      by false e = refl
      by true e = absurd (cc)

  any_place : (after before : Bool) (n : ℕ) (p : Part) → unknown_part format names after before n p ≡ None → unknown_part format names after before 0 p ≡ None
  any_place after before n (identifier w) e = any_identifier after before n w e
  any_place after before n (sign m) e = refl

  both_none : (o p : Option Unknown) → or_else o p ≡ None → (o ≡ None) × (p ≡ None)
  both_none None p e = (refl, e)
  both_none (Some u) p e = absurd (cc)

  same_next : (pl : List Placed) → colon_next pl ≡ next_colon (map (λ p. p.part) pl)
  same_next [] = refl
  same_next (p ∷ rest) = refl

  known_of : (pl : List Placed) (after : Bool) → first_unknown format names after pl ≡ None → Known after (map (λ p. p.part) pl)
  known_of [] after e = tt
  known_of (p ∷ rest) after e =
      let b = both_none (unknown_part format names after (colon_next rest) p.at p.part) (first_unknown format names (is_colon_part p.part) rest) e in
      (ap (λ c. unknown_part format names after c 0 p.part) (sym (same_next rest)) ∙ any_place after (colon_next rest) p.at p.part b.0, known_of rest (is_colon_part p.part) b.1)

  pub known_parts : (text : List ℕ) → first_unknown format names false (placed 0 text) ≡ None → Known false (parts text)
  known_parts text e = subst (Known false) (parts_placed text 0) (known_of (placed 0 text) false e)

  is_there : (w : List ℕ) → unknown_identifier format names false true 0 w ≡ None → list_any (bytes_eq w) names ≡ true
  is_there w e = by (list_any (bytes_eq w) names) e
    where
      by : (b : Bool) → cond (true && not b) (Some (Descriptor 0)) None ≡ None → b ≡ true
      by true e = refl
      by false e = absurd (cc)

  within_subject : (s : Subject) (ps : List Part) → Known false (spelled_subject s ps) → IsTestWithin (length names) (subject_meaning format names s) × Known false ps
  within_subject ambient ps k = (tt, k.1)
  within_subject (holds d r) ps k = ((number_below d.bytes names (not_empty d.bytes names (is_there d.bytes k.0)), need_within format r.bytes), k.1.1.1)

  pub within_test : (t : TestForm) (ps : List Part) → Known false (spelled_test t ps) → IsTestWithin (length names) (test_meaning format names t).1 × Known false ps
  within_test t ps k = by t.negated k
    where
      by : (n : Bool) → Known false (spelled_if n t.what ps) → IsTestWithin (length names) (subject_meaning format names t.what) × Known false ps
      by true k = within_subject t.what ps k.1
      by false k = within_subject t.what ps k

  abbrev AllWithin : List TestForm → Type 0
  AllWithin ts = All (λ t. IsTestWithin (length names) t.1) (map (test_meaning format names) ts)

  within_more : (ts : List TestForm) (ps : List Part) → Known false (spelled_more ts ps) → AllWithin ts × Known false ps
  within_more [] ps k = (All-nil (λ t. IsTestWithin (length names) t.1), k.1)
  within_more (t ∷ ts) ps k =
      let x = within_test t (spelled_more ts ps) k.1 in
      let y = within_more ts ps x.1 in
      (All-cons (λ t. IsTestWithin (length names) t.1) (test_meaning format names t) (map (test_meaning format names) ts) x.0 y.0, y.1)

  within_tests : (ts : List TestForm) (ps : List Part) → Known false (spelled_tests ts ps) → AllWithin ts × Known false ps
  within_tests [] ps k = (All-nil (λ t. IsTestWithin (length names) t.1), k)
  within_tests (t ∷ ts) ps k =
      let x = within_test t (spelled_more ts ps) k.1 in
      let y = within_more ts ps x.1 in
      (All-cons (λ t. IsTestWithin (length names) t.1) (test_meaning format names t) (map (test_meaning format names) ts) x.0 y.0, y.1)

  module _ (labels : List (List ℕ)) where
    abbrev Ok : Literal → Type 0
    Ok = IsLiteralWithin (length names) (length labels)

    within_label : (label : Option Name) (ws : List (List ℕ)) (ps : List Part) → AllIn labels (named_label label ws) → Known false (spelled_label label ps) →
        IsLabelWithin (length labels) (option_map (λ name. number_in labels name.bytes) label) × AllIn labels ws × Known false ps
    within_label None ws ps a k = (tt, a, k.1)
    within_label (Some name) ws ps a k = (number_below name.bytes labels (not_empty name.bytes labels a.0), a.1, k.1)

    mutual
      within : (e : Expression) (ws : List (List ℕ)) (ps : List Part) → AllIn labels (labels_of e ws) → Known false (spelled e ps) →
          AllTrees Ok (terms format labels names e) × AllIn labels ws × Known false ps
      within (only t) ws ps a k = let x = within_term t ws ps a k in ((all_seq Ok (factors format labels names t) x.0, tt), x.1, x.2)
      within (either t e) ws ps a k =
          let x = within_term t (labels_of e ws) (sign Bar ∷ spelled e ps) a k in
          let y = within e ws ps x.1 x.2.1 in
          ((all_seq Ok (factors format labels names t) x.0, y.0), y.1, y.2)

      within_term : (t : Term) (ws : List (List ℕ)) (ps : List Part) → AllIn labels (labels_of_term t ws) → Known false (spelled_term t ps) →
          AllTrees Ok (factors format labels names t) × AllIn labels ws × Known false ps
      within_term (single f) ws ps a k = let x = within_factor f ws ps a k in ((x.0, tt), x.1, x.2)
      within_term (then f t) ws ps a k =
          let x = within_factor f (labels_of_term t ws) (spelled_term t ps) a k in
          let y = within_term t ws ps x.1 x.2 in
          ((x.0, y.0), y.1, y.2)

      within_factor : (f : Factor) (ws : List (List ℕ)) (ps : List Part) → AllIn labels (labels_of_factor f ws) → Known false (spelled_factor f ps) →
          AllLiterals Ok (factor_meaning format labels names f) × AllIn labels ws × Known false ps
      within_factor (plain a) ws ps i k = within_atom a ws ps i k
      within_factor (star a) ws ps i k = let x = within_atom a ws (sign Star ∷ ps) i k in (x.0, x.1, x.2.1)
      within_factor (plus a) ws ps i k = let x = within_atom a ws (sign Plus ∷ ps) i k in (x.0, x.1, x.2.1)
      within_factor (maybe a) ws ps i k = let x = within_atom a ws (sign Question ∷ ps) i k in (x.0, x.1, x.2.1)

      within_atom : (a : Atom) (ws : List (List ℕ)) (ps : List Part) → AllIn labels (labels_of_atom a ws) → Known false (spelled_atom a ps) →
          AllLiterals Ok (atom_meaning format labels names a) × AllIn labels ws × Known false ps
      within_atom (literal label ts) ws ps i k =
          let x = within_label label ws (spelled_tests ts ps) i k in
          let y = within_tests ts ps x.2 in
          (record { label = x.0; tests = y.0 }, x.1, y.1)
      within_atom (group e) ws ps i k =
          let x = within e ws (sign ParenClose ∷ ps) i k.1 in
          (all_alt Ok (terms format labels names e) x.0, x.1, x.2.1)

  -- of a text whose names are known, after its labels were added to others
  pub tree_within : (old labels : List (List ℕ)) (text : List ℕ) (t : Tree) → IsExpression text → first_unknown format names false (placed 0 text) ≡ None →
      ((e : Expression) → Spells text e → labels ≡ with_names old (labels_of e [])) → ((e : Expression) → Spells text e → t ≡ meaning format labels names e) →
      IsTreeWithin (length names) (length labels) t
  tree_within old labels text t (e, s) k l m =
      let known = subst (Known false) s.parts (known_parts text k) in
      let there = subst (λ x. AllIn x (labels_of e [])) (sym (l e s)) (all_in (labels_of e []) old) in
      let x = within labels e [] [] there known in
      subst (IsTreeWithin (length names) (length labels)) (sym (m e s)) (all_alt (IsLiteralWithin (length names) (length labels)) (terms format labels names e) x.0)

  pub one_within : (text : List ℕ) (wanted : Bool) (t : Test) → IsTest text → first_unknown format names false (placed 0 text) ≡ None →
      ((x : TestForm) → SpellsTest text x → let y : Bool × Test = (wanted, t) in y ≡ test_meaning format names x) → IsTestWithin (length names) t
  one_within text wanted t (x, s) k m =
      let known = subst (Known false) s.parts (known_parts text k) in
      subst (λ y. IsTestWithin (length names) y.1) (sym (m x s)) (within_test x [] known).0

pub regex_within : (format : ℕ) (descriptors : List AnyDescriptor) (old new : List (Vec ℕ Global)) (text : List ℕ) (t : Tree) → IsExpression text →
    first_unknown format (names_of descriptors) false (placed 0 text) ≡ None → ((e : Expression) → Spells text e → names_in new ≡ with_names (names_in old) (labels_of e [])) →
    ((e : Expression) → Spells text e → t ≡ meaning format (names_in new) (names_of descriptors) e) → IsTreeWithin (length descriptors) (length new) t
regex_within format descriptors old new text t i k l m =
    let d = length-map descriptors (λ (d : AnyDescriptor). d.name.items) in
    let n = length-map new (λ (v : Vec ℕ Global). v.items) in
    subst (λ x. IsTreeWithin (length descriptors) x t) n (subst (λ x. IsTreeWithin x (length (names_in new)) t) d
    (tree_within format (names_of descriptors) (names_in old) (names_in new) text t i k l m))

pub test_within : (format : ℕ) (descriptors : List AnyDescriptor) (text : List ℕ) (wanted : Bool) (t : Test) → IsTest text →
    first_unknown format (names_of descriptors) false (placed 0 text) ≡ None → ((x : TestForm) → SpellsTest text x → let y : Bool × Test = (wanted, t) in
    y ≡ test_meaning format (names_of descriptors) x) → IsTestWithin (length descriptors) t
test_within format descriptors text wanted t i k m =
    let d = length-map descriptors (λ (d : AnyDescriptor). d.name.items) in
    subst (λ x. IsTestWithin x t) d (one_within format (names_of descriptors) text wanted t i k m)

pub settled_end : (s : Subject) → Settled s []
settled_end ambient = refl
settled_end (holds d r) = tt
