-- Labels stay names, no two of them the same.
use Rattle.std.proofs.Common.{◌≡◌, ◌≢◌, ℕ, List, [], ◌∷◌, ◌++◌, Bool, true, false, ◌||◌, cond, Some, None, IsTrue, refl, sym, subst}
use Rattle.std.specs.List.{All, list_any}
use Rattle.std.specs.Str.{bytes_eq}
use Rattle.std.proofs.lemmas.List.Elements.{All-nil, All-cons, All-head, All-tail, All-push}
use Rattle.std.proofs.lemmas.List.Quantifiers.{all_pairs_push}
use Rattle.std.proofs.lemmas.Slice.Eq.{bytes_eq-Decides}
use Rattle.cw_rights.specs.Valid.{is_name, IsDistinct}
use Rattle.cw_regex.specs.Labels.{AreNames}
use Rattle.cw_regex.specs.Grammar.{Expression, only, either, Term, single, then, Factor, plain, star, plus, maybe, Atom, literal, group, Spells, IsExpression}
use Rattle.cw_regex.specs.Meaning.{labels_of, labels_of_term, labels_of_factor, labels_of_atom, with_name, with_names}
use Rattle.std.proofs.lemmas.Bool.{or_parts as either_false}

name_kept : (names : List (List ℕ)) (w : List ℕ) → AreNames names → IsTrue (is_name w) → AreNames (with_name names w)
name_kept names w a n = by (list_any (bytes_eq w) names)
  where
    by : (b : Bool) → AreNames (cond b names (names ++ w ∷ []))
    by true = a
    by false = All-push (λ w. IsTrue (is_name w)) names w a n

names_kept : (ws names : List (List ℕ)) → AreNames names → AreNames ws → AreNames (with_names names ws)
names_kept [] names a n = a
names_kept (w ∷ ws) names a n =
    let first = All-head (λ w. IsTrue (is_name w)) w ws n in
    names_kept ws (with_name names w) (name_kept names w a first) (All-tail (λ w. IsTrue (is_name w)) w ws n)

others : (names : List (List ℕ)) (w : List ℕ) → list_any (bytes_eq w) names ≡ false → All (λ v. v ≢ w) names
others [] w e = All-nil (λ v. v ≢ w)
others (n ∷ names) w e =
    let x = either_false (bytes_eq w n) (list_any (bytes_eq w) names) e in
    let other : n ≢ w = λ s. (let y : bytes_eq w n ≡ true = (bytes_eq-Decides w n).1 (sym s) in let z : bytes_eq w n ≡ false = x.0 in absurd (cc)) in
    All-cons (λ v. v ≢ w) n names other (others names w x.1)

pub apart_kept : (names : List (List ℕ)) (w : List ℕ) → IsDistinct names → IsDistinct (with_name names w)
apart_kept names w a = by (list_any (bytes_eq w) names) refl
  where
    by : (b : Bool) → list_any (bytes_eq w) names ≡ b → IsDistinct (cond b names (names ++ w ∷ []))
    by true e = a
    by false e = all_pairs_push (λ v w. v ≢ w) names w a (others names w e)

distinct_kept : (ws names : List (List ℕ)) → IsDistinct names → IsDistinct (with_names names ws)
distinct_kept [] names a = a
distinct_kept (w ∷ ws) names a = distinct_kept ws (with_name names w) (apart_kept names w a)

mutual
  are_names : (e : Expression) (ws : List (List ℕ)) → AreNames ws → AreNames (labels_of e ws)
  are_names (only t) ws a = term_names t ws a
  are_names (either t e) ws a = term_names t (labels_of e ws) (are_names e ws a)

  term_names : (t : Term) (ws : List (List ℕ)) → AreNames ws → AreNames (labels_of_term t ws)
  term_names (single f) ws a = factor_names f ws a
  term_names (then f t) ws a = factor_names f (labels_of_term t ws) (term_names t ws a)

  factor_names : (f : Factor) (ws : List (List ℕ)) → AreNames ws → AreNames (labels_of_factor f ws)
  factor_names (plain x) ws a = atom_names x ws a
  factor_names (star x) ws a = atom_names x ws a
  factor_names (plus x) ws a = atom_names x ws a
  factor_names (maybe x) ws a = atom_names x ws a

  atom_names : (x : Atom) (ws : List (List ℕ)) → AreNames ws → AreNames (labels_of_atom x ws)
  atom_names (literal None ts) ws a = a
  atom_names (literal (Some name) ts) ws a = All-cons (λ w. IsTrue (is_name w)) name.bytes ws name.ok a
  atom_names (group e) ws a = are_names e ws a

pub labels_named : (text : List ℕ) (old new : List (List ℕ)) → IsExpression text → ((e : Expression) → Spells text e → new ≡ with_names old (labels_of e [])) → AreNames old → AreNames new
labels_named text old new (e, s) l a = subst AreNames (sym (l e s)) (names_kept (labels_of e []) old a (are_names e [] (All-nil (λ w. IsTrue (is_name w)))))

pub labels_distinct : (text : List ℕ) (old new : List (List ℕ)) → IsExpression text → ((e : Expression) → Spells text e → new ≡ with_names old (labels_of e [])) → IsDistinct old → IsDistinct new
labels_distinct text old new (e, s) l a = subst IsDistinct (sym (l e s)) (distinct_kept (labels_of e []) old a)
