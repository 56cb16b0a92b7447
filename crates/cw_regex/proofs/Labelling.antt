-- The labels of an expression are the identifiers outside brackets.
use Rattle.std.proofs.Common.{◌≡◌, List, [], ◌∷◌, Bool, true, false, Option, Some, None, refl, ap, ◌∙◌}
use Rattle.cw_regex.specs.declared.text.Sign.TheVariants.{ParenClose, Bar, Star, Plus, Question}
use Rattle.cw_regex.specs.Parts.{Part, sign}
use Rattle.cw_regex.specs.Grammar.{Name, Subject, ambient, holds, TestForm, Expression, only, either, Term, single, then, Factor, plain, star, plus, maybe, Atom, literal, group}
use Rattle.cw_regex.specs.Grammar.{spelled_subject, spelled_if, spelled_test, spelled_more, spelled_tests, spelled_label, spelled, spelled_term, spelled_factor, spelled_atom}
use Rattle.cw_regex.specs.Meaning.{named_label, labels_of, labels_of_term, labels_of_factor, labels_of_atom, labels_in}

in_subject : (s : Subject) (rest : List Part) → labels_in true (spelled_subject s rest) ≡ labels_in true rest
in_subject ambient rest = refl
in_subject (holds d r) rest = refl

in_test : (t : TestForm) (rest : List Part) → labels_in true (spelled_test t rest) ≡ labels_in true rest
in_test t rest = by t.negated
  where
    by : (n : Bool) → labels_in true (spelled_if n t.what rest) ≡ labels_in true rest
    by true = in_subject t.what rest
    by false = in_subject t.what rest

in_more : (ts : List TestForm) (rest : List Part) → labels_in true (spelled_more ts rest) ≡ labels_in false rest
in_more [] rest = refl
in_more (t ∷ ts) rest = in_test t (spelled_more ts rest) ∙ in_more ts rest

in_tests : (ts : List TestForm) (rest : List Part) → labels_in false (spelled_tests ts rest) ≡ labels_in false rest
in_tests [] rest = refl
in_tests (t ∷ ts) rest = in_test t (spelled_more ts rest) ∙ in_more ts rest

in_label : (label : Option Name) (rest : List Part) → labels_in false (spelled_label label rest) ≡ named_label label (labels_in false rest)
in_label None rest = refl
in_label (Some n) rest = refl

mutual
  pub in_expression : (e : Expression) (rest : List Part) → labels_in false (spelled e rest) ≡ labels_of e (labels_in false rest)
  in_expression (only t) rest = in_term t rest
  in_expression (either t e) rest = in_term t (sign Bar ∷ spelled e rest) ∙ ap (labels_of_term t) (in_expression e rest)

  in_term : (t : Term) (rest : List Part) → labels_in false (spelled_term t rest) ≡ labels_of_term t (labels_in false rest)
  in_term (single f) rest = in_factor f rest
  in_term (then f t) rest = in_factor f (spelled_term t rest) ∙ ap (labels_of_factor f) (in_term t rest)

  in_factor : (f : Factor) (rest : List Part) → labels_in false (spelled_factor f rest) ≡ labels_of_factor f (labels_in false rest)
  in_factor (plain a) rest = in_atom a rest
  in_factor (star a) rest = in_atom a (sign Star ∷ rest)
  in_factor (plus a) rest = in_atom a (sign Plus ∷ rest)
  in_factor (maybe a) rest = in_atom a (sign Question ∷ rest)

  in_atom : (a : Atom) (rest : List Part) → labels_in false (spelled_atom a rest) ≡ labels_of_atom a (labels_in false rest)
  in_atom (literal label ts) rest = in_label label (spelled_tests ts rest) ∙ ap (named_label label) (in_tests ts rest)
  in_atom (group e) rest = in_expression e (sign ParenClose ∷ rest)

pub labels_are : (ps : List Part) (e : Expression) → ps ≡ spelled e [] → labels_in false ps ≡ labels_of e []
labels_are ps e h = ap (labels_in false) h ∙ in_expression e []
