-- Each expression runs through.
use Rattle.std.proofs.Common.{◌≡◌, ◌⊎◌, inl, inr, ℕ, ◌+◌, List, [], ◌∷◌, Bool, true, false, Option, Some, None, option_and_then, refl, ap, ◌∙◌, add-one}
use Rattle.std.specs.Option.{option_map}
use Rattle.std.specs.Str.{bytes_eq}
use Rattle.cw_regex.specs.declared.text.Sign.TheVariants.{ParenOpen, ParenClose, Bar, Star, Plus, Question, Colon as ColonSign}
use Rattle.cw_regex.specs.declared.phase.Phase.{Phase}
use Rattle.cw_regex.specs.declared.phase.Phase.TheVariants.{Begin, Label, Whole, Repeated, Test, Negated, Ambient, Descriptor, Colon, Right}
use Rattle.cw_regex.specs.Parts.{Part, identifier, sign}
use Rattle.cw_regex.specs.Grammar.{is_descriptor, amb, Name, Subject, ambient, holds, TestForm, Expression, only, either, Term, single, then, Factor, plain, star, plus, maybe, Atom, literal}
use Rattle.cw_regex.specs.Grammar.{group, spelled_subject, spelled_if, spelled_test, spelled_more, spelled_tests, spelled_label, spelled, spelled_term, spelled_factor, spelled_atom}
use Rattle.cw_regex.specs.Machine.{is_test_start, in_test, step_identifier, takes_atom, is_end, run}
use Rattle.std.proofs.lemmas.Bool.{cases_Bool as which}

-- the phase after each
abbrev pub after_subject : Subject → Phase
after_subject ambient = Ambient
after_subject (holds d r) = Right

abbrev pub after_atom : Atom → Phase
after_atom (literal label []) = Label
after_atom (literal label (t ∷ ts)) = Whole
after_atom (group e) = Whole

abbrev pub after_factor : Factor → Phase
after_factor (plain a) = after_atom a
after_factor (star a) = Repeated
after_factor (plus a) = Repeated
after_factor (maybe a) = Repeated

abbrev pub after_term : Term → Phase
after_term (single f) = after_factor f
after_term (then f t) = after_term t

abbrev pub after : Expression → Phase
after (only t) = after_term t
after (either t e) = after e

-- an atom may be repeated
abbrev pub is_atom_end : Phase → Bool
is_atom_end Label = true
is_atom_end Whole = true
is_atom_end q = false

pub atom_end : (a : Atom) → is_atom_end (after_atom a) ≡ true
atom_end (literal label []) = refl
atom_end (literal label (t ∷ ts)) = refl
atom_end (group e) = refl

pub end_of_atom : (q : Phase) → is_atom_end q ≡ true → is_end q ≡ true
end_of_atom Label e = refl
end_of_atom Whole e = refl
end_of_atom Begin e = absurd (cc)
end_of_atom Repeated e = absurd (cc)
end_of_atom Test e = absurd (cc)
end_of_atom Negated e = absurd (cc)
end_of_atom Ambient e = absurd (cc)
end_of_atom Descriptor e = absurd (cc)
end_of_atom Colon e = absurd (cc)
end_of_atom Right e = absurd (cc)

pub takes_of_end : (q : Phase) → is_end q ≡ true → takes_atom q ≡ true
takes_of_end Label e = refl
takes_of_end Whole e = refl
takes_of_end Repeated e = refl
takes_of_end Begin e = absurd (cc)
takes_of_end Test e = absurd (cc)
takes_of_end Negated e = absurd (cc)
takes_of_end Ambient e = absurd (cc)
takes_of_end Descriptor e = absurd (cc)
takes_of_end Colon e = absurd (cc)
takes_of_end Right e = absurd (cc)

pub factor_end : (f : Factor) → is_end (after_factor f) ≡ true
factor_end (plain a) = end_of_atom (after_atom a) (atom_end a)
factor_end (star a) = refl
factor_end (plus a) = refl
factor_end (maybe a) = refl

pub term_end : (t : Term) → is_end (after_term t) ≡ true
term_end (single f) = factor_end f
term_end (then f t) = term_end t

pub expression_end : (e : Expression) → is_end (after e) ≡ true
expression_end (only t) = term_end t
expression_end (either t e) = expression_end e

in_test_either : (w : List ℕ) → is_descriptor w ≡ true → (in_test w ≡ Some Ambient) ⊎ (in_test w ≡ Some Descriptor)
in_test_either w e = by (which (bytes_eq w amb))
  where
    by : (bytes_eq w amb ≡ true) ⊎ (bytes_eq w amb ≡ false) → (in_test w ≡ Some Ambient) ⊎ (in_test w ≡ Some Descriptor)
    by (inl f) = inl (rw f refl)
    by (inr f) = inr (rw (f, e) refl)

pub run_identifier : (alone : Bool) (q r : Phase) (d : ℕ) (w : List ℕ) (rest : List Part) → step_identifier q w ≡ Some r → run alone q d (identifier w ∷ rest) ≡ run alone r d rest
run_identifier alone q r d w rest e = ap (λ (o : Option Phase). option_and_then (λ (s : Phase × ℕ). run alone s.0 s.1 rest) (option_map (λ (x : Phase). let y : Phase × ℕ = (x, d) in y) o)) e

right_after : (alone : Bool) (d : ℕ) (r : Name) (rest : List Part) → run alone Colon d (identifier r.bytes ∷ rest) ≡ run alone Right d rest
right_after alone d r rest = run_identifier alone Colon Right d r.bytes rest (rw r.ok refl)

pub run_subject : (alone : Bool) (q : Phase) (d : ℕ) (s : Subject) (rest : List Part) → is_test_start q ≡ true → run alone q d (spelled_subject s rest) ≡ run alone (after_subject s) d rest
run_subject alone Test d ambient rest e = refl
run_subject alone Negated d ambient rest e = refl
run_subject alone Test d (holds n r) rest e = by (in_test_either n.bytes n.ok)
  where
    by : (in_test n.bytes ≡ Some Ambient) ⊎ (in_test n.bytes ≡ Some Descriptor) → run alone Test d (spelled_subject (holds n r) rest) ≡ run alone Right d rest
    by (inl f) = run_identifier alone Test Ambient d n.bytes (sign ColonSign ∷ identifier r.bytes ∷ rest) f ∙ right_after alone d r rest
    by (inr f) = run_identifier alone Test Descriptor d n.bytes (sign ColonSign ∷ identifier r.bytes ∷ rest) f ∙ right_after alone d r rest
run_subject alone Negated d (holds n r) rest e = by (in_test_either n.bytes n.ok)
  where
    by : (in_test n.bytes ≡ Some Ambient) ⊎ (in_test n.bytes ≡ Some Descriptor) → run alone Negated d (spelled_subject (holds n r) rest) ≡ run alone Right d rest
    by (inl f) = run_identifier alone Negated Ambient d n.bytes (sign ColonSign ∷ identifier r.bytes ∷ rest) f ∙ right_after alone d r rest
    by (inr f) = run_identifier alone Negated Descriptor d n.bytes (sign ColonSign ∷ identifier r.bytes ∷ rest) f ∙ right_after alone d r rest
run_subject alone Begin d s rest e = absurd (cc)
run_subject alone Label d s rest e = absurd (cc)
run_subject alone Whole d s rest e = absurd (cc)
run_subject alone Repeated d s rest e = absurd (cc)
run_subject alone Ambient d s rest e = absurd (cc)
run_subject alone Descriptor d s rest e = absurd (cc)
run_subject alone Colon d s rest e = absurd (cc)
run_subject alone Right d s rest e = absurd (cc)

pub run_test : (alone : Bool) (d : ℕ) (t : TestForm) (rest : List Part) → run alone Test d (spelled_test t rest) ≡ run alone (after_subject t.what) d rest
run_test alone d t rest = by t.negated
  where
    by : (n : Bool) → run alone Test d (spelled_if n t.what rest) ≡ run alone (after_subject t.what) d rest
    by true = run_subject alone Negated d t.what rest refl
    by false = run_subject alone Test d t.what rest refl

run_more : (d : ℕ) (s : Subject) (ts : List TestForm) (rest : List Part) → run false (after_subject s) d (spelled_more ts rest) ≡ run false Whole d rest
run_more d ambient [] rest = refl
run_more d (holds n r) [] rest = refl
run_more d ambient (t ∷ ts) rest = run_test false d t (spelled_more ts rest) ∙ run_more d t.what ts rest
run_more d (holds n r) (t ∷ ts) rest = run_test false d t (spelled_more ts rest) ∙ run_more d t.what ts rest

pub run_label : (q : Phase) (d : ℕ) (label : Option Name) (rest : List Part) → takes_atom q ≡ true → run false q d (spelled_label label rest) ≡ run false Label d rest
run_label Begin d None rest e = refl
run_label Label d None rest e = refl
run_label Whole d None rest e = refl
run_label Repeated d None rest e = refl
run_label Begin d (Some n) rest e = run_identifier false Begin Label d n.bytes rest (rw n.ok refl)
run_label Label d (Some n) rest e = run_identifier false Label Label d n.bytes rest (rw n.ok refl)
run_label Whole d (Some n) rest e = run_identifier false Whole Label d n.bytes rest (rw n.ok refl)
run_label Repeated d (Some n) rest e = run_identifier false Repeated Label d n.bytes rest (rw n.ok refl)
run_label Test d l rest e = absurd (cc)
run_label Negated d l rest e = absurd (cc)
run_label Ambient d l rest e = absurd (cc)
run_label Descriptor d l rest e = absurd (cc)
run_label Colon d l rest e = absurd (cc)
run_label Right d l rest e = absurd (cc)

run_tests : (d : ℕ) (label : Option Name) (ts : List TestForm) (rest : List Part) → run false Label d (spelled_tests ts rest) ≡ run false (after_atom (literal label ts)) d rest
run_tests d label [] rest = refl
run_tests d label (t ∷ ts) rest = run_test false d t (spelled_more ts rest) ∙ run_more d t.what ts rest

pub run_open : (q : Phase) (d : ℕ) (rest : List Part) → takes_atom q ≡ true → run false q d (sign ParenOpen ∷ rest) ≡ run false Begin (d + 1) rest
run_open q d rest e = rw e refl

pub run_close : (q : Phase) (d : ℕ) (rest : List Part) → is_end q ≡ true → run false q (d + 1) (sign ParenClose ∷ rest) ≡ run false Whole d rest
run_close q d rest e = rw (e, add-one d) refl

pub run_again : (q : Phase) (d : ℕ) (rest : List Part) → is_atom_end q ≡ true → (run false q d (sign Star ∷ rest) ≡ run false Repeated d rest) ×
    (run false q d (sign Plus ∷ rest) ≡ run false Repeated d rest) × (run false q d (sign Question ∷ rest) ≡ run false Repeated d rest)
run_again Label d rest e = (refl, refl, refl)
run_again Whole d rest e = (refl, refl, refl)
run_again Begin d rest e = absurd (cc)
run_again Repeated d rest e = absurd (cc)
run_again Test d rest e = absurd (cc)
run_again Negated d rest e = absurd (cc)
run_again Ambient d rest e = absurd (cc)
run_again Descriptor d rest e = absurd (cc)
run_again Colon d rest e = absurd (cc)
run_again Right d rest e = absurd (cc)

run_bar : (q : Phase) (d : ℕ) (rest : List Part) → is_end q ≡ true → run false q d (sign Bar ∷ rest) ≡ run false Begin d rest
run_bar Label d rest e = refl
run_bar Whole d rest e = refl
run_bar Repeated d rest e = refl
run_bar Begin d rest e = absurd (cc)
run_bar Test d rest e = absurd (cc)
run_bar Negated d rest e = absurd (cc)
run_bar Ambient d rest e = absurd (cc)
run_bar Descriptor d rest e = absurd (cc)
run_bar Colon d rest e = absurd (cc)
run_bar Right d rest e = absurd (cc)

mutual
  pub run_expression : (e : Expression) (q : Phase) (d : ℕ) (rest : List Part) → takes_atom q ≡ true → run false q d (spelled e rest) ≡ run false (after e) d rest
  run_expression (only t) q d rest h = run_term t q d rest h
  run_expression (either t e) q d rest h = run_term t q d (sign Bar ∷ spelled e rest) h ∙ run_bar (after_term t) d (spelled e rest) (term_end t) ∙ run_expression e Begin d rest refl

  run_term : (t : Term) (q : Phase) (d : ℕ) (rest : List Part) → takes_atom q ≡ true → run false q d (spelled_term t rest) ≡ run false (after_term t) d rest
  run_term (single f) q d rest h = run_factor f q d rest h
  run_term (then f t) q d rest h = run_factor f q d (spelled_term t rest) h ∙ run_term t (after_factor f) d rest (takes_of_end (after_factor f) (factor_end f))

  run_factor : (f : Factor) (q : Phase) (d : ℕ) (rest : List Part) → takes_atom q ≡ true → run false q d (spelled_factor f rest) ≡ run false (after_factor f) d rest
  run_factor (plain a) q d rest h = run_atom a q d rest h
  run_factor (star a) q d rest h = run_atom a q d (sign Star ∷ rest) h ∙ (run_again (after_atom a) d rest (atom_end a)).0
  run_factor (plus a) q d rest h = run_atom a q d (sign Plus ∷ rest) h ∙ (run_again (after_atom a) d rest (atom_end a)).1
  run_factor (maybe a) q d rest h = run_atom a q d (sign Question ∷ rest) h ∙ (run_again (after_atom a) d rest (atom_end a)).2

  run_atom : (a : Atom) (q : Phase) (d : ℕ) (rest : List Part) → takes_atom q ≡ true → run false q d (spelled_atom a rest) ≡ run false (after_atom a) d rest
  run_atom (literal label ts) q d rest h = run_label q d label (spelled_tests ts rest) h ∙ run_tests d label ts rest
  run_atom (group e) q d rest h = run_open q d (spelled e (sign ParenClose ∷ rest)) h ∙ run_expression e Begin (d + 1) (sign ParenClose ∷ rest) refl ∙ run_close (after e) d rest (expression_end e)
