-- What runs through is an expression.
use Rattle.std.proofs.Common.{◌≡◌, ◌⊎◌, inl, inr, ℕ, zero, suc, ◌+◌, ◌<◌, ◌≤◌, List, [], ◌∷◌, Bool, true, false, ◌&&◌, Option, Some, None, length, refl, sym, ap, ◌∙◌, subst, add-one, arith}
use Rattle.std.specs.Str.{bytes_eq}
use Rattle.std.proofs.lemmas.Slice.Eq.{bytes_eq-Decides}
use Rattle.cw_rights.specs.Valid.{is_name}
use Rattle.cw_regex.specs.declared.text.Sign.{Sign}
use Rattle.cw_regex.specs.declared.text.Sign.TheVariants.{Dot, ParenOpen, ParenClose, Bar, Star, Plus, Question, BracketOpen, BracketClose, Bang, Colon as ColonSign, Comma, Other}
use Rattle.cw_regex.specs.declared.phase.Phase.{Phase}
use Rattle.cw_regex.specs.declared.phase.Phase.TheVariants.{Begin, Label, Whole, Repeated, Test, Negated, Ambient, Descriptor, Colon, Right}
use Rattle.cw_regex.specs.Parts.{Part, identifier, sign}
use Rattle.cw_regex.specs.Grammar.{is_descriptor, amb, Name, DescriptorName, Subject, ambient, holds, TestForm, Expression, only, either, Term, single, then, Factor, plain, star, plus}
use Rattle.cw_regex.specs.Grammar.{maybe, Atom, literal, group, spelled_subject, spelled_if, spelled_test, spelled_more, spelled_tests, spelled_label, spelled, spelled_term, spelled_factor}
use Rattle.cw_regex.specs.Grammar.{spelled_atom}
use Rattle.cw_regex.specs.Machine.{is_test_start, in_test, step_identifier, takes_atom, is_end, run}
use Rattle.cw_regex.specs.Tokens.{begins_bracket, Settled}
use Rattle.std.proofs.lemmas.Bool.{cases_Bool as which}
use Rattle.cw_lemmas.proofs.Truths.{and_false}
use Rattle.cw_regex.proofs.Running.{after_subject, after_atom, after_factor, is_atom_end, factor_end, takes_of_end, run_identifier, run_open, run_label, run_again, atom_end}

-- from here the rest runs through
abbrev pub Good : Phase → ℕ → List Part → Type 0
Good q d ps = (z : Phase) × (run false q d ps ≡ Some (z, 0)) × (is_end z ≡ true)

pub good_nil : (q : Phase) (d : ℕ) → Good q d [] → (is_end q ≡ true) × (d ≡ 0)
good_nil q d h =
    let x : Phase × ℕ = (q, d) in
    let y : Phase × ℕ = (h.0, 0) in
    let e : Some x ≡ Some y = h.1 in
    let p : x ≡ y = cc in
    (subst (λ z. is_end z ≡ true) (sym (ap (λ (s : Phase × ℕ). s.0) p)) h.2, ap (λ (s : Phase × ℕ). s.1) p)

-- the same rest, by one step
good_by : (q r : Phase) (d e : ℕ) (ps qs : List Part) → run false q d ps ≡ run false r e qs → Good q d ps → Good r e qs
good_by q r d e ps qs same h = (h.0, sym same ∙ h.1, h.2)

none_good : (q : Phase) (d : ℕ) (ps : List Part) → run false q d ps ≡ None → Good q d ps → ⊥
none_good q d ps e h = let f = h.1 in absurd (cc)

-- a test: after `:` a right
abbrev RightRead : ℕ → List Part → Type 0
RightRead d ps = (r : Name) × (rest : List Part) × (ps ≡ identifier r.bytes ∷ rest) × Good Right d rest

read_right : (d : ℕ) (ps : List Part) → Good Colon d ps → RightRead d ps
read_right d [] h = let z = (good_nil Colon d h).0 in absurd (cc)
read_right d (identifier w ∷ rest) h = by (which (is_name w))
  where
    by : (is_name w ≡ true) ⊎ (is_name w ≡ false) → RightRead d (identifier w ∷ rest)
    by (inl e) = let name : Name = record { bytes = w; ok = e } in (name, rest, refl, good_by Colon Right d d (identifier w ∷ rest) rest (run_identifier false Colon Right d w rest (rw e refl)) h)
    by (inr e) = let dead : run false Colon d (identifier w ∷ rest) ≡ None = rw e refl in absurd (none_good Colon d (identifier w ∷ rest) dead h)
read_right d (sign Dot ∷ rest) h = absurd (let e = h.1 in cc)
read_right d (sign ParenOpen ∷ rest) h = absurd (let e = h.1 in cc)
read_right d (sign ParenClose ∷ rest) h = absurd (let e = h.1 in cc)
read_right d (sign Bar ∷ rest) h = absurd (let e = h.1 in cc)
read_right d (sign Star ∷ rest) h = absurd (let e = h.1 in cc)
read_right d (sign Plus ∷ rest) h = absurd (let e = h.1 in cc)
read_right d (sign Question ∷ rest) h = absurd (let e = h.1 in cc)
read_right d (sign BracketOpen ∷ rest) h = absurd (let e = h.1 in cc)
read_right d (sign BracketClose ∷ rest) h = absurd (let e = h.1 in cc)
read_right d (sign Bang ∷ rest) h = absurd (let e = h.1 in cc)
read_right d (sign ColonSign ∷ rest) h = absurd (let e = h.1 in cc)
read_right d (sign Comma ∷ rest) h = absurd (let e = h.1 in cc)
read_right d (sign Other ∷ rest) h = absurd (let e = h.1 in cc)

-- `:` and a right
abbrev ColonRead : ℕ → List Part → Type 0
ColonRead d ps = (r : Name) × (rest : List Part) × (ps ≡ sign ColonSign ∷ identifier r.bytes ∷ rest) × Good Right d rest

read_colon : (d : ℕ) (ps : List Part) → Good Colon d ps → ColonRead d (sign ColonSign ∷ ps)
read_colon d ps h = let x = read_right d ps h in (x.0, x.1, ap (λ l. sign ColonSign ∷ l) x.2, x.3)

read_descriptor : (d : ℕ) (ps : List Part) → Good Descriptor d ps → ColonRead d ps
read_descriptor d [] h = let z = (good_nil Descriptor d h).0 in absurd (cc)
read_descriptor d (identifier w ∷ rest) h = absurd (let e = h.1 in cc)
read_descriptor d (sign ColonSign ∷ rest) h = read_colon d rest (good_by Descriptor Colon d d (sign ColonSign ∷ rest) rest refl h)
read_descriptor d (sign Dot ∷ rest) h = absurd (let e = h.1 in cc)
read_descriptor d (sign ParenOpen ∷ rest) h = absurd (let e = h.1 in cc)
read_descriptor d (sign ParenClose ∷ rest) h = absurd (let e = h.1 in cc)
read_descriptor d (sign Bar ∷ rest) h = absurd (let e = h.1 in cc)
read_descriptor d (sign Star ∷ rest) h = absurd (let e = h.1 in cc)
read_descriptor d (sign Plus ∷ rest) h = absurd (let e = h.1 in cc)
read_descriptor d (sign Question ∷ rest) h = absurd (let e = h.1 in cc)
read_descriptor d (sign BracketOpen ∷ rest) h = absurd (let e = h.1 in cc)
read_descriptor d (sign BracketClose ∷ rest) h = absurd (let e = h.1 in cc)
read_descriptor d (sign Bang ∷ rest) h = absurd (let e = h.1 in cc)
read_descriptor d (sign Comma ∷ rest) h = absurd (let e = h.1 in cc)
read_descriptor d (sign Other ∷ rest) h = absurd (let e = h.1 in cc)

abbrev SubjectRead : ℕ → List Part → Type 0
SubjectRead d ps = (s : Subject) × (rest : List Part) × (ps ≡ spelled_subject s rest) × Good (after_subject s) d rest × Settled s rest

read_ambient : (d : ℕ) (rest : List Part) → Good Ambient d rest → SubjectRead d (identifier amb ∷ rest)
read_ambient d [] h = (ambient, [], refl, h, refl)
read_ambient d (identifier w ∷ rest) h = absurd (let e = h.1 in cc)
read_ambient d (sign ColonSign ∷ rest) h =
    let named : DescriptorName = record { bytes = amb; ok = refl } in
    let x = read_colon d rest (good_by Ambient Colon d d (sign ColonSign ∷ rest) rest refl h) in
    (holds named x.0, x.1, ap (λ l. identifier amb ∷ l) x.2, x.3, tt)
read_ambient d (sign Dot ∷ rest) h = (ambient, sign Dot ∷ rest, refl, h, refl)
read_ambient d (sign ParenOpen ∷ rest) h = (ambient, sign ParenOpen ∷ rest, refl, h, refl)
read_ambient d (sign ParenClose ∷ rest) h = (ambient, sign ParenClose ∷ rest, refl, h, refl)
read_ambient d (sign Bar ∷ rest) h = (ambient, sign Bar ∷ rest, refl, h, refl)
read_ambient d (sign Star ∷ rest) h = (ambient, sign Star ∷ rest, refl, h, refl)
read_ambient d (sign Plus ∷ rest) h = (ambient, sign Plus ∷ rest, refl, h, refl)
read_ambient d (sign Question ∷ rest) h = (ambient, sign Question ∷ rest, refl, h, refl)
read_ambient d (sign BracketOpen ∷ rest) h = (ambient, sign BracketOpen ∷ rest, refl, h, refl)
read_ambient d (sign BracketClose ∷ rest) h = (ambient, sign BracketClose ∷ rest, refl, h, refl)
read_ambient d (sign Bang ∷ rest) h = (ambient, sign Bang ∷ rest, refl, h, refl)
read_ambient d (sign Comma ∷ rest) h = (ambient, sign Comma ∷ rest, refl, h, refl)
read_ambient d (sign Other ∷ rest) h = (ambient, sign Other ∷ rest, refl, h, refl)

pub same_bytes : (a b : List ℕ) → bytes_eq a b ≡ true → a ≡ b
same_bytes a b e = (bytes_eq-Decides a b).0 e

read_identifier : (q : Phase) (d : ℕ) (w : List ℕ) (rest : List Part) → is_test_start q ≡ true → Good q d (identifier w ∷ rest) → SubjectRead d (identifier w ∷ rest)
read_identifier q d w rest t h = by (which (bytes_eq w amb)) (which (is_descriptor w))
  where
    is_in : (q : Phase) → is_test_start q ≡ true → step_identifier q w ≡ in_test w
    is_in Test e = refl
    is_in Negated e = refl
    is_in Begin e = absurd (cc)
    is_in Label e = absurd (cc)
    is_in Whole e = absurd (cc)
    is_in Repeated e = absurd (cc)
    is_in Ambient e = absurd (cc)
    is_in Descriptor e = absurd (cc)
    is_in Colon e = absurd (cc)
    is_in Right e = absurd (cc)

    by : (bytes_eq w amb ≡ true) ⊎ (bytes_eq w amb ≡ false) → (is_descriptor w ≡ true) ⊎ (is_descriptor w ≡ false) → SubjectRead d (identifier w ∷ rest)
    by (inl e) f =
        let goes : step_identifier q w ≡ Some Ambient = is_in q t ∙ rw e refl in
        let x = read_ambient d rest (good_by q Ambient d d (identifier w ∷ rest) rest (run_identifier false q Ambient d w rest goes) h) in
        subst (λ v. SubjectRead d (identifier v ∷ rest)) (sym (same_bytes w amb e)) x
    by (inr e) (inl f) =
        let goes : step_identifier q w ≡ Some Descriptor = is_in q t ∙ rw (e, f) refl in
        let x = read_descriptor d rest (good_by q Descriptor d d (identifier w ∷ rest) rest (run_identifier false q Descriptor d w rest goes) h) in
        let named : DescriptorName = record { bytes = w; ok = f } in
        (holds named x.0, x.1, ap (λ l. identifier w ∷ l) x.2, x.3, tt)
    by (inr e) (inr f) =
        let stops : step_identifier q w ≡ None = is_in q t ∙ rw (e, f) refl in
        let dead : run false q d (identifier w ∷ rest) ≡ None = rw stops refl in
        absurd (none_good q d (identifier w ∷ rest) dead h)

abbrev TestRead : ℕ → List Part → Type 0
TestRead d ps = (t : TestForm) × (rest : List Part) × (ps ≡ spelled_test t rest) × Good (after_subject t.what) d rest × Settled t.what rest

read_negated : (d : ℕ) (ps : List Part) → Good Negated d ps → SubjectRead d ps
read_negated d [] h = let z = (good_nil Negated d h).0 in absurd (cc)
read_negated d (identifier w ∷ rest) h = read_identifier Negated d w rest refl h
read_negated d (sign Dot ∷ rest) h = absurd (let e = h.1 in cc)
read_negated d (sign ParenOpen ∷ rest) h = absurd (let e = h.1 in cc)
read_negated d (sign ParenClose ∷ rest) h = absurd (let e = h.1 in cc)
read_negated d (sign Bar ∷ rest) h = absurd (let e = h.1 in cc)
read_negated d (sign Star ∷ rest) h = absurd (let e = h.1 in cc)
read_negated d (sign Plus ∷ rest) h = absurd (let e = h.1 in cc)
read_negated d (sign Question ∷ rest) h = absurd (let e = h.1 in cc)
read_negated d (sign BracketOpen ∷ rest) h = absurd (let e = h.1 in cc)
read_negated d (sign BracketClose ∷ rest) h = absurd (let e = h.1 in cc)
read_negated d (sign Bang ∷ rest) h = absurd (let e = h.1 in cc)
read_negated d (sign ColonSign ∷ rest) h = absurd (let e = h.1 in cc)
read_negated d (sign Comma ∷ rest) h = absurd (let e = h.1 in cc)
read_negated d (sign Other ∷ rest) h = absurd (let e = h.1 in cc)

read_test : (d : ℕ) (ps : List Part) → Good Test d ps → TestRead d ps
read_test d [] h = let z = (good_nil Test d h).0 in absurd (cc)
read_test d (identifier w ∷ rest) h = let x = read_identifier Test d w rest refl h in (record { negated = false; what = x.0 }, x.1, x.2, x.3, x.4)
read_test d (sign Bang ∷ rest) h =
    let x = read_negated d rest (good_by Test Negated d d (sign Bang ∷ rest) rest refl h) in
    (record { negated = true; what = x.0 }, x.1, ap (λ l. sign Bang ∷ l) x.2, x.3, x.4)
read_test d (sign Dot ∷ rest) h = absurd (let e = h.1 in cc)
read_test d (sign ParenOpen ∷ rest) h = absurd (let e = h.1 in cc)
read_test d (sign ParenClose ∷ rest) h = absurd (let e = h.1 in cc)
read_test d (sign Bar ∷ rest) h = absurd (let e = h.1 in cc)
read_test d (sign Star ∷ rest) h = absurd (let e = h.1 in cc)
read_test d (sign Plus ∷ rest) h = absurd (let e = h.1 in cc)
read_test d (sign Question ∷ rest) h = absurd (let e = h.1 in cc)
read_test d (sign BracketOpen ∷ rest) h = absurd (let e = h.1 in cc)
read_test d (sign BracketClose ∷ rest) h = absurd (let e = h.1 in cc)
read_test d (sign ColonSign ∷ rest) h = absurd (let e = h.1 in cc)
read_test d (sign Comma ∷ rest) h = absurd (let e = h.1 in cc)
read_test d (sign Other ∷ rest) h = absurd (let e = h.1 in cc)

-- a test is longer than what follows it
longer_subject : (s : Subject) (rest : List Part) → length rest < length (spelled_subject s rest)
longer_subject ambient rest = omega arith
longer_subject (holds d r) rest = omega arith

longer_test : (t : TestForm) (rest : List Part) → length rest < length (spelled_test t rest)
longer_test t rest = by t.negated
  where
    by : (n : Bool) → length rest < length (spelled_if n t.what rest)
    by true = let z = longer_subject t.what rest in omega arith
    by false = longer_subject t.what rest

abbrev MoreRead : ℕ → List Part → Type 0
MoreRead d ps = (ts : List TestForm) × (rest : List Part) × (ps ≡ spelled_more ts rest) × Good Whole d rest

read_more : (n : ℕ) (d : ℕ) (s : Subject) (ps : List Part) → length ps ≤ n → Good (after_subject s) d ps → Settled s ps → MoreRead d ps
read_more n d s [] l h t = by s h
  where
    by : (s : Subject) → Good (after_subject s) d [] → MoreRead d []
    by ambient h = let z = (good_nil Ambient d h).0 in absurd (cc)
    by (holds a b) h = let z = (good_nil Right d h).0 in absurd (cc)
read_more n d ambient (identifier w ∷ rest) l h t = absurd (let e = h.1 in cc)
read_more n d (holds a b) (identifier w ∷ rest) l h t = absurd (let e = h.1 in cc)
read_more n d ambient (sign BracketClose ∷ rest) l h t = ([], rest, refl, good_by Ambient Whole d d (sign BracketClose ∷ rest) rest refl h)
read_more n d (holds a b) (sign BracketClose ∷ rest) l h t = ([], rest, refl, good_by Right Whole d d (sign BracketClose ∷ rest) rest refl h)
read_more zero d s (sign Comma ∷ rest) l h t = absurd (omega arith)
read_more (suc n) d s (sign Comma ∷ rest) l h t = next (goes s h) (λ s' ps' k. read_more n d s' ps' k)
  where
    goes : (s : Subject) → Good (after_subject s) d (sign Comma ∷ rest) → Good Test d rest
    goes ambient h = good_by Ambient Test d d (sign Comma ∷ rest) rest refl h
    goes (holds a b) h = good_by Right Test d d (sign Comma ∷ rest) rest refl h

    next : Good Test d rest → ((s' : Subject) (ps' : List Part) → length ps' ≤ n → Good (after_subject s') d ps' → Settled s' ps' → MoreRead d ps') → MoreRead d (sign Comma ∷ rest)
    next g rec =
        let x = read_test d rest g in
        let shorter = longer_test x.0 x.1 in
        let same : length rest ≡ length (spelled_test x.0 x.1) = ap length x.2 in
        let y = rec x.0.what x.1 (omega arith) x.3 x.4 in
        (x.0 ∷ y.0, y.1, ap (λ l. sign Comma ∷ l) (x.2 ∙ ap (spelled_test x.0) y.2), y.3)
read_more n d ambient (sign ColonSign ∷ rest) l h t = absurd (let e = t in cc)
read_more n d (holds a b) (sign ColonSign ∷ rest) l h t = absurd (let e = h.1 in cc)
read_more n d ambient (sign Dot ∷ rest) l h t = absurd (let e = h.1 in cc)
read_more n d (holds a b) (sign Dot ∷ rest) l h t = absurd (let e = h.1 in cc)
read_more n d ambient (sign ParenOpen ∷ rest) l h t = absurd (let e = h.1 in cc)
read_more n d (holds a b) (sign ParenOpen ∷ rest) l h t = absurd (let e = h.1 in cc)
read_more n d ambient (sign ParenClose ∷ rest) l h t = absurd (let e = h.1 in cc)
read_more n d (holds a b) (sign ParenClose ∷ rest) l h t = absurd (let e = h.1 in cc)
read_more n d ambient (sign Bar ∷ rest) l h t = absurd (let e = h.1 in cc)
read_more n d (holds a b) (sign Bar ∷ rest) l h t = absurd (let e = h.1 in cc)
read_more n d ambient (sign Star ∷ rest) l h t = absurd (let e = h.1 in cc)
read_more n d (holds a b) (sign Star ∷ rest) l h t = absurd (let e = h.1 in cc)
read_more n d ambient (sign Plus ∷ rest) l h t = absurd (let e = h.1 in cc)
read_more n d (holds a b) (sign Plus ∷ rest) l h t = absurd (let e = h.1 in cc)
read_more n d ambient (sign Question ∷ rest) l h t = absurd (let e = h.1 in cc)
read_more n d (holds a b) (sign Question ∷ rest) l h t = absurd (let e = h.1 in cc)
read_more n d ambient (sign BracketOpen ∷ rest) l h t = absurd (let e = h.1 in cc)
read_more n d (holds a b) (sign BracketOpen ∷ rest) l h t = absurd (let e = h.1 in cc)
read_more n d ambient (sign Bang ∷ rest) l h t = absurd (let e = h.1 in cc)
read_more n d (holds a b) (sign Bang ∷ rest) l h t = absurd (let e = h.1 in cc)
read_more n d ambient (sign Other ∷ rest) l h t = absurd (let e = h.1 in cc)
read_more n d (holds a b) (sign Other ∷ rest) l h t = absurd (let e = h.1 in cc)

abbrev begins_repeat : List Part → Bool
begins_repeat (sign Star ∷ rest) = true
begins_repeat (sign Plus ∷ rest) = true
begins_repeat (sign Question ∷ rest) = true
begins_repeat ps = false

abbrev is_label : Phase → Bool
is_label Label = true
is_label q = false

-- what follows a literal: its tests, or no bracket
abbrev AtomRead : ℕ → List Part → Type 0
AtomRead d ps = (a : Atom) × (rest : List Part) × (ps ≡ spelled_atom a rest) × Good (after_atom a) d rest × ((is_label (after_atom a) && begins_bracket rest) ≡ false)

abbrev TestsRead : Option Name → ℕ → List Part → Type 0
TestsRead label d ps = (ts : List TestForm) × (rest : List Part) × (ps ≡ spelled_tests ts rest) × Good (after_atom (literal label ts)) d rest ×
    ((is_label (after_atom (literal label ts)) && begins_bracket rest) ≡ false)

read_tests : (label : Option Name) (d : ℕ) (ps : List Part) → Good Label d ps → TestsRead label d ps
read_tests label d [] h = ([], [], refl, h, refl)
read_tests label d (identifier w ∷ rest) h = ([], identifier w ∷ rest, refl, h, refl)
read_tests label d (sign BracketOpen ∷ rest) h =
    let x = read_test d rest (good_by Label Test d d (sign BracketOpen ∷ rest) rest refl h) in
    let y = read_more (length x.1) d x.0.what x.1 (omega arith) x.3 x.4 in
    (x.0 ∷ y.0, y.1, ap (λ l. sign BracketOpen ∷ l) (x.2 ∙ ap (spelled_test x.0) y.2), y.3, refl)
read_tests label d (sign Dot ∷ rest) h = ([], sign Dot ∷ rest, refl, h, refl)
read_tests label d (sign ParenOpen ∷ rest) h = ([], sign ParenOpen ∷ rest, refl, h, refl)
read_tests label d (sign ParenClose ∷ rest) h = ([], sign ParenClose ∷ rest, refl, h, refl)
read_tests label d (sign Bar ∷ rest) h = ([], sign Bar ∷ rest, refl, h, refl)
read_tests label d (sign Star ∷ rest) h = ([], sign Star ∷ rest, refl, h, refl)
read_tests label d (sign Plus ∷ rest) h = ([], sign Plus ∷ rest, refl, h, refl)
read_tests label d (sign Question ∷ rest) h = ([], sign Question ∷ rest, refl, h, refl)
read_tests label d (sign BracketClose ∷ rest) h = ([], sign BracketClose ∷ rest, refl, h, refl)
read_tests label d (sign Bang ∷ rest) h = ([], sign Bang ∷ rest, refl, h, refl)
read_tests label d (sign ColonSign ∷ rest) h = ([], sign ColonSign ∷ rest, refl, h, refl)
read_tests label d (sign Comma ∷ rest) h = ([], sign Comma ∷ rest, refl, h, refl)
read_tests label d (sign Other ∷ rest) h = ([], sign Other ∷ rest, refl, h, refl)

read_literal : (label : Option Name) (d : ℕ) (rest : List Part) → Good Label d rest → AtomRead d (spelled_label label rest)
read_literal label d rest h = let x = read_tests label d rest h in (literal label x.0, x.1, ap (spelled_label label) x.2, x.3, x.4)

-- an atom comes first
abbrev AtomFirst : List Part → Type 0
AtomFirst (identifier w ∷ rest) = Unit {0}
AtomFirst (sign Dot ∷ rest) = Unit {0}
AtomFirst (sign ParenOpen ∷ rest) = Unit {0}
AtomFirst ps = ⊥

pub begin_first : (d : ℕ) (ps : List Part) → Good Begin d ps → AtomFirst ps
begin_first d [] h = let z = (good_nil Begin d h).0 in absurd (cc)
begin_first d (identifier w ∷ rest) h = tt
begin_first d (sign Dot ∷ rest) h = tt
begin_first d (sign ParenOpen ∷ rest) h = tt
begin_first d (sign ParenClose ∷ rest) h = absurd (let e = h.1 in cc)
begin_first d (sign Bar ∷ rest) h = absurd (let e = h.1 in cc)
begin_first d (sign Star ∷ rest) h = absurd (let e = h.1 in cc)
begin_first d (sign Plus ∷ rest) h = absurd (let e = h.1 in cc)
begin_first d (sign Question ∷ rest) h = absurd (let e = h.1 in cc)
begin_first d (sign BracketOpen ∷ rest) h = absurd (let e = h.1 in cc)
begin_first d (sign BracketClose ∷ rest) h = absurd (let e = h.1 in cc)
begin_first d (sign Bang ∷ rest) h = absurd (let e = h.1 in cc)
begin_first d (sign ColonSign ∷ rest) h = absurd (let e = h.1 in cc)
begin_first d (sign Comma ∷ rest) h = absurd (let e = h.1 in cc)
begin_first d (sign Other ∷ rest) h = absurd (let e = h.1 in cc)

-- what comes after a factor: nothing, `)`, `|` or an atom
data Next (q : Phase) (d : ℕ) : List Part → Type 0 where
  at_end : d ≡ 0 → Next q d []
  at_close : (rest : List Part) (e : ℕ) → d ≡ e + 1 → Good Whole e rest → Next q d (sign ParenClose ∷ rest)
  at_bar : (rest : List Part) → Good Begin d rest → Next q d (sign Bar ∷ rest)
  at_atom : (p : Part) (rest : List Part) → AtomFirst (p ∷ rest) → Good q d (p ∷ rest) → Next q d (p ∷ rest)

close_next : (q : Phase) (d : ℕ) (rest : List Part) → is_end q ≡ true → Good q d (sign ParenClose ∷ rest) → Next q d (sign ParenClose ∷ rest)
close_next q zero rest e h = let dead : run false q 0 (sign ParenClose ∷ rest) ≡ None = rw e refl in absurd (none_good q 0 (sign ParenClose ∷ rest) dead h)
close_next q (suc d) rest e h = at_close rest d (sym (add-one d)) (good_by q Whole (suc d) d (sign ParenClose ∷ rest) rest (rw e refl) h)

next_of : (q : Phase) (d : ℕ) (rest : List Part) → is_end q ≡ true → Good q d rest → (is_atom_end q && begins_repeat rest) ≡ false → (is_label q && begins_bracket rest) ≡ false → Next q d rest
next_of q d [] e h r b = at_end (good_nil q d h).1
next_of q d (identifier w ∷ rest) e h r b = at_atom (identifier w) rest tt h
next_of q d (sign Dot ∷ rest) e h r b = at_atom (sign Dot) rest tt h
next_of q d (sign ParenOpen ∷ rest) e h r b = at_atom (sign ParenOpen) rest tt h
next_of q d (sign ParenClose ∷ rest) e h r b = close_next q d rest e h
next_of Label d (sign Bar ∷ rest) e h r b = at_bar rest (good_by Label Begin d d (sign Bar ∷ rest) rest refl h)
next_of Label d (sign Star ∷ rest) e h r b = absurd (let z = r in cc)
next_of Label d (sign Plus ∷ rest) e h r b = absurd (let z = r in cc)
next_of Label d (sign Question ∷ rest) e h r b = absurd (let z = r in cc)
next_of Label d (sign BracketOpen ∷ rest) e h r b = absurd (let z = b in cc)
next_of Label d (sign BracketClose ∷ rest) e h r b = absurd (let z = h.1 in cc)
next_of Label d (sign Bang ∷ rest) e h r b = absurd (let z = h.1 in cc)
next_of Label d (sign ColonSign ∷ rest) e h r b = absurd (let z = h.1 in cc)
next_of Label d (sign Comma ∷ rest) e h r b = absurd (let z = h.1 in cc)
next_of Label d (sign Other ∷ rest) e h r b = absurd (let z = h.1 in cc)
next_of Whole d (sign Bar ∷ rest) e h r b = at_bar rest (good_by Whole Begin d d (sign Bar ∷ rest) rest refl h)
next_of Whole d (sign Star ∷ rest) e h r b = absurd (let z = r in cc)
next_of Whole d (sign Plus ∷ rest) e h r b = absurd (let z = r in cc)
next_of Whole d (sign Question ∷ rest) e h r b = absurd (let z = r in cc)
next_of Whole d (sign BracketOpen ∷ rest) e h r b = absurd (let z = h.1 in cc)
next_of Whole d (sign BracketClose ∷ rest) e h r b = absurd (let z = h.1 in cc)
next_of Whole d (sign Bang ∷ rest) e h r b = absurd (let z = h.1 in cc)
next_of Whole d (sign ColonSign ∷ rest) e h r b = absurd (let z = h.1 in cc)
next_of Whole d (sign Comma ∷ rest) e h r b = absurd (let z = h.1 in cc)
next_of Whole d (sign Other ∷ rest) e h r b = absurd (let z = h.1 in cc)
next_of Repeated d (sign Bar ∷ rest) e h r b = at_bar rest (good_by Repeated Begin d d (sign Bar ∷ rest) rest refl h)
next_of Repeated d (sign Star ∷ rest) e h r b = absurd (let z = h.1 in cc)
next_of Repeated d (sign Plus ∷ rest) e h r b = absurd (let z = h.1 in cc)
next_of Repeated d (sign Question ∷ rest) e h r b = absurd (let z = h.1 in cc)
next_of Repeated d (sign BracketOpen ∷ rest) e h r b = absurd (let z = h.1 in cc)
next_of Repeated d (sign BracketClose ∷ rest) e h r b = absurd (let z = h.1 in cc)
next_of Repeated d (sign Bang ∷ rest) e h r b = absurd (let z = h.1 in cc)
next_of Repeated d (sign ColonSign ∷ rest) e h r b = absurd (let z = h.1 in cc)
next_of Repeated d (sign Comma ∷ rest) e h r b = absurd (let z = h.1 in cc)
next_of Repeated d (sign Other ∷ rest) e h r b = absurd (let z = h.1 in cc)
next_of Begin d (sign m ∷ rest) e h r b = absurd (cc)
next_of Test d (sign m ∷ rest) e h r b = absurd (cc)
next_of Negated d (sign m ∷ rest) e h r b = absurd (cc)
next_of Ambient d (sign m ∷ rest) e h r b = absurd (cc)
next_of Descriptor d (sign m ∷ rest) e h r b = absurd (cc)
next_of Colon d (sign m ∷ rest) e h r b = absurd (cc)
next_of Right d (sign m ∷ rest) e h r b = absurd (cc)

-- a factor, and that no repetition and no bracket follows
abbrev FactorRead : ℕ → List Part → Type 0
FactorRead d ps = (f : Factor) × (rest : List Part) × (ps ≡ spelled_factor f rest) × Good (after_factor f) d rest × ((is_atom_end (after_factor f) && begins_repeat rest) ≡ false) ×
    ((is_label (after_factor f) && begins_bracket rest) ≡ false)

again_good : (q : Phase) (d : ℕ) (m : Sign) (rest : List Part) → is_atom_end q ≡ true → (run false q d (sign m ∷ rest) ≡ run false Repeated d rest) → Good q d (sign m ∷ rest) → Good Repeated d rest
again_good q d m rest e same h = good_by q Repeated d d (sign m ∷ rest) rest same h

read_factor : (d : ℕ) (ps : List Part) → AtomRead d ps → FactorRead d ps
read_factor d ps x = by x.1 x.2 x.3 x.4
  where
    by : (rest : List Part) → ps ≡ spelled_atom x.0 rest → Good (after_atom x.0) d rest → (is_label (after_atom x.0) && begins_bracket rest) ≡ false → FactorRead d ps
    by [] e h b = (plain x.0, [], e, h, and_false (is_atom_end (after_atom x.0)), b)
    by (identifier w ∷ rest) e h b = (plain x.0, identifier w ∷ rest, e, h, and_false (is_atom_end (after_atom x.0)), b)
    by (sign Star ∷ rest) e h b = (star x.0, rest, e, again_good (after_atom x.0) d Star rest (atom_end x.0) (run_again (after_atom x.0) d rest (atom_end x.0)).0 h, refl, refl)
    by (sign Plus ∷ rest) e h b = (plus x.0, rest, e, again_good (after_atom x.0) d Plus rest (atom_end x.0) (run_again (after_atom x.0) d rest (atom_end x.0)).1 h, refl, refl)
    by (sign Question ∷ rest) e h b = (maybe x.0, rest, e, again_good (after_atom x.0) d Question rest (atom_end x.0) (run_again (after_atom x.0) d rest (atom_end x.0)).2 h, refl, refl)
    by (sign Dot ∷ rest) e h b = (plain x.0, sign Dot ∷ rest, e, h, and_false (is_atom_end (after_atom x.0)), b)
    by (sign ParenOpen ∷ rest) e h b = (plain x.0, sign ParenOpen ∷ rest, e, h, and_false (is_atom_end (after_atom x.0)), b)
    by (sign ParenClose ∷ rest) e h b = (plain x.0, sign ParenClose ∷ rest, e, h, and_false (is_atom_end (after_atom x.0)), b)
    by (sign Bar ∷ rest) e h b = (plain x.0, sign Bar ∷ rest, e, h, and_false (is_atom_end (after_atom x.0)), b)
    by (sign BracketOpen ∷ rest) e h b = (plain x.0, sign BracketOpen ∷ rest, e, h, and_false (is_atom_end (after_atom x.0)), b)
    by (sign BracketClose ∷ rest) e h b = (plain x.0, sign BracketClose ∷ rest, e, h, and_false (is_atom_end (after_atom x.0)), b)
    by (sign Bang ∷ rest) e h b = (plain x.0, sign Bang ∷ rest, e, h, and_false (is_atom_end (after_atom x.0)), b)
    by (sign ColonSign ∷ rest) e h b = (plain x.0, sign ColonSign ∷ rest, e, h, and_false (is_atom_end (after_atom x.0)), b)
    by (sign Comma ∷ rest) e h b = (plain x.0, sign Comma ∷ rest, e, h, and_false (is_atom_end (after_atom x.0)), b)
    by (sign Other ∷ rest) e h b = (plain x.0, sign Other ∷ rest, e, h, and_false (is_atom_end (after_atom x.0)), b)

-- each is longer than what follows it
longer_more : (ts : List TestForm) (rest : List Part) → length rest < length (spelled_more ts rest)
longer_more [] rest = omega arith
longer_more (t ∷ ts) rest = let a = longer_test t (spelled_more ts rest) in let b = longer_more ts rest in omega arith

longer_tests : (ts : List TestForm) (rest : List Part) → length rest ≤ length (spelled_tests ts rest)
longer_tests [] rest = omega arith
longer_tests (t ∷ ts) rest = let a = longer_test t (spelled_more ts rest) in let b = longer_more ts rest in omega arith

longer_label : (label : Option Name) (rest : List Part) → length rest < length (spelled_label label rest)
longer_label None rest = omega arith
longer_label (Some n) rest = omega arith

mutual
  longer : (e : Expression) (rest : List Part) → length rest < length (spelled e rest)
  longer (only t) rest = longer_term t rest
  longer (either t e) rest = let a = longer_term t (sign Bar ∷ spelled e rest) in let b = longer e rest in omega arith

  longer_term : (t : Term) (rest : List Part) → length rest < length (spelled_term t rest)
  longer_term (single f) rest = longer_factor f rest
  longer_term (then f t) rest = let a = longer_factor f (spelled_term t rest) in let b = longer_term t rest in omega arith

  longer_factor : (f : Factor) (rest : List Part) → length rest < length (spelled_factor f rest)
  longer_factor (plain a) rest = longer_atom a rest
  longer_factor (star a) rest = let z = longer_atom a (sign Star ∷ rest) in omega arith
  longer_factor (plus a) rest = let z = longer_atom a (sign Plus ∷ rest) in omega arith
  longer_factor (maybe a) rest = let z = longer_atom a (sign Question ∷ rest) in omega arith

  longer_atom : (a : Atom) (rest : List Part) → length rest < length (spelled_atom a rest)
  longer_atom (literal label ts) rest = let a = longer_label label (spelled_tests ts rest) in let b = longer_tests ts rest in omega arith
  longer_atom (group e) rest = let a = longer e (sign ParenClose ∷ rest) in omega arith

-- a factor before an expression
abbrev before : Factor → Expression → Expression
before f (only t) = only (then f t)
before f (either t e) = either (then f t) e

before_is : (f : Factor) (e : Expression) (rest : List Part) → spelled (before f e) rest ≡ spelled_factor f (spelled e rest)
before_is f (only t) rest = refl
before_is f (either t e) rest = refl

-- an expression, and then the end or a `)`
abbrev Ends : ℕ → List Part → Type 0
Ends d rest = ((rest ≡ []) × (d ≡ 0)) ⊎ ((more : List Part) × (e : ℕ) × (rest ≡ sign ParenClose ∷ more) × (d ≡ e + 1) × Good Whole e more)

abbrev Parsed : ℕ → List Part → Type 0
Parsed d ps = (e : Expression) × (rest : List Part) × (ps ≡ spelled e rest) × Ends d rest

-- after a factor
after_one : (n d : ℕ) (ps : List Part) → length ps ≤ suc n → ((q : Phase) (ps' : List Part) → takes_atom q ≡ true → length ps' ≤ n → AtomFirst ps' → Good q d ps' → Parsed d ps') →
    FactorRead d ps → Parsed d ps
after_one n d ps l rec x = by x.1 x.2 (next_of (after_factor x.0) d x.1 (factor_end x.0) x.3 x.4 x.5)
  where
    by : (rest : List Part) → ps ≡ spelled_factor x.0 rest → Next (after_factor x.0) d rest → Parsed d ps
    by rest e (at_end z) = (only (single x.0), [], e, inl (refl, z))
    by rest e (at_close more k z g) = (only (single x.0), sign ParenClose ∷ more, e, inr (more, k, refl, z, g))
    by rest e (at_bar more g) =
        let a = longer_factor x.0 (sign Bar ∷ more) in
        let b : length ps ≡ length (spelled_factor x.0 (sign Bar ∷ more)) = ap length e in
        let y = rec Begin more refl (omega arith) (begin_first d more g) g in
        (either (single x.0) y.0, y.1, e ∙ ap (λ l. spelled_factor x.0 (sign Bar ∷ l)) y.2, y.3)
    by rest e (at_atom p more f g) =
        let a = longer_factor x.0 (p ∷ more) in
        let b : length ps ≡ length (spelled_factor x.0 (p ∷ more)) = ap length e in
        let y = rec (after_factor x.0) (p ∷ more) (takes_of_end (after_factor x.0) (factor_end x.0)) (omega arith) f g in
        (before x.0 y.0, y.1, e ∙ ap (spelled_factor x.0) y.2 ∙ sym (before_is x.0 y.0 y.1), y.3)

dot_good : (q : Phase) (d : ℕ) (rest : List Part) → takes_atom q ≡ true → run false q d (sign Dot ∷ rest) ≡ run false Label d rest
dot_good q d rest e = run_label q d None rest e

identifier_atom : (q : Phase) (d : ℕ) (w : List ℕ) (rest : List Part) → takes_atom q ≡ true → Good q d (identifier w ∷ rest) → AtomRead d (identifier w ∷ rest)
identifier_atom q d w rest e h = by (which (is_name w))
  where
    by : (is_name w ≡ true) ⊎ (is_name w ≡ false) → AtomRead d (identifier w ∷ rest)
    by (inl f) = let name : Name = record { bytes = w; ok = f } in read_literal (Some name) d rest (good_by q Label d d (identifier w ∷ rest) rest (run_label q d (Some name) rest e) h)
    by (inr f) = absurd (none_good q d (identifier w ∷ rest) (dead q e) h)
      where
        dead : (q : Phase) → takes_atom q ≡ true → run false q d (identifier w ∷ rest) ≡ None
        dead Begin e = rw f refl
        dead Label e = rw f refl
        dead Whole e = rw f refl
        dead Repeated e = rw f refl
        dead Test e = absurd (cc)
        dead Negated e = absurd (cc)
        dead Ambient e = absurd (cc)
        dead Descriptor e = absurd (cc)
        dead Colon e = absurd (cc)
        dead Right e = absurd (cc)

group_atom : (d : ℕ) (ps : List Part) → Parsed (d + 1) ps → AtomRead d (sign ParenOpen ∷ ps)
group_atom d ps x = by x.3
  where
    by : Ends (d + 1) x.1 → AtomRead d (sign ParenOpen ∷ ps)
    by (inl z) = let e = z.1 in absurd (omega arith)
    by (inr z) =
        let e = z.3 in
        let same : z.1 ≡ d = omega arith in
        (group x.0, z.0, ap (λ l. sign ParenOpen ∷ l) (x.2 ∙ ap (spelled x.0) z.2), subst (λ k. Good Whole k z.0) same z.4, refl)

pub parse : (n : ℕ) (q : Phase) (d : ℕ) (ps : List Part) → takes_atom q ≡ true → length ps ≤ n → AtomFirst ps → Good q d ps → Parsed d ps
parse n q d [] t l f h = absurd f
parse zero q d (p ∷ rest) t l f h = absurd (omega arith)
parse (suc n) q d (identifier w ∷ rest) t l f h = after_one n d (identifier w ∷ rest) l (λ r ps' t' l' f' h'. parse n r d ps' t' l' f' h') (read_factor d (identifier w ∷ rest) (identifier_atom q d w rest t h))
parse (suc n) q d (sign Dot ∷ rest) t l f h = after_one n d (sign Dot ∷ rest) l (λ r ps' t' l' f' h'. parse n r d ps' t' l' f' h')
    (read_factor d (sign Dot ∷ rest) (read_literal None d rest (good_by q Label d d (sign Dot ∷ rest) rest (dot_good q d rest t) h)))
parse (suc n) q d (sign ParenOpen ∷ rest) t l f h =
    let g = good_by q Begin d (d + 1) (sign ParenOpen ∷ rest) rest (run_open q d rest t) h in
    after_one n d (sign ParenOpen ∷ rest) l (λ r ps' t' l' f' h'. parse n r d ps' t' l' f' h') (read_factor d (sign ParenOpen ∷ rest)
    (group_atom d rest (parse n Begin (d + 1) rest refl (omega arith) (begin_first (d + 1) rest g) g)))
parse (suc n) q d (sign ParenClose ∷ rest) t l f h = absurd f
parse (suc n) q d (sign Bar ∷ rest) t l f h = absurd f
parse (suc n) q d (sign Star ∷ rest) t l f h = absurd f
parse (suc n) q d (sign Plus ∷ rest) t l f h = absurd f
parse (suc n) q d (sign Question ∷ rest) t l f h = absurd f
parse (suc n) q d (sign BracketOpen ∷ rest) t l f h = absurd f
parse (suc n) q d (sign BracketClose ∷ rest) t l f h = absurd f
parse (suc n) q d (sign Bang ∷ rest) t l f h = absurd f
parse (suc n) q d (sign ColonSign ∷ rest) t l f h = absurd f
parse (suc n) q d (sign Comma ∷ rest) t l f h = absurd f
parse (suc n) q d (sign Other ∷ rest) t l f h = absurd f

-- what runs through from the start is an expression
pub parsed : (ps : List Part) → Good Begin 0 ps → (e : Expression) × (ps ≡ spelled e [])
parsed ps h = by (parse (length ps) Begin 0 ps refl (omega arith) (begin_first 0 ps h) h)
  where
    by : Parsed 0 ps → (e : Expression) × (ps ≡ spelled e [])
    by x = (x.0, x.2 ∙ ap (spelled x.0) (last x.3))
      where
        last : Ends 0 x.1 → x.1 ≡ []
        last (inl z) = z.0
        last (inr z) = let e = z.3 in absurd (omega arith)
