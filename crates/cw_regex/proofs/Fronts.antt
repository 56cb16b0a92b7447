-- A front that runs goes on to a whole text.
use Rattle.std.proofs.Common.{◌≡◌, ◌⊎◌, inl, inr, ℕ, zero, suc, List, [], ◌∷◌, ◌++◌, Bool, true, false, ◌&&◌, Option, Some, None, option_and_then, refl, sym, ap, ap₂, ◌∙◌, subst, add-one}
use Rattle.std.proofs.Common.{append-nil, nat_eq, eqb-true}
use Rattle.std.specs.Option.{option_map}
use Rattle.std.specs.Str.{bytes_eq}
use Rattle.std.proofs.lemmas.Slice.Eq.{bytes_eq-Decides}
use Rattle.cw_rights.specs.Valid.{is_name}
use Rattle.cw_regex.specs.declared.text.Sign.{Sign}
use Rattle.cw_regex.specs.declared.text.Sign.TheVariants.{Dot, ParenOpen, ParenClose, Bar, Star, Plus, Question, BracketOpen, BracketClose, Bang, Colon as ColonSign, Comma, Other}
use Rattle.cw_regex.specs.declared.phase.Phase.{Phase}
use Rattle.cw_regex.specs.declared.phase.Phase.TheVariants.{Begin, Label, Whole, Repeated, Test, Negated, Ambient, Descriptor, Colon, Right}
use Rattle.cw_regex.specs.Parts.{Part, identifier, sign, begins_identifier, parts, starts_blank, ends_blank}
use Rattle.cw_regex.specs.Grammar.{is_descriptor, amb, Name, DescriptorName, Subject, ambient, holds, TestForm, spelled_subject, spelled_test, IsExpression, IsTest}
use Rattle.cw_regex.specs.Machine.{in_test, step_identifier, is_end, is_test_end, step, run, start, ends_here, In}
use Rattle.cw_lemmas.proofs.Truths.{and_first as and_left, and_second as and_right}
use Rattle.std.proofs.lemmas.Bool.{and_from as and_both}
use Rattle.std.proofs.lemmas.Bool.{cases_Bool as which}
use Rattle.cw_regex.proofs.Cutting.{parts_cut}
use Rattle.cw_regex.specs.Scans.{ends_identifier, Apart, May}
use Rattle.cw_regex.proofs.Running.{after_subject, after, expression_end, run_identifier, run_expression, run_test, run_close}
use Rattle.cw_regex.proofs.Parsing.{parsed}

abbrev pub At : Type 0
At = Phase × ℕ

pub run_append : (alone : Bool) (xs ys : List Part) (q r : Phase) (d e : ℕ) → run alone q d xs ≡ Some (r, e) → run alone q d (xs ++ ys) ≡ run alone r e ys
run_append alone [] ys q r d e h =
    let x : At = (q, d) in
    let y : At = (r, e) in
    let s : Some x ≡ Some y = h in
    let p : x ≡ y = cc in
    ap (λ (a : At). run alone a.0 a.1 ys) p
run_append alone (p ∷ xs) ys q r d e h = by (step alone q d p) (λ a. run_append alone xs ys a.0 r a.1 e) h
  where
    by : (o : Option At) → ((a : At) → run alone a.0 a.1 xs ≡ Some (r, e) → run alone a.0 a.1 (xs ++ ys) ≡ run alone r e ys) →
        option_and_then (λ (a : At). run alone a.0 a.1 xs) o ≡ Some (r, e) → option_and_then (λ (a : At). run alone a.0 a.1 (xs ++ ys)) o ≡ run alone r e ys
    by None rec h = absurd (cc)
    by (Some a) rec h = rec a h

-- two places that a run ends at are one
pub same_end : (q r : Phase) (d e : ℕ) (o : Option At) → o ≡ Some (q, d) → o ≡ Some (r, e) → (q ≡ r) × (d ≡ e)
same_end q r d e o h k =
    let x : At = (q, d) in
    let y : At = (r, e) in
    let s : Some x ≡ Some y = sym h ∙ k in
    let p : x ≡ y = cc in
    (ap (λ (a : At). a.0) p, ap (λ (a : At). a.1) p)

-- what brings an expression to an end from a phase, and then closes what is open
abbrev tail : Phase → List ℕ
tail Begin = 46 ∷ []
tail Label = 46 ∷ []
tail Whole = 46 ∷ []
tail Repeated = 46 ∷ []
tail Test = 32 ∷ 97 ∷ 58 ∷ 97 ∷ 93 ∷ []
tail Negated = 32 ∷ 97 ∷ 58 ∷ 97 ∷ 93 ∷ []
tail Ambient = 58 ∷ 97 ∷ 93 ∷ []
tail Descriptor = 58 ∷ 97 ∷ 93 ∷ []
tail Colon = 32 ∷ 97 ∷ 93 ∷ []
tail Right = 93 ∷ []

abbrev closing : ℕ → List ℕ
closing zero = []
closing (suc d) = 41 ∷ closing d

abbrev closed_by : Phase → Phase
closed_by Begin = Label
closed_by Label = Label
closed_by Whole = Label
closed_by Repeated = Label
closed_by q = Whole

closed_end : (q : Phase) → is_end (closed_by q) ≡ true
closed_end Begin = refl
closed_end Label = refl
closed_end Whole = refl
closed_end Repeated = refl
closed_end Test = refl
closed_end Negated = refl
closed_end Ambient = refl
closed_end Descriptor = refl
closed_end Colon = refl
closed_end Right = refl

tail_runs : (q : Phase) (d : ℕ) → run false q d (parts (tail q)) ≡ Some (closed_by q, d)
tail_runs Begin d = refl
tail_runs Label d = refl
tail_runs Whole d = refl
tail_runs Repeated d = refl
tail_runs Test d = refl
tail_runs Negated d = refl
tail_runs Ambient d = refl
tail_runs Descriptor d = refl
tail_runs Colon d = refl
tail_runs Right d = refl

tail_apart : (q : Phase) → ends_identifier (tail q) ≡ false
tail_apart Begin = refl
tail_apart Label = refl
tail_apart Whole = refl
tail_apart Repeated = refl
tail_apart Test = refl
tail_apart Negated = refl
tail_apart Ambient = refl
tail_apart Descriptor = refl
tail_apart Colon = refl
tail_apart Right = refl

tail_begins : (q : Phase) (rest : List ℕ) → begins_identifier (tail q ++ rest) ≡ false
tail_begins Begin rest = refl
tail_begins Label rest = refl
tail_begins Whole rest = refl
tail_begins Repeated rest = refl
tail_begins Test rest = refl
tail_begins Negated rest = refl
tail_begins Ambient rest = refl
tail_begins Descriptor rest = refl
tail_begins Colon rest = refl
tail_begins Right rest = refl

closing_runs : (q : Phase) (d : ℕ) → is_end q ≡ true → (z : Phase) × (run false q d (parts (closing d)) ≡ Some (z, 0)) × (is_end z ≡ true)
closing_runs q zero e = (q, refl, e)
closing_runs q (suc d) e =
    let x = closing_runs Whole d refl in
    (x.0, subst (λ n. run false q n (sign ParenClose ∷ parts (closing d)) ≡ run false Whole d (parts (closing d))) (add-one d) (run_close q d (parts (closing d)) e) ∙ x.1, x.2)

pub apart_begins : (s t : List ℕ) → begins_identifier t ≡ false → Apart s t
apart_begins s t e = by (ends_identifier s)
  where
    by : (b : Bool) → (b && begins_identifier t) ≡ false
    by true = e
    by false = refl

pub apart_before : (s t : List ℕ) → ends_identifier s ≡ false → Apart s t
apart_before s t e = rw e refl

pub ends_append : (s : List ℕ) (b : ℕ) (t : List ℕ) → ends_blank (s ++ b ∷ t) ≡ ends_blank (b ∷ t)
ends_append [] b t = refl
ends_append (a ∷ []) b t = refl
ends_append (a ∷ (c ∷ s)) b t = ends_append (c ∷ s) b t

closing_ends : (d : ℕ) → ends_blank (closing (suc d)) ≡ false
closing_ends zero = refl
closing_ends (suc d) = closing_ends d

tail_ends : (q : Phase) → ends_blank (tail q) ≡ false
tail_ends Begin = refl
tail_ends Label = refl
tail_ends Whole = refl
tail_ends Repeated = refl
tail_ends Test = refl
tail_ends Negated = refl
tail_ends Ambient = refl
tail_ends Descriptor = refl
tail_ends Colon = refl
tail_ends Right = refl

both_end : (q : Phase) (d : ℕ) → ends_blank (tail q ++ closing d) ≡ false
both_end q zero = ap ends_blank (append-nil (tail q)) ∙ tail_ends q
both_end q (suc d) = ends_append (tail q) 41 (closing d) ∙ closing_ends d

some_tail : (q : Phase) (rest : List ℕ) → (b : ℕ) × (t : List ℕ) × (tail q ++ rest ≡ b ∷ t)
some_tail Begin rest = (_, _, refl)
some_tail Label rest = (_, _, refl)
some_tail Whole rest = (_, _, refl)
some_tail Repeated rest = (_, _, refl)
some_tail Test rest = (_, _, refl)
some_tail Negated rest = (_, _, refl)
some_tail Ambient rest = (_, _, refl)
some_tail Descriptor rest = (_, _, refl)
some_tail Colon rest = (_, _, refl)
some_tail Right rest = (_, _, refl)

pub starts_append : (s t : List ℕ) → starts_blank s ≡ false → (s ≡ [] → starts_blank t ≡ false) → starts_blank (s ++ t) ≡ false
starts_append [] t e f = f refl
starts_append (b ∷ s) t e f = e

-- a front of an expression
front_expression : (s : List ℕ) (q : Phase) (d : ℕ) → starts_blank s ≡ false → run false Begin 0 (parts s) ≡ Some (q, d) → (rest : List ℕ) × IsExpression (s ++ rest)
front_expression s q d b h =
    let more = tail q ++ closing d in
    let cut = parts_cut s more (apart_begins s more (tail_begins q (closing d))) in
    let within = parts_cut (tail q) (closing d) (apart_before (tail q) (closing d) (tail_apart q)) in
    let x = closing_runs (closed_by q) d (closed_end q) in
    let goes : run false Begin 0 (parts (s ++ more)) ≡ Some (x.0, 0) = ap (run false Begin 0) cut ∙ run_append false (parts s) (parts more) Begin q 0 d h ∙ ap (run false q d) within
    ∙ run_append false (parts (tail q)) (parts (closing d)) q (closed_by q) d d (tail_runs q d) ∙ x.1 in
    let e = parsed (parts (s ++ more)) (x.0, goes, x.2) in
    let t = some_tail q (closing d) in (
      more,
      (
        e.0,
        record {
          parts = e.1;
          front = starts_append s more b (λ n. let z : Begin ≡ q = (same_end Begin q 0 d (run false Begin 0 (parts [])) refl (subst (λ l. run false Begin 0 (parts l) ≡ Some (q, d)) n h)).0
              in subst (λ p. starts_blank (tail p ++ closing d) ≡ false) z refl);
          back = ap (λ l. ends_blank (s ++ l)) t.2 ∙ ends_append s t.0 t.1 ∙ ap ends_blank (sym t.2) ∙ both_end q d;
        },
      ),
    )

-- what is read of an expression runs, so a text that doesn't run is none
pub expression_runs : (text : List ℕ) → IsExpression text → (z : Phase) × (run false Begin 0 (parts text) ≡ Some (z, 0)) × (is_end z ≡ true)
expression_runs text x = (after x.0, ap (run false Begin 0) x.1.parts ∙ run_expression x.0 Begin 0 [] refl, expression_end x.0)

-- a test by itself
abbrev Alone : Phase → ℕ → List Part → Type 0
Alone q d ps = (z : Phase) × (e : ℕ) × (run true q d ps ≡ Some (z, e)) × (is_test_end z ≡ true)

alone_nil : (q : Phase) (d : ℕ) → Alone q d [] → is_test_end q ≡ true
alone_nil q d h = let a = (same_end q h.0 d h.1 (Some (q, d)) refl h.2).0 in subst (λ x. is_test_end x ≡ true) (sym a) h.3

alone_by : (q r : Phase) (d e : ℕ) (ps qs : List Part) → run true q d ps ≡ run true r e qs → Alone q d ps → Alone r e qs
alone_by q r d e ps qs same h = (h.0, h.1, sym same ∙ h.2, h.3)

none_alone : (q : Phase) (d : ℕ) (ps : List Part) → run true q d ps ≡ None → Alone q d ps → ⊥
none_alone q d ps e h = let f = h.2 in absurd (cc)

last_right : (d : ℕ) (ps : List Part) → Alone Right d ps → ps ≡ []
last_right d [] h = refl
last_right d (identifier w ∷ rest) h = absurd (let e = h.2 in cc)
last_right d (sign Dot ∷ rest) h = absurd (let e = h.2 in cc)
last_right d (sign ParenOpen ∷ rest) h = absurd (let e = h.2 in cc)
last_right d (sign ParenClose ∷ rest) h = absurd (let e = h.2 in cc)
last_right d (sign Bar ∷ rest) h = absurd (let e = h.2 in cc)
last_right d (sign Star ∷ rest) h = absurd (let e = h.2 in cc)
last_right d (sign Plus ∷ rest) h = absurd (let e = h.2 in cc)
last_right d (sign Question ∷ rest) h = absurd (let e = h.2 in cc)
last_right d (sign BracketOpen ∷ rest) h = absurd (let e = h.2 in cc)
last_right d (sign BracketClose ∷ rest) h = absurd (let e = h.2 in cc)
last_right d (sign Bang ∷ rest) h = absurd (let e = h.2 in cc)
last_right d (sign ColonSign ∷ rest) h = absurd (let e = h.2 in cc)
last_right d (sign Comma ∷ rest) h = absurd (let e = h.2 in cc)
last_right d (sign Other ∷ rest) h = absurd (let e = h.2 in cc)

alone_right : (d : ℕ) (ps : List Part) → Alone Colon d ps → (r : Name) × (ps ≡ identifier r.bytes ∷ [])
alone_right d [] h = let z = alone_nil Colon d h in absurd (cc)
alone_right d (identifier w ∷ rest) h = by (which (is_name w))
  where
    by : (is_name w ≡ true) ⊎ (is_name w ≡ false) → (r : Name) × (identifier w ∷ rest ≡ identifier r.bytes ∷ [])
    by (inl e) = let name : Name = record { bytes = w; ok = e } in
        (name, ap (λ l. identifier w ∷ l) (last_right d rest (alone_by Colon Right d d (identifier w ∷ rest) rest (run_identifier true Colon Right d w rest (rw e refl)) h)))
    by (inr e) = let dead : run true Colon d (identifier w ∷ rest) ≡ None = rw e refl in absurd (none_alone Colon d (identifier w ∷ rest) dead h)
alone_right d (sign Dot ∷ rest) h = absurd (let e = h.2 in cc)
alone_right d (sign ParenOpen ∷ rest) h = absurd (let e = h.2 in cc)
alone_right d (sign ParenClose ∷ rest) h = absurd (let e = h.2 in cc)
alone_right d (sign Bar ∷ rest) h = absurd (let e = h.2 in cc)
alone_right d (sign Star ∷ rest) h = absurd (let e = h.2 in cc)
alone_right d (sign Plus ∷ rest) h = absurd (let e = h.2 in cc)
alone_right d (sign Question ∷ rest) h = absurd (let e = h.2 in cc)
alone_right d (sign BracketOpen ∷ rest) h = absurd (let e = h.2 in cc)
alone_right d (sign BracketClose ∷ rest) h = absurd (let e = h.2 in cc)
alone_right d (sign Bang ∷ rest) h = absurd (let e = h.2 in cc)
alone_right d (sign ColonSign ∷ rest) h = absurd (let e = h.2 in cc)
alone_right d (sign Comma ∷ rest) h = absurd (let e = h.2 in cc)
alone_right d (sign Other ∷ rest) h = absurd (let e = h.2 in cc)

alone_descriptor : (d : ℕ) (ps : List Part) → Alone Descriptor d ps → (r : Name) × (ps ≡ sign ColonSign ∷ identifier r.bytes ∷ [])
alone_descriptor d [] h = let z = alone_nil Descriptor d h in absurd (cc)
alone_descriptor d (identifier w ∷ rest) h = absurd (let e = h.2 in cc)
alone_descriptor d (sign ColonSign ∷ rest) h = let x = alone_right d rest (alone_by Descriptor Colon d d (sign ColonSign ∷ rest) rest refl h) in (x.0, ap (λ l. sign ColonSign ∷ l) x.1)
alone_descriptor d (sign Dot ∷ rest) h = absurd (let e = h.2 in cc)
alone_descriptor d (sign ParenOpen ∷ rest) h = absurd (let e = h.2 in cc)
alone_descriptor d (sign ParenClose ∷ rest) h = absurd (let e = h.2 in cc)
alone_descriptor d (sign Bar ∷ rest) h = absurd (let e = h.2 in cc)
alone_descriptor d (sign Star ∷ rest) h = absurd (let e = h.2 in cc)
alone_descriptor d (sign Plus ∷ rest) h = absurd (let e = h.2 in cc)
alone_descriptor d (sign Question ∷ rest) h = absurd (let e = h.2 in cc)
alone_descriptor d (sign BracketOpen ∷ rest) h = absurd (let e = h.2 in cc)
alone_descriptor d (sign BracketClose ∷ rest) h = absurd (let e = h.2 in cc)
alone_descriptor d (sign Bang ∷ rest) h = absurd (let e = h.2 in cc)
alone_descriptor d (sign Comma ∷ rest) h = absurd (let e = h.2 in cc)
alone_descriptor d (sign Other ∷ rest) h = absurd (let e = h.2 in cc)

alone_ambient : (d : ℕ) (ps : List Part) → Alone Ambient d ps → (s : Subject) × (identifier amb ∷ ps ≡ spelled_subject s [])
alone_ambient d [] h = (ambient, refl)
alone_ambient d (identifier w ∷ rest) h = absurd (let e = h.2 in cc)
alone_ambient d (sign ColonSign ∷ rest) h =
    let named : DescriptorName = record { bytes = amb; ok = refl } in
    let x = alone_right d rest (alone_by Ambient Colon d d (sign ColonSign ∷ rest) rest refl h) in
    (holds named x.0, ap (λ l. identifier amb ∷ sign ColonSign ∷ l) x.1)
alone_ambient d (sign Dot ∷ rest) h = absurd (let e = h.2 in cc)
alone_ambient d (sign ParenOpen ∷ rest) h = absurd (let e = h.2 in cc)
alone_ambient d (sign ParenClose ∷ rest) h = absurd (let e = h.2 in cc)
alone_ambient d (sign Bar ∷ rest) h = absurd (let e = h.2 in cc)
alone_ambient d (sign Star ∷ rest) h = absurd (let e = h.2 in cc)
alone_ambient d (sign Plus ∷ rest) h = absurd (let e = h.2 in cc)
alone_ambient d (sign Question ∷ rest) h = absurd (let e = h.2 in cc)
alone_ambient d (sign BracketOpen ∷ rest) h = absurd (let e = h.2 in cc)
alone_ambient d (sign BracketClose ∷ rest) h = absurd (let e = h.2 in cc)
alone_ambient d (sign Bang ∷ rest) h = absurd (let e = h.2 in cc)
alone_ambient d (sign Comma ∷ rest) h = absurd (let e = h.2 in cc)
alone_ambient d (sign Other ∷ rest) h = absurd (let e = h.2 in cc)

-- the phases within a test
abbrev pub is_in_test : Phase → Bool
is_in_test Begin = false
is_in_test Label = false
is_in_test Whole = false
is_in_test Repeated = false
is_in_test q = true

alone_identifier : (d : ℕ) (w : List ℕ) (q : Phase) (rest : List Part) → step_identifier q w ≡ in_test w → Alone q d (identifier w ∷ rest) → (s : Subject) × (identifier w ∷ rest ≡ spelled_subject s [])
alone_identifier d w q rest t h = by (which (bytes_eq w amb)) (which (is_descriptor w))
  where
    by : (bytes_eq w amb ≡ true) ⊎ (bytes_eq w amb ≡ false) → (is_descriptor w ≡ true) ⊎ (is_descriptor w ≡ false) → (s : Subject) × (identifier w ∷ rest ≡ spelled_subject s [])
    by (inl e) f =
        let goes : step_identifier q w ≡ Some Ambient = t ∙ rw e refl in
        let x = alone_ambient d rest (alone_by q Ambient d d (identifier w ∷ rest) rest (run_identifier true q Ambient d w rest goes) h) in
        (x.0, ap (λ v. identifier v ∷ rest) ((bytes_eq-Decides w amb).0 e) ∙ x.1)
    by (inr e) (inl f) =
        let goes : step_identifier q w ≡ Some Descriptor = t ∙ rw (e, f) refl in
        let x = alone_descriptor d rest (alone_by q Descriptor d d (identifier w ∷ rest) rest (run_identifier true q Descriptor d w rest goes) h) in
        let named : DescriptorName = record { bytes = w; ok = f } in
        (holds named x.0, ap (λ l. identifier w ∷ l) x.1)
    by (inr e) (inr f) =
        let stops : step_identifier q w ≡ None = t ∙ rw (e, f) refl in
        let dead : run true q d (identifier w ∷ rest) ≡ None = rw stops refl in
        absurd (none_alone q d (identifier w ∷ rest) dead h)

alone_negated : (d : ℕ) (ps : List Part) → Alone Negated d ps → (s : Subject) × (ps ≡ spelled_subject s [])
alone_negated d [] h = let z = alone_nil Negated d h in absurd (cc)
alone_negated d (identifier w ∷ rest) h = alone_identifier d w Negated rest refl h
alone_negated d (sign Dot ∷ rest) h = absurd (let e = h.2 in cc)
alone_negated d (sign ParenOpen ∷ rest) h = absurd (let e = h.2 in cc)
alone_negated d (sign ParenClose ∷ rest) h = absurd (let e = h.2 in cc)
alone_negated d (sign Bar ∷ rest) h = absurd (let e = h.2 in cc)
alone_negated d (sign Star ∷ rest) h = absurd (let e = h.2 in cc)
alone_negated d (sign Plus ∷ rest) h = absurd (let e = h.2 in cc)
alone_negated d (sign Question ∷ rest) h = absurd (let e = h.2 in cc)
alone_negated d (sign BracketOpen ∷ rest) h = absurd (let e = h.2 in cc)
alone_negated d (sign BracketClose ∷ rest) h = absurd (let e = h.2 in cc)
alone_negated d (sign Bang ∷ rest) h = absurd (let e = h.2 in cc)
alone_negated d (sign ColonSign ∷ rest) h = absurd (let e = h.2 in cc)
alone_negated d (sign Comma ∷ rest) h = absurd (let e = h.2 in cc)
alone_negated d (sign Other ∷ rest) h = absurd (let e = h.2 in cc)

alone_test : (d : ℕ) (ps : List Part) → Alone Test d ps → (t : TestForm) × (ps ≡ spelled_test t [])
alone_test d [] h = let z = alone_nil Test d h in absurd (cc)
alone_test d (identifier w ∷ rest) h = let x = alone_identifier d w Test rest refl h in (record { negated = false; what = x.0 }, x.1)
alone_test d (sign Bang ∷ rest) h =
    let x = alone_negated d rest (alone_by Test Negated d d (sign Bang ∷ rest) rest refl h) in
    (record { negated = true; what = x.0 }, ap (λ l. sign Bang ∷ l) x.1)
alone_test d (sign Dot ∷ rest) h = absurd (let e = h.2 in cc)
alone_test d (sign ParenOpen ∷ rest) h = absurd (let e = h.2 in cc)
alone_test d (sign ParenClose ∷ rest) h = absurd (let e = h.2 in cc)
alone_test d (sign Bar ∷ rest) h = absurd (let e = h.2 in cc)
alone_test d (sign Star ∷ rest) h = absurd (let e = h.2 in cc)
alone_test d (sign Plus ∷ rest) h = absurd (let e = h.2 in cc)
alone_test d (sign Question ∷ rest) h = absurd (let e = h.2 in cc)
alone_test d (sign BracketOpen ∷ rest) h = absurd (let e = h.2 in cc)
alone_test d (sign BracketClose ∷ rest) h = absurd (let e = h.2 in cc)
alone_test d (sign ColonSign ∷ rest) h = absurd (let e = h.2 in cc)
alone_test d (sign Comma ∷ rest) h = absurd (let e = h.2 in cc)
alone_test d (sign Other ∷ rest) h = absurd (let e = h.2 in cc)

test_ends : (t : TestForm) → is_test_end (after_subject t.what) ≡ true
test_ends t = by t.what
  where
    by : (s : Subject) → is_test_end (after_subject s) ≡ true
    by ambient = refl
    by (holds d r) = refl

pub test_runs : (text : List ℕ) → IsTest text → (z : Phase) × (run true Test 0 (parts text) ≡ Some (z, 0)) × (is_test_end z ≡ true)
test_runs text x = (after_subject x.0.what, ap (run true Test 0) x.1.parts ∙ run_test true 0 x.0 [], test_ends x.0)

in_stays : (r : Phase) (w : List ℕ) → in_test w ≡ Some r → is_in_test r ≡ true
in_stays r w h = by (which (bytes_eq w amb)) (which (is_descriptor w)) h
  where
    by : (bytes_eq w amb ≡ true) ⊎ (bytes_eq w amb ≡ false) → (is_descriptor w ≡ true) ⊎ (is_descriptor w ≡ false) → in_test w ≡ Some r → is_in_test r ≡ true
    by (inl e) f k = let x : in_test w ≡ Some Ambient = rw e refl in let y : Some Ambient ≡ Some r = sym x ∙ k in let z : Ambient ≡ r = cc in subst (λ x. is_in_test x ≡ true) z refl
    by (inr e) (inl f) k = let x : in_test w ≡ Some Descriptor = rw (e, f) refl in let y : Some Descriptor ≡ Some r = sym x ∙ k in let z : Descriptor ≡ r = cc in
        subst (λ x. is_in_test x ≡ true) z refl
    by (inr e) (inr f) k = let x : in_test w ≡ None = rw (e, f) refl in absurd (cc)

identifier_stays : (q r : Phase) (w : List ℕ) → is_in_test q ≡ true → step_identifier q w ≡ Some r → is_in_test r ≡ true
identifier_stays Test r w t h = in_stays r w h
identifier_stays Negated r w t h = in_stays r w h
identifier_stays Colon r w t h = by (which (is_name w))
  where
    by : (is_name w ≡ true) ⊎ (is_name w ≡ false) → is_in_test r ≡ true
    by (inl e) = let x : step_identifier Colon w ≡ Some Right = rw e refl in let y : Some Right ≡ Some r = sym x ∙ h in let z : Right ≡ r = cc in subst (λ v. is_in_test v ≡ true) z refl
    by (inr e) = let x : step_identifier Colon w ≡ None = rw e refl in absurd (cc)
identifier_stays Ambient r w t h = absurd (cc)
identifier_stays Descriptor r w t h = absurd (cc)
identifier_stays Right r w t h = absurd (cc)
identifier_stays Begin r w t h = absurd (cc)
identifier_stays Label r w t h = absurd (cc)
identifier_stays Whole r w t h = absurd (cc)
identifier_stays Repeated r w t h = absurd (cc)

sign_stays : (q : Phase) (d : ℕ) (m : Sign) (a : At) → is_in_test q ≡ true → step true q d (sign m) ≡ Some a → is_in_test a.0 ≡ true
sign_stays Begin d m a t h = absurd (cc)
sign_stays Label d m a t h = absurd (cc)
sign_stays Whole d m a t h = absurd (cc)
sign_stays Repeated d m a t h = absurd (cc)
sign_stays Test d Dot a t h = absurd (cc)
sign_stays Test d ParenOpen a t h = absurd (cc)
sign_stays Test d ParenClose a t h = absurd (cc)
sign_stays Test d Bar a t h = absurd (cc)
sign_stays Test d Star a t h = absurd (cc)
sign_stays Test d Plus a t h = absurd (cc)
sign_stays Test d Question a t h = absurd (cc)
sign_stays Test d BracketOpen a t h = absurd (cc)
sign_stays Test d BracketClose a t h = absurd (cc)
sign_stays Test d Bang a t h = let x : At = (Negated, d) in let y : Some x ≡ Some a = h in let z : x ≡ a = cc in subst (λ (v : At). is_in_test v.0 ≡ true) z refl
sign_stays Test d ColonSign a t h = absurd (cc)
sign_stays Test d Comma a t h = absurd (cc)
sign_stays Test d Other a t h = absurd (cc)
sign_stays Negated d Dot a t h = absurd (cc)
sign_stays Negated d ParenOpen a t h = absurd (cc)
sign_stays Negated d ParenClose a t h = absurd (cc)
sign_stays Negated d Bar a t h = absurd (cc)
sign_stays Negated d Star a t h = absurd (cc)
sign_stays Negated d Plus a t h = absurd (cc)
sign_stays Negated d Question a t h = absurd (cc)
sign_stays Negated d BracketOpen a t h = absurd (cc)
sign_stays Negated d BracketClose a t h = absurd (cc)
sign_stays Negated d Bang a t h = absurd (cc)
sign_stays Negated d ColonSign a t h = absurd (cc)
sign_stays Negated d Comma a t h = absurd (cc)
sign_stays Negated d Other a t h = absurd (cc)
sign_stays Ambient d Dot a t h = absurd (cc)
sign_stays Ambient d ParenOpen a t h = absurd (cc)
sign_stays Ambient d ParenClose a t h = absurd (cc)
sign_stays Ambient d Bar a t h = absurd (cc)
sign_stays Ambient d Star a t h = absurd (cc)
sign_stays Ambient d Plus a t h = absurd (cc)
sign_stays Ambient d Question a t h = absurd (cc)
sign_stays Ambient d BracketOpen a t h = absurd (cc)
sign_stays Ambient d BracketClose a t h = absurd (cc)
sign_stays Ambient d Bang a t h = absurd (cc)
sign_stays Ambient d ColonSign a t h = let x : At = (Colon, d) in let y : Some x ≡ Some a = h in let z : x ≡ a = cc in subst (λ (v : At). is_in_test v.0 ≡ true) z refl
sign_stays Ambient d Comma a t h = absurd (cc)
sign_stays Ambient d Other a t h = absurd (cc)
sign_stays Descriptor d Dot a t h = absurd (cc)
sign_stays Descriptor d ParenOpen a t h = absurd (cc)
sign_stays Descriptor d ParenClose a t h = absurd (cc)
sign_stays Descriptor d Bar a t h = absurd (cc)
sign_stays Descriptor d Star a t h = absurd (cc)
sign_stays Descriptor d Plus a t h = absurd (cc)
sign_stays Descriptor d Question a t h = absurd (cc)
sign_stays Descriptor d BracketOpen a t h = absurd (cc)
sign_stays Descriptor d BracketClose a t h = absurd (cc)
sign_stays Descriptor d Bang a t h = absurd (cc)
sign_stays Descriptor d ColonSign a t h = let x : At = (Colon, d) in let y : Some x ≡ Some a = h in let z : x ≡ a = cc in subst (λ (v : At). is_in_test v.0 ≡ true) z refl
sign_stays Descriptor d Comma a t h = absurd (cc)
sign_stays Descriptor d Other a t h = absurd (cc)
sign_stays Colon d Dot a t h = absurd (cc)
sign_stays Colon d ParenOpen a t h = absurd (cc)
sign_stays Colon d ParenClose a t h = absurd (cc)
sign_stays Colon d Bar a t h = absurd (cc)
sign_stays Colon d Star a t h = absurd (cc)
sign_stays Colon d Plus a t h = absurd (cc)
sign_stays Colon d Question a t h = absurd (cc)
sign_stays Colon d BracketOpen a t h = absurd (cc)
sign_stays Colon d BracketClose a t h = absurd (cc)
sign_stays Colon d Bang a t h = absurd (cc)
sign_stays Colon d ColonSign a t h = absurd (cc)
sign_stays Colon d Comma a t h = absurd (cc)
sign_stays Colon d Other a t h = absurd (cc)
sign_stays Right d Dot a t h = absurd (cc)
sign_stays Right d ParenOpen a t h = absurd (cc)
sign_stays Right d ParenClose a t h = absurd (cc)
sign_stays Right d Bar a t h = absurd (cc)
sign_stays Right d Star a t h = absurd (cc)
sign_stays Right d Plus a t h = absurd (cc)
sign_stays Right d Question a t h = absurd (cc)
sign_stays Right d BracketOpen a t h = absurd (cc)
sign_stays Right d BracketClose a t h = absurd (cc)
sign_stays Right d Bang a t h = absurd (cc)
sign_stays Right d ColonSign a t h = absurd (cc)
sign_stays Right d Comma a t h = absurd (cc)
sign_stays Right d Other a t h = absurd (cc)

part_stays : (q : Phase) (d : ℕ) (p : Part) (a : At) → is_in_test q ≡ true → step true q d p ≡ Some a → is_in_test a.0 ≡ true
part_stays q d (sign m) a t h = sign_stays q d m a t h
part_stays q d (identifier w) a t h = by (step_identifier q w) refl h
  where
    by : (o : Option Phase) → step_identifier q w ≡ o → option_map (λ (r : Phase). let x : At = (r, d) in x) o ≡ Some a → is_in_test a.0 ≡ true
    by None e k = absurd (cc)
    by (Some r) e k = let x : At = (r, d) in let y : Some x ≡ Some a = k in let z : x ≡ a = cc in subst (λ (v : At). is_in_test v.0 ≡ true) z (identifier_stays q r w t e)

pub stays : (ps : List Part) (q r : Phase) (d e : ℕ) → is_in_test q ≡ true → run true q d ps ≡ Some (r, e) → is_in_test r ≡ true
stays [] q r d e t h = subst (λ x. is_in_test x ≡ true) (same_end q r d e (Some (q, d)) refl h).0 t
stays (p ∷ ps) q r d e t h = by (step true q d p) refl (λ (a : At) k. stays ps a.0 r a.1 e k) h
  where
    by : (o : Option At) → step true q d p ≡ o → ((a : At) → is_in_test a.0 ≡ true → run true a.0 a.1 ps ≡ Some (r, e) → is_in_test r ≡ true) →
        option_and_then (λ (a : At). run true a.0 a.1 ps) o ≡ Some (r, e) → is_in_test r ≡ true
    by None f rec k = absurd (cc)
    by (Some a) f rec k = rec a (part_stays q d p a t f) k

-- what brings a test to an end from a phase
abbrev test_tail : Phase → List ℕ
test_tail Test = 32 ∷ 97 ∷ 58 ∷ 97 ∷ []
test_tail Negated = 32 ∷ 97 ∷ 58 ∷ 97 ∷ []
test_tail Ambient = 58 ∷ 97 ∷ []
test_tail Descriptor = 58 ∷ 97 ∷ []
test_tail Colon = 32 ∷ 97 ∷ []
test_tail q = []

test_tail_runs : (q : Phase) (d : ℕ) → is_in_test q ≡ true → run true q d (parts (test_tail q)) ≡ Some (Right, d)
test_tail_runs Begin d t = absurd (cc)
test_tail_runs Label d t = absurd (cc)
test_tail_runs Whole d t = absurd (cc)
test_tail_runs Repeated d t = absurd (cc)
test_tail_runs Test d t = refl
test_tail_runs Negated d t = refl
test_tail_runs Ambient d t = refl
test_tail_runs Descriptor d t = refl
test_tail_runs Colon d t = refl
test_tail_runs Right d t = refl

test_tail_begins : (q : Phase) → begins_identifier (test_tail q) ≡ false
test_tail_begins Begin = refl
test_tail_begins Label = refl
test_tail_begins Whole = refl
test_tail_begins Repeated = refl
test_tail_begins Test = refl
test_tail_begins Negated = refl
test_tail_begins Ambient = refl
test_tail_begins Descriptor = refl
test_tail_begins Colon = refl
test_tail_begins Right = refl

test_tail_ends : (s : List ℕ) (q : Phase) → is_in_test q ≡ true → (q ≡ Right → ends_blank s ≡ false) → ends_blank (s ++ test_tail q) ≡ false
test_tail_ends s Right t e = ap ends_blank (append-nil s) ∙ e refl
test_tail_ends s Begin t e = absurd (cc)
test_tail_ends s Label t e = absurd (cc)
test_tail_ends s Whole t e = absurd (cc)
test_tail_ends s Repeated t e = absurd (cc)
test_tail_ends s Test t e = ends_append s 32 (97 ∷ 58 ∷ 97 ∷ [])
test_tail_ends s Negated t e = ends_append s 32 (97 ∷ 58 ∷ 97 ∷ [])
test_tail_ends s Ambient t e = ends_append s 58 (97 ∷ [])
test_tail_ends s Descriptor t e = ends_append s 58 (97 ∷ [])
test_tail_ends s Colon t e = ends_append s 32 (97 ∷ [])

-- a front of a test
front_test : (s : List ℕ) (q : Phase) (d : ℕ) → starts_blank s ≡ false → run true Test 0 (parts s) ≡ Some (q, d) → (q ≡ Right → ends_blank s ≡ false) → (rest : List ℕ) × IsTest (s ++ rest)
front_test [] q d b h e = (97 ∷ 109 ∷ 98 ∷ [], (record { negated = false; what = ambient }, record { parts = refl; front = refl; back = refl }))
front_test (c ∷ s) q d b h e =
    let t = stays (parts (c ∷ s)) Test q 0 d refl h in
    let more = test_tail q in
    let cut = parts_cut (c ∷ s) more (apart_begins (c ∷ s) more (test_tail_begins q)) in
    let goes : run true Test 0 (parts ((c ∷ s) ++ more)) ≡ Some (Right, d) = ap (run true Test 0) cut ∙ run_append true (parts (c ∷ s)) (parts more) Test q 0 d h ∙ test_tail_runs q d t in
    let x = alone_test 0 (parts ((c ∷ s) ++ more)) (Right, d, goes, refl) in
    (more, (x.0, record { parts = x.1; front = b; back = test_tail_ends (c ∷ s) q t e }))

pub front_of : (alone : Bool) (s : List ℕ) (q : Phase) (d : ℕ) → starts_blank s ≡ false → run alone (start alone) 0 (parts s) ≡ Some (q, d) → May alone q s → (rest : List ℕ) × In alone (s ++ rest)
front_of true s q d b h m = front_test s q d b h (m refl)
front_of false s q d b h m = front_expression s q d b h

pub runs : (alone : Bool) (text : List ℕ) → In alone text → (z : Phase) × (run alone (start alone) 0 (parts text) ≡ Some (z, 0)) × (ends_here alone z 0 ≡ true) × (starts_blank text ≡ false)
    × (ends_blank text ≡ false)
runs true text x = let y = test_runs text x in (y.0, y.1, y.2, x.1.front, x.1.back)
runs false text x = let y = expression_runs text x in (y.0, y.1, and_both (is_end y.0) true y.2 refl, x.1.front, x.1.back)

-- a text that runs to an end is in the language
pub accepted : (alone : Bool) (text : List ℕ) (q : Phase) (d : ℕ) → run alone (start alone) 0 (parts text) ≡ Some (q, d) → ends_here alone q d ≡ true → starts_blank text ≡ false →
    ends_blank text ≡ false → In alone text
accepted true text q d h e f b = let x = alone_test 0 (parts text) (q, d, h, e) in (x.0, record { parts = x.1; front = f; back = b })
accepted false text q d h e f b =
    let zero' : d ≡ 0 = eqb-true d 0 (and_right (is_end q) (nat_eq d 0) e) in
    let x = parsed (parts text) (q, subst (λ n. run false Begin 0 (parts text) ≡ Some (q, n)) zero' h, and_left (is_end q) (nat_eq d 0) e) in
    (x.0, record { parts = x.1; front = f; back = b })

-- one that ends otherwise isn't
pub rejected : (alone : Bool) (text : List ℕ) (q : Phase) (d : ℕ) → run alone (start alone) 0 (parts text) ≡ Some (q, d) → ends_here alone q d ≡ false → In alone text → ⊥
rejected alone text q d h e x =
    let y = runs alone text x in
    let s = same_end q y.0 d 0 (run alone (start alone) 0 (parts text)) h y.1 in
    let z : ends_here alone q d ≡ true = ap₂ (ends_here alone) s.0 s.1 ∙ y.2 in
    absurd (cc)

-- where a part doesn't go on, nothing does
pub stuck_part : (alone : Bool) (s t : List ℕ) (q : Phase) (d : ℕ) (p : Part) (ps : List Part) → Apart s t → run alone (start alone) 0 (parts s) ≡ Some (q, d) → parts t ≡ p ∷ ps →
    step alone q d p ≡ None → In alone (s ++ t) → ⊥
stuck_part alone s t q d p ps a h e n x =
    let y = runs alone (s ++ t) x in
    let goes : run alone (start alone) 0 (parts (s ++ t)) ≡ run alone q d (p ∷ ps) = ap (run alone (start alone) 0) (parts_cut s t a ∙ ap (λ l. parts s ++ l) e)
    ∙ run_append alone (parts s) (p ∷ ps) (start alone) q 0 d h in
    let stops : run alone q d (p ∷ ps) ≡ None = ap (λ (o : Option At). option_and_then (λ (a : At). run alone a.0 a.1 ps) o) n in
    let a' : At = (y.0, 0) in
    let z : None ≡ Some a' = sym (goes ∙ stops) ∙ y.1 in
    absurd (cc)
