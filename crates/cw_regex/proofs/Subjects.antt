-- What is read of a test.
use Rattle.std.proofs.Common.{◌≡◌, ℕ, List, [], ◌∷◌, ◌++◌, Bool, true, false, map, drop, refl, ap, ap₂, ◌∙◌, append_assoc}
use Rattle.cw_rights.specs.declared.capabilities.Rights.{Rights}
use Rattle.cw_rights.specs.declared.words.Test.{Test}
use Rattle.cw_rights.specs.declared.words.Test.TheVariants.{Holds}
use Rattle.cw_regex.specs.declared.text.Sign.TheVariants.{Colon}
use Rattle.cw_regex.specs.Parts.{Part, identifier, sign, parts}
use Rattle.cw_regex.specs.Grammar.{Name, Subject, ambient, holds, spelled_subject, TestForm, spelled_test, spelled_more}
use Rattle.cw_regex.specs.Meaning.{number_in, need_of, subject_meaning, test_meaning}
use Rattle.cw_regex.specs.Tokens.{begins_colon, Settled}

pub subject_read : (format : ℕ) (names : List (List ℕ)) (s : Subject) (rest ps : List Part) (w : List ℕ) (n : ℕ) (need : Rights) → identifier w ∷ ps ≡ spelled_subject s rest → Settled s rest →
    begins_colon ps ≡ true → n ≡ number_in names w → ((r : Name) (more : List Part) → ps ≡ sign Colon ∷ identifier r.bytes ∷ more → need ≡ need_of format r.bytes) →
    Holds n need ≡ subject_meaning format names s
subject_read format names ambient rest ps w n need h t b e f =
    let same : ps ≡ rest = cc in
    let z : begins_colon ps ≡ false = ap begins_colon same ∙ t in
    absurd (cc)
subject_read format names (holds d r) rest ps w n need h t b e f =
    let same : ps ≡ sign Colon ∷ identifier r.bytes ∷ rest = cc in
    let name : w ≡ d.bytes = cc in
    ap₂ Holds (e ∙ ap (number_in names) name) (f r rest same)

-- the tests from a place on are those that were read and those from another place on
pub record TestsSoFar (format : ℕ) (names : List (List ℕ)) (text : List ℕ) (at from : ℕ) (read : List (Bool × Test)) : Type 0 where
  pub left : (t : TestForm) (ts : List TestForm) (rest : List Part) → parts (drop at text) ≡ spelled_test t (spelled_more ts rest) →
      (u : TestForm) × (us : List TestForm) × (parts (drop from text) ≡ spelled_test u (spelled_more us rest)) ×
      (read ++ map (test_meaning format names) (u ∷ us) ≡ map (test_meaning format names) (t ∷ ts))

pub settled_more : (s : Subject) (ts : List TestForm) (rest : List Part) → Settled s (spelled_more ts rest)
settled_more ambient [] rest = refl
settled_more ambient (t ∷ ts) rest = refl
settled_more (holds d r) ts rest = tt

-- one test more was read, up to a place, and what comes after it
pub tests_step : (format : ℕ) (names : List (List ℕ)) (text : List ℕ) (at from end to : ℕ) (read new : List (Bool × Test)) (one : Bool × Test) (more : Bool) →
    TestsSoFar format names text at from read → new ≡ read ++ one ∷ [] → more ≡ true → ((t : TestForm) (rest : List Part) → parts (drop from text) ≡ spelled_test t rest →
    Settled t.what rest → one ≡ test_meaning format names t) → ((t : TestForm) (rest : List Part) → parts (drop from text) ≡ spelled_test t rest → Settled t.what rest →
    parts (drop end text) ≡ rest) → ((rest : List Part) → parts (drop end text) ≡ spelled_more [] rest → more ≡ false) →
    ((t : TestForm) (ts : List TestForm) (rest : List Part) → parts (drop end text) ≡ spelled_more (t ∷ ts) rest → parts (drop to text) ≡ spelled_test t (spelled_more ts rest)) →
    TestsSoFar format names text at to new
tests_step format names text at from end to read new one more was e m is rest_is last next = record { left = λ t ts rest h. let x = was.left t ts rest h in by x.0 x.1 (t ∷ ts) rest x.2 x.3 }
  where
    by : (u : TestForm) (us : List TestForm) (all : List TestForm) (rest : List Part) → parts (drop from text) ≡ spelled_test u (spelled_more us rest) →
        read ++ map (test_meaning format names) (u ∷ us) ≡ map (test_meaning format names) all → (v : TestForm) × (vs : List TestForm) ×
        (parts (drop to text) ≡ spelled_test v (spelled_more vs rest)) × (new ++ map (test_meaning format names) (v ∷ vs) ≡ map (test_meaning format names) all)
    by u [] all rest h k = let z = last rest (rest_is u (spelled_more [] rest) h (settled_more u.what [] rest)) in absurd (cc)
    by u (v ∷ vs) all rest h k =
        let one_is = is u (spelled_more (v ∷ vs) rest) h (settled_more u.what (v ∷ vs) rest) in
        let after = rest_is u (spelled_more (v ∷ vs) rest) h (settled_more u.what (v ∷ vs) rest) in (
          v,
          vs,
          next v vs rest after,
          ap (λ l. l ++ map (test_meaning format names) (v ∷ vs)) e ∙ append_assoc read (one ∷ []) (map (test_meaning format names) (v ∷ vs))
              ∙ ap (λ x. read ++ x ∷ map (test_meaning format names) (v ∷ vs)) one_is ∙ k,
        )

-- the last test was read
pub tests_end : (format : ℕ) (names : List (List ℕ)) (text : List ℕ) (at from end to : ℕ) (read new : List (Bool × Test)) (one : Bool × Test) (more : Bool) →
    TestsSoFar format names text at from read → new ≡ read ++ one ∷ [] → more ≡ false → ((t : TestForm) (rest : List Part) → parts (drop from text) ≡ spelled_test t rest →
    Settled t.what rest → one ≡ test_meaning format names t) → ((t : TestForm) (rest : List Part) → parts (drop from text) ≡ spelled_test t rest → Settled t.what rest →
    parts (drop end text) ≡ rest) → ((t : TestForm) (ts : List TestForm) (rest : List Part) → parts (drop end text) ≡ spelled_more (t ∷ ts) rest → more ≡ true) →
    ((rest : List Part) → parts (drop end text) ≡ spelled_more [] rest → parts (drop to text) ≡ rest) → (t : TestForm) (ts : List TestForm) (rest : List Part) →
    parts (drop at text) ≡ spelled_test t (spelled_more ts rest) → (new ≡ map (test_meaning format names) (t ∷ ts)) × (parts (drop to text) ≡ rest)
tests_end format names text at from end to read new one more was e m is rest_is further last t ts rest h = let x = was.left t ts rest h in by x.0 x.1 x.2 x.3
  where
    by : (u : TestForm) (us : List TestForm) → parts (drop from text) ≡ spelled_test u (spelled_more us rest) →
        read ++ map (test_meaning format names) (u ∷ us) ≡ map (test_meaning format names) (t ∷ ts) → (new ≡ map (test_meaning format names) (t ∷ ts)) × (parts (drop to text) ≡ rest)
    by u (v ∷ vs) g k = let z = further v vs rest (rest_is u (spelled_more (v ∷ vs) rest) g (settled_more u.what (v ∷ vs) rest)) in absurd (cc)
    by u [] g k =
        let one_is = is u (spelled_more [] rest) g (settled_more u.what [] rest) in
        let after = rest_is u (spelled_more [] rest) g (settled_more u.what [] rest) in
        (e ∙ ap (λ x. read ++ x ∷ []) one_is ∙ k, last rest after)
