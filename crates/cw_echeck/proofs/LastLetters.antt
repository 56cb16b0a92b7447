-- Policies whose bad words are told by their last letter.
use Rattle.std.proofs.Common.{◌≡◌, ◌⊎◌, inl, inr, ℕ, zero, suc, List, [], ◌∷◌, ◌++◌, Bool, true, false, ◌&&◌, ◌||◌, Some, None, map, nat_eq, refl, sym, ap, ap₂, ◌∙◌, subst}
use Rattle.std.specs.Prelude.{slice_get, IsTrue}
use Rattle.std.specs.List.{list_any}
use Rattle.std.proofs.lemmas.Option.{none-some, same_Some}
use Rattle.cw_rights.specs.declared.words.Letter.{Letter}
use Rattle.cw_rights.specs.declared.words.Test.TheVariants.{Amb}
use Rattle.cw_rights.specs.Trees.{Tree, nothing, one, seq, star}
use Rattle.cw_rights.specs.Words.{Word, same, Matches}
use Rattle.cw_rights.specs.Policies.{PlainPolicy, PlainRule, IsBad}

-- a word is bad whose last letter has this label with this ambient authority
pub record LetterTest : Type 0 where
  pub label : ℕ
  pub wanted : Bool

abbrev pub bad_words : LetterTest → Tree
bad_words t = seq (star (one (record { label = None; tests = [] }))) (seq (one (record { label = Some t.label; tests = (t.wanted, Amb) ∷ [] })) nothing)

-- the policy's rules are those of these tests
abbrev pub AreOfTests : PlainPolicy → List LetterTest → Type 0
AreOfTests policy tests = map (λ r. r.bad) policy.rules ≡ map bad_words tests

abbrev pub is_bad : List LetterTest → ℕ → Bool → Bool
is_bad tests l amb = list_any (λ t. nat_eq t.label l && same t.wanted amb) tests

-- A word is bad exactly by its last letter.
last : Letter → Word → Letter
last d [] = d
last d (a ∷ w) = last a w

last_is : (d a : Letter) (w : Word) → last d (w ++ a ∷ []) ≡ a
unfolding last
last_is d a [] = refl
last_is d a (b ∷ w) = last_is b a w

same_last : (a b : Letter) (u v : Word) → u ++ a ∷ [] ≡ v ++ b ∷ [] → a ≡ b
same_last a b u v e = sym (last_is a a u) ∙ ap (last a) e ∙ last_is a b v

not_empty : (a : Letter) (w : Word) → w ++ a ∷ [] ≡ [] → ⊥
not_empty a [] e = cc
not_empty a (b ∷ w) e = cc

abbrev hits : ℕ → Bool → LetterTest → Bool
hits l amb t = nat_eq t.label l && same t.wanted amb

truly : (a b : Bool) → IsTrue (a && (b && true)) → (a && b) ≡ true
truly true true h = refl
truly true false h = cc
truly false b h = cc

true_from : (a b : Bool) → (a && b) ≡ true → IsTrue (a && (b && true))
true_from true true h = refl
true_from true false h = cc
true_from false b h = cc

hit : (t : LetterTest) (a : Letter) (w : Word) → Matches (bad_words t) (w ++ a ∷ []) → hits a.label a.caps.amb t ≡ true
hit t a w h =
    let s = h.4 in
    let c = s.3.0 in
    let v : h.1 ≡ c ∷ [] = s.2 ∙ ap₂ (λ x y. x ++ y) s.3.1 s.4 in
    let e : a ≡ c = same_last a c w h.0 (h.2 ∙ ap (λ v. h.0 ++ v) v) in
    subst (λ (x : Letter). hits x.label x.caps.amb t ≡ true) (sym e) (truly (nat_eq t.label c.label) (same t.wanted c.caps.amb) s.3.2)

-- any word is a list of letters that `.` matches
any_factors : (w : Word) → Matches (star (one (record { label = None; tests = [] }))) w
any_factors [] = ([], refl)
any_factors (a ∷ w) =
    let r = any_factors w in
    ((a ∷ []) ∷ r.0, (w, refl, (a, refl, refl), r.1))

matched : (t : LetterTest) (a : Letter) (w : Word) → hits a.label a.caps.amb t ≡ true → Matches (bad_words t) (w ++ a ∷ [])
matched t a w e = (w, a ∷ [], refl, any_factors w, (a ∷ [], [], refl, (a, refl, true_from (nat_eq t.label a.label) (same t.wanted a.caps.amb) e), refl))

or_of : (a b : Bool) → (a ≡ true) ⊎ (b ≡ true) → (a || b) ≡ true
or_of true b h = refl
or_of false b (inl e) = cc
or_of false b (inr e) = e

hit_some : (rules : List PlainRule) (tests : List LetterTest) → map (λ r. r.bad) rules ≡ map bad_words tests → (i : ℕ) (r : PlainRule) → slice_get rules i ≡ Some r → (a : Letter) (w : Word)
    → Matches r.bad (w ++ a ∷ []) → is_bad tests a.label a.caps.amb ≡ true
hit_some [] tests e i r at a w m = absurd (none-some r at)
hit_some (q ∷ rules) [] e i r at a w m = cc
hit_some (q ∷ rules) (t ∷ tests) e zero r at a w m =
    let h : q.bad ≡ bad_words t = cc in
    let s : q ≡ r = same_Some q r at in
    or_of (hits a.label a.caps.amb t) (is_bad tests a.label a.caps.amb) (inl (hit t a w (subst (λ (x : Tree). Matches x (w ++ a ∷ [])) (sym (ap (λ (r : PlainRule). r.bad) s) ∙ h) m)))
hit_some (q ∷ rules) (t ∷ tests) e (suc i) r at a w m =
    let h : map (λ r. r.bad) rules ≡ map bad_words tests = cc in
    or_of (hits a.label a.caps.amb t) (is_bad tests a.label a.caps.amb) (inr (hit_some rules tests h i r at a w m))

some_hit : (rules : List PlainRule) (tests : List LetterTest) → map (λ r. r.bad) rules ≡ map bad_words tests → (a : Letter) (w : Word) → is_bad tests a.label a.caps.amb ≡ true
    → (i : ℕ) × (r : PlainRule) × (slice_get rules i ≡ Some r) × Matches r.bad (w ++ a ∷ [])
some_hit rules [] e a w b = cc
some_hit [] (t ∷ tests) e a w b = cc
some_hit (q ∷ rules) (t ∷ tests) e a w b = let more : map (λ r. r.bad) rules ≡ map bad_words tests = cc in by (hits a.label a.caps.amb t) refl (some_hit rules tests more a w)
  where
    by : (h : Bool) → hits a.label a.caps.amb t ≡ h → (is_bad tests a.label a.caps.amb ≡ true → (i : ℕ) × (r : PlainRule) × (slice_get rules i ≡ Some r) × Matches r.bad (w ++ a ∷ []))
        → (i : ℕ) × (r : PlainRule) × (slice_get (q ∷ rules) i ≡ Some r) × Matches r.bad (w ++ a ∷ [])
    by true h rec =
        let z : q.bad ≡ bad_words t = cc in
        (0, q, refl, subst (λ (x : Tree). Matches x (w ++ a ∷ [])) (sym z) (matched t a w h))
    by false h rec =
        let z = rec (sym (ap (λ x. x || is_bad tests a.label a.caps.amb) h) ∙ b) in
        (suc z.0, z.1, z.2, z.3)

-- Where a policy's rules are those of these tests, a word that has a letter is bad exactly where its last letter has the label of one of
-- them, with the wanted ambient authority.
pub bad_last : (policy : PlainPolicy) (tests : List LetterTest) → AreOfTests policy tests → (w : Word) (a : Letter) → IsBad policy (w ++ a ∷ []) → is_bad tests a.label a.caps.amb ≡ true
bad_last policy tests is w a (i, (ne, r, at, m)) = hit_some policy.rules tests is i r at a w m

pub last_bad : (policy : PlainPolicy) (tests : List LetterTest) → AreOfTests policy tests → (w : Word) (a : Letter) → is_bad tests a.label a.caps.amb ≡ true → IsBad policy (w ++ a ∷ [])
last_bad policy tests is w a b =
    let z = some_hit policy.rules tests is a w b in
    (z.0, (not_empty a w, z.1, z.2, z.3))
