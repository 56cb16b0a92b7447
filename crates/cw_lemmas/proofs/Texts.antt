-- Texts: what they begin with, and what is left of them.
use Rattle.std.proofs.Common.{◌≡◌, ℕ, eqb, nat_eq, true, List, [], ◌∷◌, ◌++◌, length, drop, refl, eqb-true, eq-eqb, ◌≢◌, ◌⊎◌, zero, suc, Bool, false, take, sym, ap, ◌∙◌, inl, inr, arith}
use Rattle.std.specs.List.{starts_with}
use Rattle.std.proofs.lemmas.Bool.{and_parts, and_from, cases_eq, false≢true}
use Rattle.std.specs.Str.{bytes_eq}
use Rattle.std.proofs.lemmas.Slice.Eq.{bytes_eq-Decides}
use Rattle.std.specs.Prelude.{codes}

pub starts_is : (t w : List ℕ) → starts_with nat_eq t w ≡ true → t ≡ w ++ drop (length w) t
starts_is t [] e = refl
starts_is [] (x ∷ w) e = absurd cc
starts_is (b ∷ t) (x ∷ w) e =
    let p = and_parts (eqb x b) (starts_with nat_eq t w) e in
    let first : x ≡ b = eqb-true x b p.0 in
    let others : t ≡ w ++ drop (length w) t = starts_is t w p.1 in
    cc

pub starts_front : (w t : List ℕ) → starts_with nat_eq (w ++ t) w ≡ true
starts_front [] t = refl
starts_front (x ∷ w) t = rw (eq-eqb x x refl) (starts_front w t)

pub starts_whole : (t w : List ℕ) (n : ℕ) → starts_with nat_eq (take n t) w ≡ true → starts_with nat_eq t w ≡ true
starts_whole t [] n e = refl
starts_whole [] (x ∷ w) zero e = absurd cc
starts_whole [] (x ∷ w) (suc n) e = absurd cc
starts_whole (b ∷ t) (x ∷ w) zero e = absurd cc
starts_whole (b ∷ t) (x ∷ w) (suc n) e = let p = and_parts (eqb x b) (starts_with nat_eq (take n t) w) e in and_from (eqb x b) (starts_with nat_eq t w) p.0 (starts_whole t w n p.1)

-- two texts are one or not, and a text begins with another or not
pub bytes_or_not : (a b : List ℕ) → (a ≡ b) ⊎ (a ≢ b)
bytes_or_not a b = by (bytes_eq a b) refl
  where
    by : (t : Bool) → bytes_eq a b ≡ t → (a ≡ b) ⊎ (a ≢ b)
    by true is = inl ((bytes_eq-Decides a b).0 is)
    by false is = inr (λ e. false≢true (sym is ∙ (bytes_eq-Decides a b).1 e))

first_byte : List ℕ → ℕ
first_byte [] = 0
first_byte (x ∷ xs) = x

other_bytes : List ℕ → List ℕ
other_bytes [] = []
other_bytes (x ∷ xs) = xs

pub begins_or_not : (front text : List ℕ) → ((rest : List ℕ) × (text ≡ front ++ rest)) ⊎ ((rest : List ℕ) → text ≢ front ++ rest)
unfolding first_byte other_bytes
begins_or_not [] text = inl (text, refl)
begins_or_not (x ∷ front) [] = inr (λ rest e. omega (arith, ap length e))
begins_or_not (x ∷ front) (y ∷ text) =
    elim (cases_eq y x) [
      | inl e ↦ elim (begins_or_not front text) [
        | inl p ↦ inl (p.0, rw (e, p.1) refl)
        | inr none ↦ inr (λ rest f. none rest (ap other_bytes f))
      ]
      | inr differs ↦ inr (λ rest f. differs (ap first_byte f))
    ]

-- what is left of a text, by the test whether that is nothing
pub some_bytes : (bytes : List ℕ) (is_empty : Bool) → is_empty ≡ eqb (length bytes) 0 → is_empty ≡ false → bytes ≢ []
some_bytes [] is_empty e is none = absurd (false≢true (sym is ∙ e))
some_bytes (b ∷ bytes) is_empty e is none = omega (arith, ap length none)

pub no_bytes : (bytes : List ℕ) (is_empty : Bool) → is_empty ≡ eqb (length bytes) 0 → is_empty ≡ true → bytes ≡ []
no_bytes [] is_empty e is = refl
no_bytes (b ∷ bytes) is_empty e is = absurd (let p = eqb-true (length (b ∷ bytes)) 0 (sym e ∙ is) in omega (arith, p))

-- no slash stands in no bytes
pub nothing_begins : (at : ℕ) → starts_with nat_eq (drop at []) (codes "/") ≡ false
nothing_begins zero = refl
nothing_begins (suc at) = refl
