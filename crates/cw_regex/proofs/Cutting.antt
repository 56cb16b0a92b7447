-- The parts of a text that is cut in two.
use Rattle.std.proofs.Common.{◌≡◌, ◌⊎◌, inl, inr, ⊎_elim, ℕ, ◌+◌, List, [], ◌∷◌, ◌++◌, Bool, true, false, ◌&&◌, nat_eq, refl, sym, ap, ap₂, ◌∙◌, subst, eqb-true, length, arith}
use Rattle.std.specs.List.{list_all}
use Rattle.cw_rights.specs.Valid.{is_name_byte}
use Rattle.cw_regex.specs.Parts.{Part, identifier, sign, is_blank, sign_of, begins_identifier, grown, parts, grown_at, placed}
use Rattle.cw_regex.specs.Scans.{Apart}
use Rattle.std.proofs.lemmas.Bool.{or_cases}
use Rattle.cw_lemmas.proofs.Truths.{and_first as and_left, and_second as and_right}
use Rattle.std.proofs.lemmas.Bool.{cases_Bool as which}

-- a byte of an identifier is no blank
pub identifier_no_blank : (b : ℕ) → is_name_byte b ≡ true → is_blank b ≡ false
identifier_no_blank b e = by (which (is_blank b))
  where
    by : (is_blank b ≡ true) ⊎ (is_blank b ≡ false) → is_blank b ≡ false
    by (inr f) = f
    by (inl f) = ⊎_elim (λ x. let z : is_name_byte 32 ≡ true = subst (λ n. is_name_byte n ≡ true) (eqb-true b 32 x) e in
        absurd (cc)) (λ x. let z : is_name_byte 9 ≡ true = subst (λ n. is_name_byte n ≡ true) (eqb-true b 9 x) e in absurd (cc)) (or_cases (nat_eq b 32) (nat_eq b 9) f)

pub parts_blank : (b : ℕ) (t : List ℕ) → is_blank b ≡ true → parts (b ∷ t) ≡ parts t
parts_blank b t e = rw e refl

pub parts_sign : (b : ℕ) (t : List ℕ) → is_blank b ≡ false → is_name_byte b ≡ false → parts (b ∷ t) ≡ sign (sign_of b) ∷ parts t
parts_sign b t e f = rw (e, f) refl

pub parts_byte : (b : ℕ) (t : List ℕ) → is_name_byte b ≡ true → parts (b ∷ t) ≡ grown b (begins_identifier t) (parts t)
parts_byte b t e = let f = identifier_no_blank b e in rw (f, e) refl

-- an identifier that ends there
pub parts_identifier : (b : ℕ) (w t : List ℕ) → list_all is_name_byte (b ∷ w) ≡ true → begins_identifier t ≡ false → parts ((b ∷ w) ++ t) ≡ identifier (b ∷ w) ∷ parts t
parts_identifier b [] t a e = parts_byte b t (and_left (is_name_byte b) true a) ∙ rw e refl
parts_identifier b (c ∷ w) t a e =
    let more : list_all is_name_byte (c ∷ w) ≡ true = and_right (is_name_byte b) (list_all is_name_byte (c ∷ w)) a in
    let first : is_name_byte c ≡ true = and_left (is_name_byte c) (list_all is_name_byte w) more in
    parts_byte b ((c ∷ w) ++ t) (and_left (is_name_byte b) (list_all is_name_byte (c ∷ w)) a) ∙ ap₂ (grown b) first (parts_identifier c w t more e)

placed_byte : (n b : ℕ) (t : List ℕ) → is_name_byte b ≡ true → placed n (b ∷ t) ≡ grown_at n b (begins_identifier t) (placed (n + 1) t)
placed_byte n b t e = let f = identifier_no_blank b e in rw (f, e) refl

pub placed_identifier : (n b : ℕ) (w t : List ℕ) → list_all is_name_byte (b ∷ w) ≡ true → begins_identifier t ≡ false →
    placed n ((b ∷ w) ++ t) ≡ record { at = n; part = identifier (b ∷ w) } ∷ placed (n + length (b ∷ w)) t
placed_identifier n b [] t a e = placed_byte n b t (and_left (is_name_byte b) true a) ∙ rw e refl
placed_identifier n b (c ∷ w) t a e =
    let more : list_all is_name_byte (c ∷ w) ≡ true = and_right (is_name_byte b) (list_all is_name_byte (c ∷ w)) a in
    let first : is_name_byte c ≡ true = and_left (is_name_byte c) (list_all is_name_byte w) more in
    let far : (n + 1) + length (c ∷ w) ≡ n + length (b ∷ (c ∷ w)) = omega arith in
    placed_byte n b ((c ∷ w) ++ t) (and_left (is_name_byte b) (list_all is_name_byte (c ∷ w)) a) ∙ ap₂ (grown_at n b) first (placed_identifier (n + 1) c w t more e
    ∙ ap (λ m. record { at = n + 1; part = identifier (c ∷ w) } ∷ placed m t) far)

-- a text that begins with an identifier byte has an identifier first
begins_is : (c : ℕ) (s : List ℕ) → is_name_byte c ≡ true → (w : List ℕ) × (ps : List Part) × (parts (c ∷ s) ≡ identifier w ∷ ps)
begins_is c s e = by (begins_identifier s) (parts s) (parts_byte c s e)
  where
    by : (m : Bool) (ps : List Part) → parts (c ∷ s) ≡ grown c m ps → (w : List ℕ) × (qs : List Part) × (parts (c ∷ s) ≡ identifier w ∷ qs)
    by false ps f = (c ∷ [], ps, f)
    by true [] f = (c ∷ [], [], f)
    by true (identifier w ∷ ps) f = (c ∷ w, ps, f)
    by true (sign m ∷ ps) f = (c ∷ [], sign m ∷ ps, f)

grown_append : (b : ℕ) (m : Bool) (w : List ℕ) (ps qs : List Part) → grown b m ((identifier w ∷ ps) ++ qs) ≡ grown b m (identifier w ∷ ps) ++ qs
grown_append b true w ps qs = refl
grown_append b false w ps qs = refl

pub parts_cut : (s t : List ℕ) → Apart s t → parts (s ++ t) ≡ parts s ++ parts t
parts_cut [] t a = refl
parts_cut (b ∷ s) t a = by (which (is_blank b)) (which (is_name_byte b)) s a (parts_cut s t)
  where
    by : (is_blank b ≡ true) ⊎ (is_blank b ≡ false) → (is_name_byte b ≡ true) ⊎ (is_name_byte b ≡ false) → (s : List ℕ) → Apart (b ∷ s) t →
        (Apart s t → parts (s ++ t) ≡ parts s ++ parts t) → parts (b ∷ (s ++ t)) ≡ parts (b ∷ s) ++ parts t
    by (inl e) m [] a rec = parts_blank b t e ∙ ap (λ ps. ps ++ parts t) (sym (parts_blank b [] e))
    by (inl e) m (c ∷ s) a rec = parts_blank b ((c ∷ s) ++ t) e ∙ rec a ∙ ap (λ ps. ps ++ parts t) (sym (parts_blank b (c ∷ s) e))
    by (inr e) (inr f) [] a rec = parts_sign b t e f ∙ ap (λ ps. ps ++ parts t) (sym (parts_sign b [] e f))
    by (inr e) (inr f) (c ∷ s) a rec = parts_sign b ((c ∷ s) ++ t) e f ∙ ap (λ ps. sign (sign_of b) ∷ ps) (rec a) ∙ ap (λ ps. ps ++ parts t) (sym (parts_sign b (c ∷ s) e f))
    by (inr e) (inl f) [] a rec =
        let n : begins_identifier t ≡ false = subst (λ x. (x && begins_identifier t) ≡ false) f a in
        parts_byte b t f ∙ ap (λ x. grown b x (parts t)) n ∙ ap (λ ps. ps ++ parts t) (sym (parts_byte b [] f))
    by (inr e) (inl f) (c ∷ s) a rec = parts_byte b ((c ∷ s) ++ t) f ∙ ap (grown b (is_name_byte c)) (rec a) ∙ next (which (is_name_byte c)) ∙ ap (λ ps. ps ++ parts t) (sym (parts_byte b (c ∷ s) f))
      where
        next : (is_name_byte c ≡ true) ⊎ (is_name_byte c ≡ false) → grown b (is_name_byte c) (parts (c ∷ s) ++ parts t) ≡ grown b (is_name_byte c) (parts (c ∷ s)) ++ parts t
        next (inl g) = let h = begins_is c s g in rw h.2 (grown_append b (is_name_byte c) h.0 h.1 (parts t))
        next (inr g) = rw g refl
