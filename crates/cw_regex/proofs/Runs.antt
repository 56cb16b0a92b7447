-- Runs of bytes of identifiers, and what stands at a place.
use Rattle.std.proofs.Common.{◌≡◌, ℕ, zero, suc, ◌+◌, ◌-◌, ◌<◌, ◌≤◌, List, [], ◌∷◌, ◌++◌, Bool, true, false, ◌&&◌, length, take, drop, get_or, slice_index, refl, sym, ap, ap₂, ◌∙◌, subst}
use Rattle.std.proofs.Common.{arith, length-drop, length-take}
use Rattle.std.specs.List.{list_all}
use Rattle.std.proofs.lemmas.List.{take_more, get_or-drop}
use Rattle.cw_rights.specs.Valid.{is_name_byte}
use Rattle.cw_regex.specs.Parts.{is_blank, begins_identifier, ends_blank}
use Rattle.cw_regex.specs.Fronts.{IsIdentifierAt}

pub take_front : (s u : List ℕ) → take (length s) (s ++ u) ≡ s
take_front [] u = refl
take_front (b ∷ s) u = ap (λ l. b ∷ l) (take_front s u)

all_append : (p : ℕ → Bool) (xs ys : List ℕ) → list_all p xs ≡ true → list_all p ys ≡ true → list_all p (xs ++ ys) ≡ true
all_append p [] ys a b = b
all_append p (x ∷ xs) ys a b = by (p x) a (λ h. all_append p xs ys h b)
  where
    by : (t : Bool) → (t && list_all p xs) ≡ true → (list_all p xs ≡ true → list_all p (xs ++ ys) ≡ true) → (t && list_all p (xs ++ ys)) ≡ true
    by true h rec = rec h
    by false h rec = absurd (cc)

pub all_one_more : (text : List ℕ) (at end : ℕ) → at ≤ end → end < length text → list_all is_name_byte (take (end - at) (drop at text)) ≡ true → is_name_byte (slice_index text end) ≡ true →
    list_all is_name_byte (take (end + 1 - at) (drop at text)) ≡ true
all_one_more text at end l m a b =
    let n : end + 1 - at ≡ (end - at) + 1 = omega arith in
    let far : end - at < length (drop at text) = omega (arith, length-drop at text) in
    let t = take_more (drop at text) (end - at) 0 far in
    let k : at + (end - at) ≡ end = omega arith in
    let g : get_or (drop at text) (end - at) 0 ≡ get_or text end 0 = get_or-drop at text (end - at) 0 ∙ ap (λ i. get_or text i 0) k in
    let one : list_all is_name_byte (get_or text end 0 ∷ []) ≡ true = rw b refl in
    ap (λ i. list_all is_name_byte (take i (drop at text))) n ∙ ap (list_all is_name_byte) (t ∙ ap (λ x. take (end - at) (drop at text) ++ x ∷ []) g)
    ∙ all_append is_name_byte (take (end - at) (drop at text)) (get_or text end 0 ∷ []) a one

pub take_drop : (l : List ℕ) (n : ℕ) → l ≡ take n l ++ drop n l
take_drop l zero = refl
take_drop [] (suc n) = refl
take_drop (x ∷ l) (suc n) = ap (λ y. x ∷ y) (take_drop l n)

drop_nil : (n : ℕ) → drop {A = ℕ} n [] ≡ []
drop_nil zero = refl
drop_nil (suc n) = refl

drop_again : (l : List ℕ) (m n : ℕ) → drop n (drop m l) ≡ drop (m + n) l
drop_again l zero n = let e : 0 + n ≡ n = omega arith in rw e refl
drop_again [] (suc m) n = drop_nil n ∙ sym (drop_nil (suc m + n))
drop_again (x ∷ l) (suc m) n = let e : suc m + n ≡ suc (m + n) = omega arith in rw e (drop_again l m n)

pub identifier_at : (text : List ℕ) (at end : ℕ) → at < end → end ≤ length text → list_all is_name_byte (take (end - at) (drop at text)) ≡ true → begins_identifier (drop end text) ≡ false → IsIdentifierAt text at end
identifier_at text at end l m a s = by (take (end - at) (drop at text)) refl
  where
    by : (w : List ℕ) → take (end - at) (drop at text) ≡ w → IsIdentifierAt text at end
    by [] e = let n = length-take (end - at) (drop at text) in let k = length-drop at text in let z : length (take (end - at) (drop at text)) ≡ 0 = ap length e in absurd (omega arith)
    by (c ∷ w) e =
        let n = length-take (end - at) (drop at text) in
        let k = length-drop at text in
        let z : length (take (end - at) (drop at text)) ≡ length (c ∷ w) = ap length e in
        let f : at + (end - at) ≡ end = omega arith in
        record {
          first = c;
          more = w;
          identifier = e;
          cut = take_drop (drop at text) (end - at) ∙ ap₂ ◌++◌ e (drop_again text at (end - at) ∙ ap (λ i. drop i text) f);
          bytes = subst (λ v. list_all is_name_byte v ≡ true) e a;
          stop = s;
          far = omega arith;
          within = m;
        }

-- the last byte
pub ends_last : (s : List ℕ) → 0 < length s → ends_blank s ≡ is_blank (slice_index s (length s - 1))
ends_last [] l = absurd (omega arith)
ends_last (b ∷ []) l = refl
ends_last (b ∷ (c ∷ s)) l =
    let e : length (b ∷ (c ∷ s)) - 1 ≡ suc (length (c ∷ s) - 1) = omega arith in
    ends_last (c ∷ s) (omega arith) ∙ rw e refl

-- the front grows by what stands there
pub take_on : (text w : List ℕ) (at end : ℕ) → drop at text ≡ w ++ drop end text → end ≡ at + length w → take end text ≡ take at text ++ w
take_on text w zero end e f =
    let g : end ≡ length w = omega arith in
    let h : text ≡ w ++ drop end text = e in
    ap (λ n. take n text) g ∙ ap (take (length w)) h ∙ take_front w (drop end text)
take_on [] w (suc at) end e f = by w e f
  where
    take_nil : (n : ℕ) → take {A = ℕ} n [] ≡ []
    take_nil zero = refl
    take_nil (suc n) = refl

    by : (w : List ℕ) → [] ≡ w ++ drop {A = ℕ} end [] → end ≡ suc at + length w → take {A = ℕ} end [] ≡ [] ++ w
    by [] e f = take_nil end
    by (c ∷ w) e f = absurd (cc)
take_on (x ∷ text) w (suc at) zero e f = absurd (omega arith)
take_on (x ∷ text) w (suc at) (suc end) e f = ap (λ l. x ∷ l) (take_on text w at end e (omega arith))

-- the byte at a place
pub byte_at : (text : List ℕ) (at c : ℕ) (t : List ℕ) → drop at text ≡ c ∷ t → slice_index text at ≡ c
byte_at text at c t e =
    let z : at + 0 ≡ at = omega arith in
    sym (get_or-drop at text 0 0 ∙ ap (λ i. get_or text i 0) z) ∙ ap (λ l. get_or l 0 0) e
