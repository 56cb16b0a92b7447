-- The slow way is exact.
use Rattle.std.proofs.Common.{◌≡◌, ◌⊎◌, inl, inr, ℕ, zero, suc, ◌+◌, ◌*◌, ◌<◌, ◌≤◌, List, [], ◌∷◌, ◌++◌, Bool, true, false, ◌&&◌, ◌||◌, take, drop, length, refl, sym, ap, ◌∙◌, subst, arith}
use Rattle.std.proofs.Common.{⊎_elim, length-append, length-drop, add-one, nat_eq, eqb-true}
use Rattle.std.proofs.lemmas.Bool.Decides.{nat_tests}
use Rattle.std.proofs.Math.Nat.{mul-le-mul_left, mul-le-mul_right}
use Rattle.cw_rights.specs.Trees.{Literal, Tree, nothing, never, one, seq, alt, star, plus, maybe}
use Rattle.cw_rights.specs.Words.{Word, Factors, Matches}
use Rattle.cw_rights.specs.Plain.{is_nil, is_letter, some_below, chain, if_nil, plain, cost}
use Rattle.std.proofs.lemmas.Bool.{or_cases, or_left, or_right, and_from as and_both}
use Rattle.cw_lemmas.proofs.Truths.{and_first as and_left, and_second as and_right}
use Rattle.cw_rights.proofs.Factors.{NotNil, not_nil}

-- some number below n
pub below_has : (n : ℕ) (f : ℕ → Bool) (i : ℕ) → i < n → f i ≡ true → some_below n f ≡ true
below_has zero f i l e = absurd (omega arith)
below_has (suc n) f i l e = by (nat_eq i n) refl (λ m. below_has n f i m e)
  where
    by : (t : Bool) → nat_eq i n ≡ t → (i < n → some_below n f ≡ true) → (some_below n f || f n) ≡ true
    by true t rec = or_right _ _ (subst (λ j. f j ≡ true) (eqb-true i n t) e)
    by false t rec = or_left _ _ (rec (grind (arith, nat_tests)))

pub below_found : (n : ℕ) (f : ℕ → Bool) → some_below n f ≡ true → (i : ℕ) × (i < n) × (f i ≡ true)
below_found zero f e = absurd (cc)
below_found (suc n) f e = ⊎_elim (λ x. let r = below_found n f x in (r.0, omega (arith, r.1), r.2)) (λ x. (n, omega arith, x)) (or_cases (some_below n f) (f n) e)

-- cuts
take_cut : (u v : Word) → take (length u) (u ++ v) ≡ u
take_cut [] v = refl
take_cut (c ∷ u) v = ap (λ x. c ∷ x) (take_cut u v)

drop_cut : (u v : Word) → drop (length u) (u ++ v) ≡ v
drop_cut [] v = refl
drop_cut (c ∷ u) v = drop_cut u v

cut_whole : (i : ℕ) (w : Word) → w ≡ take i w ++ drop i w
cut_whole zero w = refl
cut_whole (suc i) [] = refl
cut_whole (suc i) (c ∷ w) = ap (λ x. c ∷ x) (cut_whole i w)

nil_of : (w : Word) → is_nil w ≡ true → w ≡ []
nil_of [] e = refl
nil_of (c ∷ w) e = absurd (cc)

is_of : (w : Word) → w ≡ [] → is_nil w ≡ true
is_of w e = ap is_nil e

-- the factors of a star
module _ (p : Word → Bool) (P : Word → Type 0) (sound : (w : Word) → p w ≡ true → P w) (complete : (w : Word) → P w → p w ≡ true) where
  pub chain_sound : (n : ℕ) (w : Word) → chain p n w ≡ true → (us : List Word) × Factors P us w
  chain_sound zero w e = ([], nil_of w e)
  chain_sound (suc n) w e = by (λ v. chain_sound n v) (or_cases (is_nil w) _ e)
    where
      by : ((v : Word) → chain p n v ≡ true → (us : List Word) × Factors P us v) → (is_nil w ≡ true) ⊎ (some_below (length w) (λ i. p (take (i + 1) w) && chain p n (drop (i + 1) w)) ≡ true) →
          (us : List Word) × Factors P us w
      by rec (inl x) = ([], nil_of w x)
      by rec (inr x) =
          let f = below_found (length w) (λ i. p (take (i + 1) w) && chain p n (drop (i + 1) w)) x in
          let r = rec (drop (f.0 + 1) w) (and_right (p (take (f.0 + 1) w)) (chain p n (drop (f.0 + 1) w)) f.2) in
          (take (f.0 + 1) w ∷ r.0, (drop (f.0 + 1) w, cut_whole (f.0 + 1) w, sound (take (f.0 + 1) w) (and_left _ _ f.2), r.1))

  pub chain_complete : (us : List Word) (n : ℕ) (w : Word) → length w ≤ n → Factors P us w → chain p n w ≡ true
  chain_complete [] zero w l h = is_of w h
  chain_complete [] (suc n) w l h = or_left _ _ (is_of w h)
  chain_complete (u ∷ us) n w l h = by u n l h.1 h.2 (λ m k. chain_complete us m h.0 k h.3)
    where
      by : (u : Word) (n : ℕ) → length w ≤ n → w ≡ u ++ h.0 → P u → ((m : ℕ) → length h.0 ≤ m → chain p m h.0 ≡ true) → chain p n w ≡ true
      by [] n k e q rec = subst (λ x. chain p n x ≡ true) (sym e) (rec n (let z : length w ≡ length h.0 = ap length e in omega arith))
      by (c ∷ u) zero k e q rec = let z : length w ≡ length ((c ∷ u) ++ h.0) = ap length e in let y = length-append (c ∷ u) h.0 in absurd (omega arith)
      by (c ∷ u) (suc n) k e q rec =
          let z : length w ≡ length ((c ∷ u) ++ h.0) = ap length e in
          let y = length-append (c ∷ u) h.0 in
          let t : take (length u + 1) w ≡ c ∷ u = rw (add-one (length u), e) (ap (λ x. c ∷ x) (take_cut u h.0)) in
          let d : drop (length u + 1) w ≡ h.0 = rw (add-one (length u), e) (drop_cut u h.0) in
          or_right _ _ (below_has (length w) _ (length u) (omega arith) (and_both _ _ (subst (λ x. p x ≡ true) (sym t) (complete (c ∷ u) q))
          (subst (λ x. chain p n x ≡ true) (sym d) (rec n (omega arith)))))

pub chain_fuel : (r : Tree) (p : Word → Bool) (n : ℕ) (w : Word) → length w ≤ n → chain p n w ≡ chain p (length w) w
chain_fuel r p n w l = by (chain p n w) (chain p (length w) w) refl refl
  where
    to : chain p n w ≡ true → chain p (length w) w ≡ true
    to e = let x = chain_sound p (λ v. p v ≡ true) (λ v e. e) (λ v e. e) n w e in chain_complete p (λ v. p v ≡ true) (λ v e. e) (λ v e. e) x.0 (length w) w (omega arith) x.1

    back : chain p (length w) w ≡ true → chain p n w ≡ true
    back e = let x = chain_sound p (λ v. p v ≡ true) (λ v e. e) (λ v e. e) (length w) w e in chain_complete p (λ v. p v ≡ true) (λ v e. e) (λ v e. e) x.0 n w l x.1

    by : (a b : Bool) → chain p n w ≡ a → chain p (length w) w ≡ b → chain p n w ≡ chain p (length w) w
    by true b e f = e ∙ sym (to e)
    by false true e f = back f ∙ sym f
    by false false e f = e ∙ sym f

letter_sound : (l : Literal) (w : Word) → is_letter l w ≡ true → Matches (one l) w
letter_sound l [] e = absurd (cc)
letter_sound l (c ∷ []) e = (c, refl, e)
letter_sound l (c ∷ (d ∷ w)) e = absurd (cc)

plus_of_star : (r : Tree) (w : Word) → NotNil w → Matches (star r) w → Matches (plus r) w
plus_of_star r w n h = by h.0 h.1
  where
    by : (us : List Word) → Factors (Matches r) us w → Matches (plus r) w
    by [] p = absurd (not_nil w n p)
    by (u ∷ us) p = (u, us, p)

-- the first factor of an empty word
first_nil : (u v : Word) → [] ≡ u ++ v → u ≡ []
first_nil [] v e = refl
first_nil (c ∷ u) v e = absurd (cc)

-- both ways at once
pub plain_is : (r : Tree) (w : Word) → (plain r w ≡ true → Matches r w) × (Matches r w → plain r w ≡ true)
plain_is nothing w = (nil_of w, is_of w)
plain_is never w = (λ e. absurd (cc), λ m. absurd m)
plain_is (one l) w = (letter_sound l w, λ m. subst (λ v. is_letter l v ≡ true) (sym m.1) m.2)
plain_is (seq r s) w = (to (λ v. (plain_is r v).0) (λ v. (plain_is s v).0), back (λ v. (plain_is r v).1) (λ v. (plain_is s v).1))
  where
    to : ((v : Word) → plain r v ≡ true → Matches r v) → ((v : Word) → plain s v ≡ true → Matches s v) → plain (seq r s) w ≡ true → Matches (seq r s) w
    to f g e =
        let x = below_found (length w + 1) (λ i. plain r (take i w) && plain s (drop i w)) e in
        (take x.0 w, drop x.0 w, cut_whole x.0 w, f _ (and_left _ _ x.2), g _ (and_right (plain r (take x.0 w)) (plain s (drop x.0 w)) x.2))

    back : ((v : Word) → Matches r v → plain r v ≡ true) → ((v : Word) → Matches s v → plain s v ≡ true) → Matches (seq r s) w → plain (seq r s) w ≡ true
    back f g m =
        let z : length w ≡ length (m.0 ++ m.1) = ap length m.2 in
        let y = length-append m.0 m.1 in
        let t : take (length m.0) w ≡ m.0 = ap (take (length m.0)) m.2 ∙ take_cut m.0 m.1 in
        let d : drop (length m.0) w ≡ m.1 = ap (drop (length m.0)) m.2 ∙ drop_cut m.0 m.1 in
        below_has (length w + 1) _ (length m.0) (omega arith) (and_both _ _ (subst (λ x. plain r x ≡ true) (sym t) (f m.0 m.3)) (subst (λ x. plain s x ≡ true) (sym d) (g m.1 m.4)))
plain_is (alt r s) w = (
  λ e. ⊎_elim (λ x. inl ((plain_is r w).0 x)) (λ x. inr ((plain_is s w).0 x)) (or_cases (plain r w) (plain s w) e),
  λ m. ⊎_elim (λ x. or_left _ _ ((plain_is r w).1 x)) (λ x. or_right _ _ ((plain_is s w).1 x)) m,
)
plain_is (star r) w = (
  chain_sound (plain r) (Matches r) (λ v. (plain_is r v).0) (λ v. (plain_is r v).1) (length w) w,
  λ m. chain_complete (plain r) (Matches r) (λ v. (plain_is r v).0) (λ v. (plain_is r v).1) m.0 (length w) w (omega arith) m.1,
)
plain_is (plus r) w = (
  to w (plain_is r w).0 (chain_sound (plain r) (Matches r) (λ v. (plain_is r v).0) (λ v. (plain_is r v).1) (length w) w),
  back w (plain_is r w).1 (λ us. chain_complete (plain r) (Matches r) (λ v. (plain_is r v).0) (λ v. (plain_is r v).1) us (length w) w (omega arith)),
)
  where
    to : (w : Word) → (plain r w ≡ true → Matches r w) → (chain (plain r) (length w) w ≡ true → (us : List Word) × Factors (Matches r) us w) → plain (plus r) w ≡ true → Matches (plus r) w
    to [] f g e = ([], [], ([], refl, f e, refl))
    to (c ∷ w) f g e = plus_of_star r (c ∷ w) tt (g e)

    back : (w : Word) → (Matches r w → plain r w ≡ true) → ((us : List Word) → Factors (Matches r) us w → chain (plain r) (length w) w ≡ true) → Matches (plus r) w → plain (plus r) w ≡ true
    back [] f g m = let q = m.2 in f (subst (Matches r) (first_nil m.0 q.0 q.1) q.2)
    back (c ∷ w) f g m = g (m.0 ∷ m.1) m.2
plain_is (maybe r) w = (
  λ e. ⊎_elim (λ x. inl (nil_of w x)) (λ x. inr ((plain_is r w).0 x)) (or_cases (is_nil w) (plain r w) e),
  λ m. ⊎_elim (λ x. or_left _ _ (is_of w x)) (λ x. or_right _ _ ((plain_is r w).1 x)) m,
)

-- what the slow way takes
mul_le : (a b c d : ℕ) → a ≤ c → b ≤ d → a * b ≤ c * d
mul_le a b c d h k = let x = mul-le-mul_right b h in let y = mul-le-mul_left c k in omega (arith, x, y)

pub cost_rises : (r : Tree) (m n : ℕ) → m ≤ n → cost r m ≤ cost r n
cost_rises nothing m n h = omega arith
cost_rises never m n h = omega arith
cost_rises (one l) m n h = omega arith
cost_rises (seq r s) m n h = let a = cost_rises r m n h in let b = cost_rises s m n h in omega arith
cost_rises (alt r s) m n h = let a = cost_rises r m n h in let b = cost_rises s m n h in omega arith
cost_rises (star r) m n h = let a = cost_rises r m n h in let z = mul_le (m + 1) (cost r m + 2) (n + 1) (cost r n + 2) (omega arith) (omega arith) in omega (arith, z)
cost_rises (plus r) m n h = let a = cost_rises r m n h in let z = mul_le (m + 1) (cost r m + 2) (n + 1) (cost r n + 2) (omega arith) (omega arith) in omega (arith, z)
cost_rises (maybe r) m n h = let a = cost_rises r m n h in omega arith

pub star_factor : (r : Tree) (m n : ℕ) → m ≤ n → cost r m + 1 < (n + 1) * (cost r n + 2)
star_factor r m n h =
    let a = cost_rises r m n h in
    let z = mul_le 1 (cost r n + 2) (n + 1) (cost r n + 2) (omega arith) (omega arith) in
    omega (arith, z)

pub star_rest : (r : Tree) (m n : ℕ) → m < n → (m + 1) * (cost r m + 2) < (n + 1) * (cost r n + 2)
star_rest r m n h =
    let a = cost_rises r m n (omega arith) in
    let z = mul_le (m + 1) (cost r m + 2) n (cost r n + 2) (omega arith) (omega arith) in
    let y : (n + 1) * (cost r n + 2) ≡ n * (cost r n + 2) + (cost r n + 2) = grind arith in
    omega (arith, z)

pub if_some : (w : Word) (a b : Bool) → 0 < length w → if_nil w a b ≡ b
if_some [] a b l = absurd (omega arith)
if_some (c ∷ w) a b l = refl

below_same : (n : ℕ) (f g : ℕ → Bool) → ((i : ℕ) → f i ≡ g i) → some_below n f ≡ some_below n g
below_same zero f g h = refl
below_same (suc n) f g h = rw (below_same n f g h, h n) refl

-- a star, its first factor taken off
chain_step : (p : Word → Bool) (w : Word) → 0 < length w → chain p (length w) w ≡ some_below (length w) (λ i. p (take (i + 1) w) && chain p (length (drop (i + 1) w)) (drop (i + 1) w))
chain_step p [] l = absurd (omega arith)
chain_step p (c ∷ w) l = below_same (suc (length w)) (λ i. p (take (i + 1) (c ∷ w)) && chain p (length w) (drop (i + 1) (c ∷ w)))
    (λ i. p (take (i + 1) (c ∷ w)) && chain p (length (drop (i + 1) (c ∷ w))) (drop (i + 1) (c ∷ w))) each
  where
    each : (i : ℕ) → (p (take (i + 1) (c ∷ w)) && chain p (length w) (drop (i + 1) (c ∷ w))) ≡ (p (take (i + 1) (c ∷ w)) && chain p (length (drop (i + 1) (c ∷ w))) (drop (i + 1) (c ∷ w)))
    each i =
        let z = length-drop (i + 1) (c ∷ w) in
        let m : length (c ∷ w) ≡ suc (length w) = refl in
        ap (λ b. p (take (i + 1) (c ∷ w)) && b) (chain_fuel nothing p (length w) (drop (i + 1) (c ∷ w)) (omega arith))

pub star_ends : (p : Word → Bool) (w : Word) → 0 < length w → some_below (length w) (λ i. p (take (i + 1) w) && chain p (length (drop (i + 1) w)) (drop (i + 1) w)) ≡ false →
    false ≡ chain p (length w) w
star_ends p w l e = sym (chain_step p w l ∙ e)

pub star_finds : (p : Word → Bool) (w : Word) (i : ℕ) → i < length w → p (take (i + 1) w) ≡ true → chain p (length (drop (i + 1) w)) (drop (i + 1) w) ≡ true → true ≡ chain p (length w) w
star_finds p w i l e f = sym (chain_step p w (omega arith) ∙ below_has (length w) (λ i. p (take (i + 1) w) && chain p (length (drop (i + 1) w)) (drop (i + 1) w)) i l (and_both _ _ e f))

pub cat_finds : (r s : Tree) (w : Word) (i : ℕ) → i < length w + 1 → plain r (take i w) ≡ true → plain s (drop i w) ≡ true → plain (seq r s) w ≡ true
cat_finds r s w i l e f = below_has (length w + 1) (λ i. plain r (take i w) && plain s (drop i w)) i l (and_both _ _ e f)
