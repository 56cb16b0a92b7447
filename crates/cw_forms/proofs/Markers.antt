-- No marker arises in a form.
use Rattle.std.proofs.Common.{◌≡◌, ℕ, zero, suc, Bool, true, false, eqb, ◌||◌, List, [], ◌∷◌, ◌++◌, drop, take, refl}
use Rattle.std.specs.Prelude.{nat_eq, codes}
use Rattle.std.specs.List.{starts_with}
use Rattle.std.proofs.lemmas.Bool.{and_parts, and_from, both_ways}
use Rattle.cw_lemmas.proofs.Truths.{still_false}
use Rattle.cw_lemmas.proofs.Texts.{starts_whole}
use Rattle.cw_syntax.specs.Names.{slice}
use Rattle.cw_lex.specs.Punctuators.{is_marker, HasNoMarker}
use Rattle.cw_detach.specs.Form.{before, behind}
use Rattle.cw_forms.specs.Spans.{with_texts}

-- no marker begins in these bytes
abbrev Clear : List ℕ → Type 0
Clear [] = Unit {0}
Clear (b ∷ bs) = (is_marker (b ∷ bs) ≡ false) × Clear bs

clear_of : (l : List ℕ) → ((k : ℕ) → is_marker (drop k l) ≡ false) → Clear l
clear_of [] h = tt
clear_of (b ∷ l) h = (h 0, clear_of l (λ k. h (suc k)))

clear_at : (l : List ℕ) → Clear l → (k : ℕ) → is_marker (drop k l) ≡ false
clear_at [] h zero = refl
clear_at [] h (suc k) = refl
clear_at (b ∷ l) h zero = h.0
clear_at (b ∷ l) h (suc k) = clear_at l h.1 k

clear_drop : (l : List ℕ) (n : ℕ) → Clear l → Clear (drop n l)
clear_drop [] zero h = tt
clear_drop [] (suc n) h = tt
clear_drop (b ∷ l) zero h = h
clear_drop (b ∷ l) (suc n) h = clear_drop l n h.1

either : (a b c d : Bool) → (a ≡ true → c ≡ true) → (b ≡ true → d ≡ true) → (a || b) ≡ true → (c || d) ≡ true
either true b c d f g e = rw (f refl) refl
either false b true d f g e = refl
either false b false d f g e = g e

clear_take : (l : List ℕ) (n : ℕ) → Clear l → Clear (take n l)
clear_take [] zero h = tt
clear_take [] (suc n) h = tt
clear_take (b ∷ l) zero h = tt
clear_take (b ∷ l) (suc n) h = (
  still_false (is_marker (b ∷ l)) (is_marker (b ∷ take n l))
      (either _ _ _ _ (starts_whole (b ∷ l) (codes "cw{*") (suc n)) (starts_whole (b ∷ l) (codes "*}cw") (suc n))) h.0,
  clear_take l n h.1,
)

-- no end of a marker begins the bytes
abbrev NoFront : List ℕ → List ℕ → Type 0
NoFront r [] = Unit {0}
NoFront r (x ∷ m) = (starts_with nat_eq r (x ∷ m) ≡ false) × NoFront r m

inside : (w r m : List ℕ) → NoFront r m → starts_with nat_eq (w ++ r) m ≡ true → starts_with nat_eq w m ≡ true
inside w r [] h e = refl
inside [] r (x ∷ m) h e = absurd (both_ways (starts_with nat_eq r (x ∷ m)) h.0 e)
inside (b ∷ w) r (x ∷ m) h e = let p = and_parts (eqb x b) (starts_with nat_eq (w ++ r) m) e in and_from (eqb x b) (starts_with nat_eq w m) p.0 (inside w r m h.1 p.1)

clear_both : (w r : List ℕ) → NoFront r (codes "cw{*") → NoFront r (codes "*}cw") → Clear w → Clear r → Clear (w ++ r)
clear_both [] r p q h k = k
clear_both (b ∷ w) r p q h k =
    (still_false (is_marker (b ∷ w)) (is_marker (b ∷ w ++ r)) (either _ _ _ _ (inside (b ∷ w) r (codes "cw{*") p) (inside (b ∷ w) r (codes "*}cw") q)) h.0, clear_both w r p q h.1 k)

before_clear : (l : List ℕ) → Clear l → Clear (before ++ l)
unfolding before
before_clear l h = (refl, (refl, (refl, (refl, (refl, (refl, (refl, (refl, (refl, (refl, (refl, (refl, (refl, h)))))))))))))

behind_clear : (l : List ℕ) → Clear l → Clear (behind ++ l)
unfolding behind
behind_clear l h = (refl, (refl, (refl, (refl, (refl, (refl, (refl, (refl, (refl, (refl, (refl, (refl, (refl, (refl, (refl, (refl, (refl, (refl, (refl, h)))))))))))))))))))

before_front : (l : List ℕ) → NoFront (before ++ l) (codes "cw{*") × NoFront (before ++ l) (codes "*}cw")
unfolding before
before_front l = ((refl, (refl, (refl, (refl, tt)))), (refl, (refl, (refl, (refl, tt)))))

behind_front : (l : List ℕ) → NoFront (behind ++ l) (codes "cw{*") × NoFront (behind ++ l) (codes "*}cw")
unfolding behind
behind_front l = ((refl, (refl, (refl, (refl, tt)))), (refl, (refl, (refl, (refl, tt)))))

texts_clear : (source : List ℕ) → Clear source → (at : ℕ) (ss : List (ℕ × ℕ)) → Clear (with_texts source at ss)
unfolding with_texts
texts_clear source h at [] = clear_drop source at h
texts_clear source h at (s ∷ ss) =
    let rest = behind ++ with_texts source s.1 ss in
    let call = slice source s.0 s.1 ++ rest in
    let p = behind_front (with_texts source s.1 ss) in
    let q = before_front call in
    let here : Clear call = clear_both (slice source s.0 s.1) rest p.0 p.1 (clear_take (drop s.0 source) _ (clear_drop source s.0 h)) (behind_clear (with_texts source s.1 ss)
    (texts_clear source h s.1 ss)) in
    clear_both (slice source at s.0) (before ++ call) q.0 q.1 (clear_take (drop at source) _ (clear_drop source at h)) (before_clear call here)

pub no_marker : (source : List ℕ) (ss : List (ℕ × ℕ)) → HasNoMarker source → HasNoMarker (with_texts source 0 ss)
no_marker source ss h = clear_at (with_texts source 0 ss) (texts_clear source (clear_of source h) 0 ss)
