-- The index of a name in a list of things that have names.
use Rattle.std.proofs.Common.{◌≡◌, ◌<◌, ◌≤◌, ℕ, ◌+◌, List, [], ◌∷◌, Bool, true, false, cond, not, nat_lt, Some, None, drop, get_or, refl, sym, ap, ap₂, ◌∙◌, subst, arith}
use Rattle.std.specs.Prelude.{map, length, position}
use Rattle.std.specs.List.{position_or_len, prefix_len}
use Rattle.std.proofs.lemmas.List.{length-map, at_drop_more, at_drop_all, get_or_default}
use Rattle.std.proofs.lemmas.List.Sums.{prefix_len-le-length}
use Rattle.std.proofs.lemmas.Bool.Decides.{nat_tests}

prefix_map : {A B : Type 0} (p : B → Bool) (f : A → B) (xs : List A) → prefix_len p (map f xs) ≡ prefix_len (λ x. p (f x)) xs
prefix_map p f [] = refl
prefix_map p f (x ∷ xs) = by (p (f x)) refl (prefix_map p f xs)
  where
    by : (b : Bool) → p (f x) ≡ b → prefix_len p (map f xs) ≡ prefix_len (λ x. p (f x)) xs → prefix_len p (map f (x ∷ xs)) ≡ prefix_len (λ x. p (f x)) (x ∷ xs)
    by true e r = rw e (ap (λ n. 1 + n) r)
    by false e r = rw e refl

pub or_len_map : {A B : Type 0} (p : B → Bool) (f : A → B) (xs : List A) → position_or_len p (map f xs) ≡ position_or_len (λ x. p (f x)) xs
or_len_map p f xs = prefix_map (λ b. not (p b)) f xs

pub position_map : {A B : Type 0} (p : B → Bool) (f : A → B) (xs : List A) → position p (map f xs) ≡ position (λ x. p (f x)) xs
position_map p f xs = ap₂ (λ n m. cond (nat_lt n m) (Some n) None) (or_len_map p f xs) (length-map xs f)

-- how far the search has come: nothing before i passes
abbrev pub Seeks : {X : Type 0} → (X → Bool) → List X → ℕ → Type 0
Seeks q xs i = i + position_or_len q (drop i xs) ≡ position_or_len q xs

pub seeks_found : {X : Type 0} (q : X → Bool) (xs : List X) (i : ℕ) (x : X) → i < length xs → x ≡ get_or xs i x → q x ≡ true → Seeks q xs i → Some i ≡ position q xs
seeks_found q xs i x l e f s =
    let m = at_drop_more (position_or_len q) xs i x l in
    let z : q (get_or xs i x) ≡ true = subst (λ y. q y ≡ true) e f in
    let d : position_or_len q (drop i xs) ≡ 0 = m ∙ ap (λ b. cond (not b) (1 + position_or_len q (drop (i + 1) xs)) 0) z in
    let n : i ≡ position_or_len q xs = omega arith in
    let t : nat_lt i (length xs) ≡ true = grind (arith, nat_tests) in
    sym (ap (λ k. cond (nat_lt k (length xs)) (Some k) None) (sym n) ∙ ap (λ b. cond b (Some i) None) t)

-- by whatever stands in for an index past the end
pub seeks_here : {X : Type 0} (q : X → Bool) (xs : List X) (i : ℕ) (d : X) → i < length xs → q (get_or xs i d) ≡ true → Seeks q xs i → Some i ≡ position q xs
seeks_here q xs i d l t s = seeks_found q xs i (get_or xs i d) l (get_or_default xs i d (get_or xs i d) l) t s

pub seeks_none : {X : Type 0} (q : X → Bool) (xs : List X) (i : ℕ) → length xs ≤ i → Seeks q xs i → None ≡ position q xs
seeks_none q xs i l s =
    let d = at_drop_all (position_or_len q) xs i l in
    let n : length xs ≤ position_or_len q xs = omega (arith, d) in
    let t : nat_lt (position_or_len q xs) (length xs) ≡ false = grind (arith, nat_tests) in
    sym (ap (λ b. cond b (Some (position_or_len q xs)) None) t)

pub no_index : {X : Type 0} (q : X → Bool) (xs : List X) → None ≡ position q xs → length xs ≡ position_or_len q xs
no_index q xs e = by (nat_lt (position_or_len q xs) (length xs)) refl
  where
    by : (t : Bool) → nat_lt (position_or_len q xs) (length xs) ≡ t → length xs ≡ position_or_len q xs
    by true t = let z : None ≡ Some (position_or_len q xs) = e ∙ ap (λ b. cond b (Some (position_or_len q xs)) None) t in absurd (cc)
    by false t = let l = prefix_len-le-length (λ x. not (q x)) xs in let m : length xs ≤ position_or_len q xs = grind (arith, nat_tests) in omega arith
