-- The row of the lists: heads and cells, the lists without a cell, and with one in front.
use Rattle.std.proofs.Common.{◌≡◌, ℕ, suc, zero, ◌+◌, ◌<◌, ◌≤◌, true, false, not, eqb, List, [], ◌∷◌, ◌++◌, length, Option, Some, None, refl, sym, ap, ◌∙◌, subst, arith, inl, inr, ⊎_elim, ◌⊎◌}
use Rattle.std.specs.List.{slice_get}
use Rattle.std.proofs.lemmas.List.Elements.{filter-append}
use Rattle.std.proofs.lemmas.Bool.{eq-eqb, ne_eqb, cases_eq, false≢true, cases_Bool}
use Rattle.std.proofs.lemmas.Bool.Decides.{nat_tests}
use Rattle.cw_links.specs.Lists.{without, with_front}
use Rattle.cw_links.specs.Rows.{has, head_of, row_from, Below, link_to}
use Rattle.cw_links.proofs.NodeRows.{less, put_behind, has-append, put_behind-append_right, has-less_within}

pub link_to_cell : (o : Option ℕ) (y : ℕ) → y < 4294967295 → link_to o ≡ y → o ≡ Some y
link_to_cell None y l e = absurd (omega (arith, e))
link_to_cell (Some x) y l e = ap (λ w. Some w) (omega (arith, e))

pub link_to_past : (o : Option ℕ) (y : ℕ) → o ≡ Some y → y < 4294967295 → link_to o ≡ y
link_to_past o y e l = rw e (omega arith)

-- rows of lists

pub row-without : (ls : List (List ℕ)) (k c : ℕ) → c < 4294967296 → row_from k (without ls c) ≡ less (row_from k ls) c
row-without [] k c l = refl
row-without (xs ∷ ls) k c l =
    rw (ne_eqb (head_of k) c (λ e. absurd (omega (arith, e))))
    (ap (λ w. head_of k ∷ w) (ap (λ w. less xs c ++ w) (row-without ls (suc k) c l) ∙ sym (filter-append (λ x. not (eqb x c)) xs (row_from (suc k) ls))))

pub Below-without : (n : ℕ) (ls : List (List ℕ)) (c : ℕ) → Below n ls → Below n (without ls c)
Below-without n [] c b = tt
Below-without n (xs ∷ ls) c b = (λ y h. b.0 y (has-less_within xs c y h), Below-without n ls c b.1)

pub Below-with_front : (n : ℕ) (ls : List (List ℕ)) (l c : ℕ) → c < n → Below n ls → Below n (with_front ls l c)
Below-with_front n [] l c i b = tt
Below-with_front n (xs ∷ ls) zero c i b = (λ y h. ⊎_elim (λ e. omega arith) (λ ne. b.0 y (grind (arith, nat_tests, h))) (cases_eq c y), b.1)
Below-with_front n (xs ∷ ls) (suc l) c i b = (b.0, Below-with_front n ls l c i b.1)

pub Below-more : (n m : ℕ) (ls : List (List ℕ)) → n ≤ m → Below n ls → Below m ls
Below-more n m [] le b = tt
Below-more n m (xs ∷ ls) le b = (λ y h. omega (arith, b.0 y h), Below-more n m ls le b.1)

absent_head : (n : ℕ) (xs : List ℕ) (h : ℕ) → ((y : ℕ) → has xs y ≡ true → y < n) → n ≤ h → has xs h ≡ false
absent_head n xs h b l = ⊎_elim (λ e. absurd (omega (arith, b h e))) (λ e. e) (cases_Bool (has xs h))

pub row-with_front : (n : ℕ) (ls : List (List ℕ)) (k l c : ℕ) → l < length ls → n ≤ 4294967296 → Below n ls → row_from k (with_front ls l c) ≡ put_behind (row_from k ls) (head_of (k + l)) c
row-with_front n [] k l c i few b = absurd (omega (arith, i))
row-with_front n (xs ∷ ls) k zero c i few b = rw (eq-eqb (head_of k) (head_of (k + 0)) (omega arith)) refl
row-with_front n (xs ∷ ls) k (suc l) c i few b =
    let e : k + suc l ≡ suc k + l = omega arith in
    rw (ne_eqb (head_of k) (head_of (k + suc l)) (λ q. absurd (omega (arith, q))))
    (ap (λ w. head_of k ∷ w)
    (ap (λ w. xs ++ w) (row-with_front n ls (suc k) l c (omega (arith, i)) few b.1 ∙ ap (λ w. put_behind (row_from (suc k) ls) (head_of w) c) (sym e))
    ∙ sym (put_behind-append_right xs (row_from (suc k) ls) (head_of (k + suc l)) c (absent_head n xs (head_of (k + suc l)) b.0 (omega arith)))))

-- the head of a list stands in the row
pub has_head : (ls : List (List ℕ)) (k l : ℕ) → l < length ls → has (row_from k ls) (head_of (k + l)) ≡ true
has_head [] k l i = absurd (omega (arith, i))
has_head (xs ∷ ls) k zero i = rw (eq-eqb (head_of k) (head_of (k + 0)) (omega arith)) refl
has_head (xs ∷ ls) k (suc l) i =
    let e : suc k + l ≡ k + suc l = omega arith in
    let h : has (row_from (suc k) ls) (head_of (k + suc l)) ≡ true = subst (λ w. has (row_from (suc k) ls) (head_of w) ≡ true) e (has_head ls (suc k) l (omega (arith, i))) in
    grind (arith, nat_tests, has-append xs (row_from (suc k) ls) (head_of (k + suc l)))

-- what stands in the row: a cell, or a head
pub in_row : (n : ℕ) (ls : List (List ℕ)) (k y : ℕ) → Below n ls → has (row_from k ls) y ≡ true → (y < n) ⊎ ((head_of k ≤ y) × (y < head_of (k + length ls)))
in_row n [] k y b h = absurd (false≢true h)
in_row n (xs ∷ ls) k y b h = ⊎_elim
    (λ e. inr (omega (arith, e), omega (arith, e)))
    (λ ne. ⊎_elim
    (λ i. inl (b.0 y i))
    (λ a. ⊎_elim (λ c. inl c) (λ q. inr (omega (arith, q.0), omega (arith, q.1))) (in_row n ls (suc k) y b.1 (grind (arith, nat_tests, has-append xs (row_from (suc k) ls) y))))
    (cases_Bool (has xs y)))
    (cases_eq (head_of k) y)

pub link_to_row : (ls : List (List ℕ)) (k : ℕ) → link_to (slice_get (row_from k ls) 0) ≡ 4294967295
link_to_row [] k = refl
link_to_row (xs ∷ ls) k = omega arith
