-- What is read along the links from a first cell is the list.
use Rattle.std.proofs.Common.{◌≡◌, ℕ, suc, zero, ◌+◌, ◌<◌, ◌≤◌, true, false, eqb, List, [], ◌∷◌, ◌++◌, length, map, get_or, Option, refl, ap, ◌∙◌, arith}
use Rattle.std.specs.List.{slice_get, IsDistinct, list_any, AllByRecursion}
use Rattle.std.proofs.lemmas.Map.Steps.{length-le_from_distinct_below}
use Rattle.std.proofs.lemmas.Bool.{eq-eqb, ne_eqb}
use Rattle.std.proofs.lemmas.Bool.Decides.{nat_tests}
use Rattle.cw_links.specs.Lists.{list_at}
use Rattle.cw_links.specs.Rows.{has, Once, link_to, row_from, head_of, Below, spelled}
use Rattle.cw_links.proofs.NodeRows.{Agrees, Agrees-append_right, Once-append_left, Once-append_right}
use Rattle.cw_links.proofs.Heads.{link_to_row}

spelled_end : (next : List ℕ) (left cell : ℕ) → cell ≡ 4294967295 → spelled next left cell ≡ []
spelled_end next zero cell e = refl
spelled_end next (suc left) cell e = rw (eq-eqb cell 4294967295 e) refl

spelled_on : (next : List ℕ) (left cell x : ℕ) → cell ≡ x → x < 4294967295 → spelled next (suc left) cell ≡ x ∷ spelled next left (get_or next x 0)
spelled_on next left cell x e l = rw (e, ne_eqb x 4294967295 (λ k. absurd (omega (arith, k)))) refl

spelled_list : (A : ℕ → Option ℕ) (next : List ℕ) (n : ℕ) → n ≤ 4294967295 → ((y : ℕ) → y < n → get_or next y 0 ≡ link_to (A y)) →
    (cells post : List ℕ) (y left : ℕ) → Agrees A (y ∷ (cells ++ post)) → ((z : ℕ) → has cells z ≡ true → z < n) → link_to (slice_get post 0) ≡ 4294967295 → length cells ≤ left →
    spelled next left (link_to (A y)) ≡ cells
spelled_list A next n few nexts [] post y left g b e le = spelled_end next left (link_to (A y)) (ap link_to g.0 ∙ e)
spelled_list A next n few nexts (x ∷ cells) post y zero g b e le = absurd (omega (arith, le))
spelled_list A next n few nexts (x ∷ cells) post y (suc left) g b e le =
    let i : x < n = b x (rw (eq-eqb x x refl) refl) in
    let l : link_to (A y) ≡ x = ap link_to g.0 ∙ omega arith in
    spelled_on next left (link_to (A y)) x l (omega arith)
    ∙ ap (λ w. x ∷ w) (ap (λ w. spelled next left w) (nexts x i)
    ∙ spelled_list A next n few nexts cells post x left g.1 (λ z h. b z (grind (arith, nat_tests, h))) e (omega (arith, le)))

-- a row of cells below n that has each once is no longer than n

apart_all : (x : ℕ) (xs : List ℕ) → has xs x ≡ false → AllByRecursion (λ y. eqb x y ≡ false) xs
apart_all x [] a = tt
apart_all x (y ∷ ys) a = (grind (arith, nat_tests, a), apart_all x ys (grind (arith, nat_tests, a)))

pub IsDistinct-from_Once : (xs : List ℕ) → Once xs → IsDistinct eqb xs
unfolding IsDistinct
IsDistinct-from_Once [] o = tt
IsDistinct-from_Once (x ∷ xs) o = (apart_all x xs o.0, IsDistinct-from_Once xs o.1)

list_any-has : (xs : List ℕ) (q : ℕ) → list_any (eqb q) xs ≡ true → has xs q ≡ true
list_any-has [] q h = h
list_any-has (x ∷ xs) q h = grind (arith, nat_tests, list_any-has xs q)

short : (xs : List ℕ) (n : ℕ) → Once xs → ((y : ℕ) → has xs y ≡ true → y < n) → length xs ≤ n
short xs n o b = length-le_from_distinct_below xs n (IsDistinct-from_Once xs o) (λ q h. b q (list_any-has xs q h))

-- the lists that the links spell from their first cells
pub map-spelled : (A : ℕ → Option ℕ) (next : List ℕ) (n : ℕ) → n ≤ 4294967295 → n ≡ length next → ((y : ℕ) → y < n → get_or next y 0 ≡ link_to (A y)) →
    (ls : List (List ℕ)) (k : ℕ) (first : List ℕ) → length first ≡ length ls → ((j : ℕ) → j < length ls → get_or first j 0 ≡ link_to (A (head_of (k + j)))) →
    Agrees A (row_from k ls) → Once (row_from k ls) → Below n ls → map (spelled next (length next)) first ≡ ls
map-spelled A next n few long nexts [] k [] e heads g o b = refl
map-spelled A next n few long nexts [] k (x ∷ first) e heads g o b = absurd (omega (arith, e))
map-spelled A next n few long nexts (l ∷ ls) k [] e heads g o b = absurd (omega (arith, e))
map-spelled A next n few long nexts (l ∷ ls) k (x ∷ first) e heads g o b =
    let h : x ≡ link_to (A (head_of k)) = heads 0 (omega arith) ∙ ap (λ w. link_to (A w)) (omega arith) in
    let s : spelled next (length next) x ≡ l =
    ap (λ w. spelled next (length next) w) h
    ∙ spelled_list A next n few nexts l (row_from (suc k) ls) (head_of k) (length next) g b.0 (link_to_row ls (suc k)) (omega (arith, short l n (Once-append_left l (row_from (suc k) ls) o.1) b.0, long)) in
    let r : map (spelled next (length next)) first ≡ ls =
    map-spelled A next n few long nexts ls (suc k) first (omega (arith, e))
    (λ j i. heads (suc j) (omega (arith, i)) ∙ ap (λ w. link_to (A w)) (omega arith))
    (Agrees-append_right A l (row_from (suc k) ls) g.1) (Once-append_right l (row_from (suc k) ls) o.1) b.1 in
    ap (λ w. w ∷ map (spelled next (length next)) first) s ∙ ap (λ w. l ∷ w) r

link_to_front : (back : List ℕ) (k : ℕ) (ls : List (List ℕ)) → link_to (slice_get (back ++ row_from k ls) 0) ≡ link_to (slice_get back 0)
link_to_front [] k ls = link_to_row ls k
link_to_front (x ∷ back) k ls = refl

-- what follows a head and a cell
pub head_link : (A : ℕ → Option ℕ) (ls : List (List ℕ)) (k j : ℕ) → Agrees A (row_from k ls) → j < length ls → link_to (A (head_of (k + j))) ≡ link_to (slice_get (list_at ls j) 0)
head_link A [] k j g i = absurd (omega (arith, i))
head_link A (l ∷ ls) k zero g i = ap (λ w. link_to (A w)) (omega arith) ∙ ap link_to g.0 ∙ link_to_front l (suc k) ls
head_link A (l ∷ ls) k (suc j) g i =
    ap (λ w. link_to (A w)) (omega arith) ∙ head_link A ls (suc k) j (Agrees-append_right A l (row_from (suc k) ls) g.1) (omega (arith, i))

cell_link : (A : ℕ → Option ℕ) (front : List ℕ) (cell : ℕ) (back post : List ℕ) → Agrees A ((front ++ cell ∷ back) ++ post) → A cell ≡ slice_get (back ++ post) 0
cell_link A [] cell back post g = g.0
cell_link A (x ∷ front) cell back post g = cell_link A front cell back post g.1

pub cell_next : (A : ℕ → Option ℕ) (ls : List (List ℕ)) (k j : ℕ) (front : List ℕ) (cell : ℕ) (back : List ℕ) → Agrees A (row_from k ls) → list_at ls j ≡ front ++ cell ∷ back → link_to (A cell) ≡ link_to (slice_get back 0)
cell_next A [] k j [] cell back g e = absurd (cc)
cell_next A [] k j (x ∷ front) cell back g e = absurd (cc)
cell_next A (l ∷ ls) k zero front cell back g e =
    ap link_to (cell_link A front cell back (row_from (suc k) ls) (let q : l ≡ front ++ cell ∷ back = e in rw q at g.1)) ∙ link_to_front back (suc k) ls
cell_next A (l ∷ ls) k (suc j) front cell back g e =
    cell_next A ls (suc k) j front cell back (Agrees-append_right A l (row_from (suc k) ls) g.1) e
