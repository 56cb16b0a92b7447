-- What the calls do to the vectors, and what that does to the lists.
use Rattle.std.proofs.Common.{◌≡◌, ◌≢◌, ℕ, suc, zero, ◌+◌, ◌-◌, ◌<◌, ◌≤◌, Bool, true, false, cond, eqb, List, [], ◌∷◌, ◌++◌, length, get_or, Option, Some, None, refl, sym, ap, ◌∙◌, subst, arith, inl, inr, ⊎_elim, ltb, set, replicate, zero-add}
use Rattle.std.specs.List.{slice_get, Contains, concat}
use Rattle.std.specs.Option.{IfSome, IfNone}
use Rattle.std.proofs.lemmas.List.{length-set, get_or-set_same, get_or-set_other, get_or_push, length_push, get_or_append_left, get_or-replicate, length-replicate, get_or-append_right, length-append, get_or_read, length-map, get_or_past, append_assoc}
use Rattle.std.proofs.lemmas.Bool.{eq-eqb, ne_eqb, cases_eq, cases_lt, false≢true, cases_Bool, cond-true, cond-false, lt-ltb, le-ltb}
use Rattle.std.proofs.lemmas.Bool.Decides.{nat_tests}
use Rattle.std.proofs.lemmas.Option.{none-some, same_Some}
use Rattle.cw_links.specs.Lists.{list_at, without, with_front, IsUnlinked, AreApart}
use Rattle.cw_links.specs.Rows.{has, after, Once, head_of, row_from, Below, link_to, IsNode, Threads, AreLinks, next_at, lists_of}
use Rattle.cw_links.proofs.NodeRows.{less, put_behind, Once-less, Once-put_behind, less_absent, absent_tail, has-less_same, has-before, has-after, node_before, has-append, Agrees-after, Once-append, has_tail, has-first, after_absent, apart-append, Once-append_left, Once-append_right}
use Rattle.cw_links.proofs.Heads.{in_row, has_head, row-without, row-with_front, Below-without, Below-with_front, Below-more, link_to_cell}
use Rattle.cw_links.proofs.Threads.{TakesOut, PutsBehind, Threads-less, Threads-put_behind, Threads-more_cell, Threads-append}
use Rattle.cw_links.proofs.Spelling.{IsDistinct-from_Once, map-spelled, head_link, cell_next}

-- reads

next_at_cell : (f n : List ℕ) (y : ℕ) → y < 4294967296 → next_at f n y ≡ get_or n y 0
next_at_cell f n y l = rw (lt-ltb y 4294967296 l) refl

next_at_head : (f n : List ℕ) (j : ℕ) → next_at f n (head_of j) ≡ get_or f j 0
next_at_head f n j = rw (le-ltb (head_of j) 4294967296 (omega arith)) (ap (λ w. get_or f w 0) (omega arith))

module _ (f n b : List ℕ) (ls : List (List ℕ)) (a : AreLinks f n b ls) where
  pub cell_kept : (y : ℕ) → y < length n → get_or n y 0 ≡ link_to (after (row_from 0 ls) y)
  cell_kept y i = sym (next_at_cell f n y (omega (arith, a.few_cells))) ∙ a.threads.nexts y (inl i)

  pub head_kept : (j : ℕ) → j < length ls → get_or f j 0 ≡ link_to (after (row_from 0 ls) (head_of j))
  head_kept j i = sym (next_at_head f n j) ∙ a.threads.nexts (head_of j) (inr (omega arith, omega (arith, a.heads)))

  pub lists_are : lists_of f n ≡ ls
  lists_are =
      map-spelled (after (row_from 0 ls)) n (length n) a.few_cells refl cell_kept ls 0 f a.heads (λ j i. head_kept j i ∙ ap (λ w. link_to (after (row_from 0 ls) w)) (omega arith))
      (Agrees-after (row_from 0 ls) a.once) a.once a.below

  no_first : (ms : List (List ℕ)) (k c : ℕ) → c < 4294967296 → slice_get (row_from k ms) 0 ≢ Some c
  no_first [] k c l e = none-some c e
  no_first (xs ∷ ms) k c l e = absurd (omega (arith, same_Some (head_of k) c e))

  -- the node that is kept before a cell comes before it in the row
  before_is : (c : ℕ) → c < length n → has (row_from 0 ls) c ≡ true → after (row_from 0 ls) (get_or b c 0) ≡ Some c
  before_is c i h =
      let q : (p : ℕ) × (after (row_from 0 ls) p ≡ Some c) = node_before (row_from 0 ls) c a.once h (no_first ls 0 c (omega (arith, a.few_cells))) in
      rw (a.threads.backs q.0 c q.1 i) q.1

  pub node_is : (p c : ℕ) → after (row_from 0 ls) p ≡ Some c → IsNode (length n) (length f) p
  node_is p c e = ⊎_elim (λ i. inl i) (λ i. inr (omega (arith, i.0), omega (arith, i.1, a.heads))) (in_row (length n) ls 0 p a.below (has-before (row_from 0 ls) p c e))

  pub out_is : (c : ℕ) → c < length n → get_or b c 0 ≡ 18446744073709551615 → has (row_from 0 ls) c ≡ false
  out_is c i e = ⊎_elim
      (λ h. ⊎_elim (λ l. absurd (omega (arith, l, e, a.few_cells))) (λ l. absurd (omega (arith, l.1, e, a.few_lists))) (node_is (get_or b c 0) c (before_is c i h)))
      (λ h. h)
      (cases_Bool (has (row_from 0 ls) c))

  pub in_is : (c : ℕ) → c < length n → get_or b c 0 ≢ 18446744073709551615 → after (row_from 0 ls) (get_or b c 0) ≡ Some c
  in_is c i ne = ⊎_elim (λ h. before_is c i h) (λ h. absurd (ne (a.threads.outs c i h))) (cases_Bool (has (row_from 0 ls) c))

  link_within : (y : ℕ) (o : Option ℕ) → after (row_from 0 ls) y ≡ o → link_to o ≢ 4294967295 → link_to o < length n
  link_within y None e ne = absurd (ne refl)
  link_within y (Some z) e ne = ⊎_elim
      (λ i. omega (arith, i))
      (λ i. absurd (ne (omega (arith, i.0))))
      (in_row (length n) ls 0 z a.below (has-after (row_from 0 ls) y z e))

  pub cell_within : (y : ℕ) → y < length n → get_or n y 0 ≢ 4294967295 → get_or n y 0 < length n
  cell_within y i ne = rw (cell_kept y i) (link_within y _ refl (λ e. ne (cell_kept y i ∙ e)))

  pub head_within : (j : ℕ) → j < length ls → get_or f j 0 ≢ 4294967295 → get_or f j 0 < length n
  head_within j i ne = rw (head_kept j i) (link_within (head_of j) _ refl (λ e. ne (head_kept j i ∙ e)))

-- a cell that stands in no list

absent_parts : (x y : Bool) → cond x true y ≡ false → (x ≡ false) × (y ≡ false)
absent_parts x y e = grind arith

without_absent : (ms : List (List ℕ)) (k c : ℕ) → has (row_from k ms) c ≡ false → without ms c ≡ ms
without_absent [] k c h = refl
without_absent (xs ∷ ms) k c h =
    let h1 : has (xs ++ row_from (suc k) ms) c ≡ false = absent_tail (head_of k) (xs ++ row_from (suc k) ms) c h in
    let h2 : (has xs c ≡ false) × (has (row_from (suc k) ms) c ≡ false) = absent_parts (has xs c) _ (sym (has-append xs (row_from (suc k) ms) c) ∙ h1) in
    ap (λ w. w ∷ without ms c) (less_absent xs c h2.0) ∙ ap (λ w. xs ∷ w) (without_absent ms (suc k) c h2.1)

pub without-without : (ms : List (List ℕ)) (c : ℕ) → without (without ms c) c ≡ without ms c
without-without [] c = refl
without-without (xs ∷ ms) c = ap (λ w. w ∷ without (without ms c) c) (less_absent (less xs c) c (has-less_same xs c)) ∙ ap (λ w. less xs c ∷ w) (without-without ms c)

-- the lists are the ones that are read
pub linked : (f n b : List ℕ) (ls : List (List ℕ)) → AreLinks f n b ls → AreLinks f n b (lists_of f n)
linked f n b ls a = rw (lists_are f n b ls a) a

next_at_set_other : (f n : List ℕ) (c v y : ℕ) → y ≢ c → next_at f (set n c v) y ≡ next_at f n y
next_at_set_other f n c v y ne = ap (λ w. cond (ltb y 4294967296) w (get_or f (y - 4294967296) 0)) (get_or-set_other n c y v 0 ne)

next_at_set_same : (f n : List ℕ) (c v : ℕ) → c < length n → length n ≤ 4294967295 → next_at f (set n c v) c ≡ v
next_at_set_same f n c v i few = next_at_cell f (set n c v) c (omega arith) ∙ get_or-set_same n c v 0 i

next_at_set_head : (f n : List ℕ) (l v y : ℕ) → y ≢ head_of l → next_at (set f l v) n y ≡ next_at f n y
next_at_set_head f n l v y ne = ⊎_elim
    (λ k. next_at_cell (set f l v) n y k ∙ sym (next_at_cell f n y k))
    (λ k. ap (λ w. cond (ltb y 4294967296) (get_or n y 0) w) (get_or-set_other f l (y - 4294967296) v 0 (λ e. ne (omega (arith, e)))))
    (cases_lt y 4294967296)

cond_here : (y z u v : ℕ) → y ≡ z → cond (eqb y z) u v ≡ u
cond_here y z u v e = cond-true (eqb y z) u v (eq-eqb y z e)

cond_there : (y z u v : ℕ) → y ≢ z → cond (eqb y z) u v ≡ v
cond_there y z u v ne = cond-false (eqb y z) u v (ne_eqb y z ne)

-- the call that takes out a cell where it stands in no list
pub stays_out : (f n b : List ℕ) (ls : List (List ℕ)) (c p : ℕ) → AreLinks f n b ls → c < length n → p ≡ get_or b c p → p ≡ 18446744073709551615 → without ls c ≡ ls
stays_out f n b ls c p a i read e =
    without_absent ls 0 c (out_is f n b ls a c i (sym (get_or_read b c p (omega (arith, a.long)) read 0) ∙ e))

-- what it reads where it stands in one
module _ (f n b : List ℕ) (ls : List (List ℕ)) (c p x : ℕ) (a : AreLinks f n b ls) (i : c < length n) (read_p : p ≡ get_or b c p) (ne : p ≢ 18446744073709551615) (read_x : x ≡ get_or n c x) where
  p_is : p ≡ get_or b c 0
  p_is = get_or_read b c p (omega (arith, a.long)) read_p 0

  x_is : x ≡ get_or n c 0
  x_is = get_or_read n c x i read_x 0

  pub p_before : after (row_from 0 ls) p ≡ Some c
  p_before = rw p_is (in_is f n b ls a c i (λ e. ne (p_is ∙ e)))

  pub p_cell : p < 4294967296 → p < length n
  p_cell l = ⊎_elim (λ k. k) (λ k. absurd (omega (arith, k.0))) (node_is f n b ls a p c p_before)

  pub p_head : 4294967296 ≤ p → p < 4294967296 + length f
  p_head l = ⊎_elim (λ k. absurd (omega (arith, k, a.few_cells))) (λ k. k.1) (node_is f n b ls a p c p_before)

  pub x_within : x ≢ 4294967295 → x < length b
  x_within k = omega (arith, x_is, a.long, cell_within f n b ls a c i (λ e. k (x_is ∙ e)))

  pub takes_out : (f' n' b' : List ℕ) → length f' ≡ length f → length n' ≡ length n → length b' ≡ length b →
      ((y : ℕ) → next_at f' n' y ≡ cond (eqb y p) x (next_at f n y)) → ((y : ℕ) → y < length b → get_or b' y 0 ≡ cond (eqb y x) p (get_or b y 0)) →
      AreLinks f' (set n' c 4294967295) (set b' c 18446744073709551615) (without ls c)
  takes_out f' n' b' lf ln lb sn sb =
      let cn : c < length n' = omega arith in
      let e_n : length (set n' c 4294967295) ≡ length n = length-set n' c 4294967295 ∙ ln in
      let e_x : x ≡ next_at f n c = x_is ∙ sym (next_at_cell f n c (omega (arith, a.few_cells))) in
      let w : TakesOut (length n) (length f) (next_at f n) (λ y. get_or b y 0) (next_at f' (set n' c 4294967295)) (λ y. get_or (set b' c 18446744073709551615) y 0) p c = record {
        next_c = next_at_set_same f' n' c 4294967295 cn (omega (arith, a.few_cells));
        next_p = λ k. next_at_set_other f' n' c 4294967295 p k ∙ sn p ∙ cond_here p p x (next_at f n p) refl ∙ e_x;
        next_others = λ y yc yp is. next_at_set_other f' n' c 4294967295 y yc ∙ sn y ∙ cond_there y p x (next_at f n y) yp;
        before_c = get_or-set_same b' c 18446744073709551615 0 (omega (arith, a.long));
        before_next = λ y yc k l. get_or-set_other b' c y 18446744073709551615 0 yc ∙ sb y (omega (arith, a.long)) ∙ cond_here y x p (get_or b y 0) (k ∙ sym e_x);
        before_others = λ y yc k l. get_or-set_other b' c y 18446744073709551615 0 yc ∙ sb y (omega (arith, a.long)) ∙ cond_there y x p (get_or b y 0) (λ q. k (q ∙ e_x));
      } in
      let t : Threads (length n) (length f) (next_at f' (set n' c 4294967295)) (λ y. get_or (set b' c 18446744073709551615) y 0) (less (row_from 0 ls) c) =
      Threads-less (length n) (length f) (next_at f n) (λ y. get_or b y 0) (next_at f' (set n' c 4294967295)) (λ y. get_or (set b' c 18446744073709551615) y 0) (row_from 0 ls) p c a.few_cells a.once i a.threads p_before w in
      record {
        heads = lf ∙ a.heads ∙ sym (length-map ls _);
        long = length-set b' c 18446744073709551615 ∙ lb ∙ a.long ∙ sym e_n;
        few_cells = omega (arith, a.few_cells, e_n);
        few_lists = omega (arith, a.few_lists);
        once = rw (row-without ls 0 c (omega (arith, a.few_cells))) (Once-less (row_from 0 ls) c a.once);
        below = rw e_n (Below-without (length n) ls c a.below);
        threads = rw (e_n, lf, row-without ls 0 c (omega (arith, a.few_cells))) t;
      }

-- the call that puts a cell in front
module _ (f n b : List ℕ) (ls : List (List ℕ)) (c l x : ℕ) (a : AreLinks f n b ls) (i : c < length n) (j : l < length ls) (alone : without ls c ≡ ls) (read_x : x ≡ get_or f l x) where
  first_is : x ≡ get_or f l 0
  first_is = get_or_read f l x (omega (arith, a.heads)) read_x 0

  pub first_within : x ≢ 4294967295 → x < length b
  first_within k = omega (arith, first_is, a.long, head_within f n b ls a l j (λ e. k (first_is ∙ e)))

  alone_absent : c < length n → has (row_from 0 ls) c ≡ false
  alone_absent k = subst (λ w. has w c ≡ false) (sym (row-without ls 0 c (omega (arith, a.few_cells))) ∙ ap (λ w. row_from 0 w) alone) (has-less_same (row_from 0 ls) c)

  not_next : c ≢ x
  not_next k =
      false≢true (sym (alone_absent i) ∙ has-after (row_from 0 ls) (head_of l) c (link_to_cell (after (row_from 0 ls) (head_of l)) c (omega (arith, a.few_cells)) (sym (head_kept f n b ls a l j) ∙ sym first_is ∙ sym k)))

  pub puts_front : (b' : List ℕ) → length b' ≡ length b →
      ((y : ℕ) → y < length b → get_or b' y 0 ≡ cond (eqb y x) c (get_or (set b c (head_of l)) y 0)) →
      AreLinks (set f l c) (set n c x) b' (with_front ls l c)
  puts_front b' lb sb =
      let h : ℕ = head_of l in
      let e_n : length (set n c x) ≡ length n = length-set n c x in
      let e_f : length (set f l c) ≡ length f = length-set f l c in
      let lf : l < length f = omega (arith, a.heads) in
      let rc : has (row_from 0 ls) c ≡ false = alone_absent i in
      let rh : has (row_from 0 ls) h ≡ true = subst (λ w. has (row_from 0 ls) (head_of w) ≡ true) (zero-add l) (has_head ls 0 l j) in
      let hc : h ≢ c = λ k. absurd (omega (arith, k, a.few_cells)) in
      let e_x : x ≡ next_at f n h = first_is ∙ sym (next_at_head f n l) in
      let others : (y : ℕ) → y ≢ h → IsNode (length n) (length f) y → next_at (set f l c) n y ≡ next_at f n y = λ y ne is. next_at_set_head f n l c y ne in
      let w : PutsBehind (length n) (length f) (next_at f n) (λ y. get_or b y 0) (next_at (set f l c) (set n c x)) (λ y. get_or b' y 0) h c = record {
        next_h = next_at_set_other (set f l c) n c x h hc ∙ next_at_head (set f l c) n l ∙ get_or-set_same f l c 0 lf;
        next_c = next_at_set_same (set f l c) n c x i a.few_cells ∙ e_x;
        next_others = λ y yc yh is. next_at_set_other (set f l c) n c x y yc ∙ others y yh is;
        before_c = sb c (omega (arith, a.long)) ∙ cond_there c x c (get_or (set b c h) c 0) (λ k. not_next k) ∙ get_or-set_same b c h 0 (omega (arith, a.long));
        before_next = λ y yc k q. sb y (omega (arith, a.long)) ∙ cond_here y x c (get_or (set b c h) y 0) (k ∙ sym e_x);
        before_others = λ y yc k q. sb y (omega (arith, a.long)) ∙ cond_there y x c (get_or (set b c h) y 0) (λ z. k (z ∙ e_x)) ∙ get_or-set_other b c y h 0 yc;
      } in
      let t : Threads (length n) (length f) (next_at (set f l c) (set n c x)) (λ y. get_or b' y 0) (put_behind (row_from 0 ls) h c) =
      Threads-put_behind (length n) (length f) (next_at f n) (λ y. get_or b y 0) (next_at (set f l c) (set n c x)) (λ y. get_or b' y 0) (row_from 0 ls) h c a.few_cells i (inr (omega arith, omega arith)) a.threads rh rc w in
      let e_row : row_from 0 (with_front ls l c) ≡ put_behind (row_from 0 ls) h c =
      row-with_front (length n) ls 0 l c j (omega (arith, a.few_cells)) a.below ∙ ap (λ w. put_behind (row_from 0 ls) (head_of w) c) (zero-add l) in
      record {
        heads = e_f ∙ a.heads ∙ sym (length-set ls l _);
        long = lb ∙ a.long ∙ sym e_n;
        few_cells = omega (arith, a.few_cells, e_n);
        few_lists = omega (arith, a.few_lists, e_f);
        once = rw e_row (Once-put_behind (row_from 0 ls) h c rh rc a.once);
        below = rw e_n (Below-with_front (length n) ls l c i a.below);
        threads = rw (e_n, e_f, e_row) t;
      }

-- a cell that is new

new_absent : (f n b : List ℕ) (ls : List (List ℕ)) → AreLinks f n b ls → has (row_from 0 ls) (length n) ≡ false
new_absent f n b ls a = ⊎_elim
    (λ h. ⊎_elim (λ i. absurd (omega (arith, i))) (λ i. absurd (omega (arith, i.0, a.few_cells))) (in_row (length n) ls 0 (length n) a.below h))
    (λ h. h)
    (cases_Bool (has (row_from 0 ls) (length n)))

get_or_push_other : (xs : List ℕ) (v y : ℕ) → y ≢ length xs → get_or (xs ++ v ∷ []) y 0 ≡ get_or xs y 0
get_or_push_other xs v y ne = ⊎_elim
    (λ l. get_or_append_left xs (v ∷ []) 0 y l)
    (λ g. get_or_past (xs ++ v ∷ []) y 0 (omega (arith, length_push xs v)) ∙ sym (get_or_past xs y 0 g))
    (cases_lt y (length xs))

pub adds_cell : (f n b : List ℕ) (ls : List (List ℕ)) → AreLinks f n b ls → length n < 4294967295 → AreLinks f (n ++ 4294967295 ∷ []) (b ++ 18446744073709551615 ∷ []) ls
adds_cell f n b ls a few =
    let e_n : length (n ++ 4294967295 ∷ []) ≡ length n + 1 = length_push n 4294967295 in
    let t : Threads (length n + 1) (length f) (next_at f (n ++ 4294967295 ∷ [])) (λ y. get_or (b ++ 18446744073709551615 ∷ []) y 0) (row_from 0 ls) =
    Threads-more_cell (length n) (length f) (next_at f n) (λ y. get_or b y 0) (next_at f (n ++ 4294967295 ∷ [])) (λ y. get_or (b ++ 18446744073709551615 ∷ []) y 0) (row_from 0 ls) (omega arith) a.threads
    (λ y ne. ap (λ w. cond (ltb y 4294967296) w (get_or f (y - 4294967296) 0)) (get_or_push_other n 4294967295 y ne))
    (λ y ne. get_or_push_other b 18446744073709551615 y (λ e. ne (e ∙ a.long)))
    (next_at_cell f (n ++ 4294967295 ∷ []) (length n) (omega arith) ∙ get_or_push n 4294967295 0 (length n) refl)
    (get_or_push b 18446744073709551615 0 (length n) a.long)
    (new_absent f n b ls a) in
    record {
      heads = a.heads;
      long = omega (arith, e_n, length_push b 18446744073709551615, a.long);
      few_cells = omega (arith, e_n);
      few_lists = a.few_lists;
      once = a.once;
      below = rw e_n (Below-more (length n) (length n + 1) ls (omega arith) a.below);
      threads = rw e_n t;
    }

pub new_unlinked : (f n b : List ℕ) (ls : List (List ℕ)) → AreLinks f n b ls → without ls (length n) ≡ ls
new_unlinked f n b ls a = without_absent ls 0 (length n) (new_absent f n b ls a)

-- the start, and more lists

pub starts : (n : ℕ) → n ≤ 4294967295 → AreLinks [] (replicate n 4294967295) (replicate n 18446744073709551615) []
starts n few =
    let e_n : length (replicate {A = ℕ} n 4294967295) ≡ n = length-replicate n 4294967295 in
    let t : Threads n 0 (next_at [] (replicate n 4294967295)) (λ y. get_or (replicate n 18446744073709551615) y 0) [] = record {
      nexts = λ y is. ⊎_elim (λ i. next_at_cell [] (replicate n 4294967295) y (omega arith) ∙ get_or-replicate n y 4294967295 0 i) (λ i. absurd (omega (arith, i.0, i.1))) is;
      backs = λ p y e i. absurd (none-some y e);
      outs = λ y i h. get_or-replicate n y 18446744073709551615 0 i;
    } in
    record {
      heads = refl;
      long = length-replicate n 18446744073709551615 ∙ sym e_n;
      few_cells = omega (arith, e_n);
      few_lists = omega arith;
      once = tt;
      below = tt;
      threads = rw e_n t;
    }

row-append : (ms ns : List (List ℕ)) (k : ℕ) → row_from k (ms ++ ns) ≡ row_from k ms ++ row_from (k + length ms) ns
row-append [] ns k = ap (λ w. row_from w ns) (omega arith)
row-append (xs ∷ ms) ns k =
    ap (λ w. head_of k ∷ w)
    (ap (λ w. xs ++ w) (row-append ms ns (suc k) ∙ ap (λ w. row_from (suc k) ms ++ row_from w ns) (omega arith)) ∙ sym (append_assoc xs (row_from (suc k) ms) (row_from (k + suc (length ms)) ns)))

empties_from : (j k y : ℕ) → has (row_from k (replicate j [])) y ≡ true → head_of k ≤ y
empties_from zero k y h = absurd (false≢true h)
empties_from (suc j) k y h = ⊎_elim
    (λ e. omega (arith, e))
    (λ ne. omega (arith, empties_from j (suc k) y (has_tail (head_of k) (row_from (suc k) (replicate j [])) y h ne)))
    (cases_eq (head_of k) y)

Once-empties : (j k : ℕ) → Once (row_from k (replicate j []))
Once-empties zero k = tt
Once-empties (suc j) k =
    (⊎_elim (λ h. absurd (omega (arith, empties_from j (suc k) (head_of k) h))) (λ h. h) (cases_Bool (has (row_from (suc k) (replicate j [])) (head_of k))), Once-empties j (suc k))

Below-empties : (n : ℕ) (ms : List (List ℕ)) (j : ℕ) → Below n ms → Below n (ms ++ replicate j [])
Below-empties n [] zero b = tt
Below-empties n [] (suc j) b = (λ y h. absurd (false≢true h), Below-empties n [] j tt)
Below-empties n (xs ∷ ms) j b = (b.0, Below-empties n ms j b.1)

pub reaches : (f n b : List ℕ) (ls : List (List ℕ)) (k : ℕ) → AreLinks f n b ls → length f + k ≤ 4294967296 → AreLinks (f ++ replicate k 4294967295) n b (ls ++ replicate k [])
reaches f n b ls k a few =
    let f' : List ℕ = f ++ replicate k 4294967295 in
    let hs : List ℕ = row_from (length ls) (replicate k []) in
    let e_f : length f' ≡ length f + k = length-append f (replicate k 4294967295) ∙ ap (λ w. length f + w) (length-replicate k 4294967295) in
    let e_row : row_from 0 (ls ++ replicate k []) ≡ row_from 0 ls ++ hs = row-append ls (replicate k []) 0 ∙ ap (λ w. row_from 0 ls ++ row_from w (replicate k [])) (zero-add (length ls)) in
    let gone : (y : ℕ) → head_of (length ls) ≤ y → has (row_from 0 ls) y ≡ false = λ y g. ⊎_elim
    (λ h. ⊎_elim (λ i. absurd (omega (arith, i, a.few_cells))) (λ i. absurd (omega (arith, i.1))) (in_row (length n) ls 0 y a.below h))
    (λ h. h)
    (cases_Bool (has (row_from 0 ls) y)) in
    let t : Threads (length n) (length f') (next_at f' n) (λ y. get_or b y 0) (row_from 0 ls ++ hs) =
    Threads-append (length n) (length f) (length f') (next_at f n) (λ y. get_or b y 0) (next_at f' n) (row_from 0 ls) hs a.few_cells (λ y h. omega (arith, empties_from k (length ls) y h)) a.threads
    (λ y is. ⊎_elim
    (λ i. next_at_cell f' n y (omega (arith, a.few_cells)) ∙ sym (next_at_cell f n y (omega (arith, a.few_cells))))
    (λ i. ap (λ w. cond (ltb y 4294967296) (get_or n y 0) w) (get_or_append_left f (replicate k 4294967295) 0 (y - 4294967296) (omega (arith, i.0, i.1))))
    is)
    (λ y g l. (
      rw (le-ltb y 4294967296 (omega arith))
          (get_or-append_right f (replicate k 4294967295) (length f) (y - 4294967296) 0 refl (omega arith) ∙ get_or-replicate k (y - 4294967296 - length f) 4294967295 0 (omega (arith, e_f))),
      gone y (omega (arith, a.heads)),
    )) in
    record {
      heads = omega (arith, e_f, a.heads, length-append ls (replicate k []), length-replicate {A = List ℕ} k []);
      long = a.long;
      few_cells = a.few_cells;
      few_lists = omega (arith, e_f);
      once = rw e_row
          (Once-append (row_from 0 ls) hs a.once (Once-empties k (length ls))
          (λ y h. ⊎_elim (λ g. absurd (false≢true (sym (gone y (empties_from k (length ls) y g)) ∙ h))) (λ g. g) (cases_Bool (has hs y))));
      below = Below-empties (length n) ls k a.below;
      threads = rw e_row t;
    }

has_more : (x : ℕ) (xs : List ℕ) (y : ℕ) → has xs y ≡ true → has (x ∷ xs) y ≡ true
has_more x xs y h = grind (arith, nat_tests)

has_behind : (front : List ℕ) (c : ℕ) (back : List ℕ) (z : ℕ) → has back z ≡ true → has (front ++ c ∷ back) z ≡ true
has_behind [] c back z h = grind (arith, nat_tests)
has_behind (x ∷ front) c back z h = grind (arith, nat_tests, has_behind front c back z h)

pub contains_from_has : (xs : List ℕ) (c : ℕ) → has xs c ≡ true → Contains xs c
contains_from_has [] c h = absurd (false≢true h)
contains_from_has (x ∷ xs) c h = ⊎_elim
    (λ e. (0, omega arith, e))
    (λ ne. let q : Contains xs c = contains_from_has xs c (has_tail x xs c h ne) in (suc q.0, omega (arith, q.1), q.2))
    (cases_eq x c)

absent_row : (ms : List (List ℕ)) (k c : ℕ) → c < 4294967296 → IsUnlinked ms c → has (row_from k ms) c ≡ false
absent_row [] k c l u = refl
absent_row (xs ∷ ms) k c l u =
    let here : has xs c ≡ false = ⊎_elim (λ h. absurd (u 0 [] (omega arith) (contains_from_has xs c h))) (λ h. h) (cases_Bool (has xs c)) in
    let there : has (row_from (suc k) ms) c ≡ false = absent_row ms (suc k) c l (λ j d i. u (suc j) d (omega (arith, i))) in
    rw (ne_eqb (head_of k) c (λ e. absurd (omega (arith, e)))) (has-append xs (row_from (suc k) ms) c ∙ rw (here, there) refl)

-- what is read of the first and of the next cell

Below-list_at : (n : ℕ) (ms : List (List ℕ)) (l y : ℕ) → Below n ms → has (list_at ms l) y ≡ true → y < n
Below-list_at n [] l y b h = absurd (false≢true h)
Below-list_at n (xs ∷ ms) zero y b h = b.0 y h
Below-list_at n (xs ∷ ms) (suc l) y b h = Below-list_at n ms l y b.1 h

-- the answer is what the number that was read stands for
answer_is : (answer meant : Option ℕ) (number : ℕ) → IfSome answer (λ x. (x ≡ number) × (x < 4294967295)) → IfNone answer (number ≡ 4294967295) → number ≡ link_to meant → ((z : ℕ) → meant ≡ Some z → z < 4294967295) → answer ≡ meant
answer_is None None number s n e b = refl
answer_is None (Some z) number s n e b = absurd (omega (arith, n, e, b z refl))
answer_is (Some x) None number s n e b = absurd (omega (arith, s.0, s.1, e))
answer_is (Some x) (Some z) number s n e b = ap (λ w. Some w) (omega (arith, s.0, s.1, e, b z refl))

module _ (f n b : List ℕ) (ls : List (List ℕ)) (a : AreLinks f n b ls) where
  pub first_answer : (l x : ℕ) (answer : Option ℕ) → l < length ls → x ≡ get_or f l x → IfSome answer (λ c. (c ≡ x) × (c < 4294967295)) → IfNone answer (x ≡ 4294967295) → answer ≡ slice_get (list_at ls l) 0
  first_answer l x answer i read s none =
      answer_is answer (slice_get (list_at ls l) 0) x s none
      (get_or_read f l x (omega (arith, a.heads)) read 0 ∙ head_kept f n b ls a l i
      ∙ ap (λ w. link_to (after (row_from 0 ls) (head_of w))) (sym (zero-add l))
      ∙ head_link (after (row_from 0 ls)) ls 0 l (Agrees-after (row_from 0 ls) a.once) i)
      (λ z e. omega (arith, Below-list_at (length n) ls l z a.below (has-first (list_at ls l) z e), a.few_cells))

  pub first_known : (l x : ℕ) (answer : Option ℕ) → l < length ls → x ≡ get_or f l x → IfSome answer (λ c. (c ≡ x) × (c < 4294967295)) → IfSome answer (λ c. c < length n)
  first_known l x None i read s = tt
  first_known l x (Some c) i read s =
      let e : x ≡ get_or f l 0 = get_or_read f l x (omega (arith, a.heads)) read 0 in
      omega (arith, s.0, e, head_within f n b ls a l i (λ k. absurd (omega (arith, s.0, s.1, e, k))))

  pub next_known : (c x : ℕ) (answer : Option ℕ) → c < length n → x ≡ get_or n c x → IfSome answer (λ y. (y ≡ x) × (y < 4294967295)) → IfSome answer (λ y. y < length n)
  next_known c x None i read s = tt
  next_known c x (Some y) i read s =
      let e : x ≡ get_or n c 0 = get_or_read n c x i read 0 in
      omega (arith, s.0, e, cell_within f n b ls a c i (λ k. absurd (omega (arith, s.0, s.1, e, k))))

  module _ (c x : ℕ) (answer : Option ℕ) (i : c < length n) (read : x ≡ get_or n c x) (some : IfSome answer (λ y. (y ≡ x) × (y < 4294967295))) (none : IfNone answer (x ≡ 4294967295)) where
    kept : x ≡ link_to (after (row_from 0 ls) c)
    kept = get_or_read n c x i read 0 ∙ cell_kept f n b ls a c i

    pub next_answer : (l : ℕ) (front back : List ℕ) → list_at ls l ≡ front ++ c ∷ back → answer ≡ slice_get back 0
    next_answer l front back e =
        answer_is answer (slice_get back 0) x some none
        (kept ∙ cell_next (after (row_from 0 ls)) ls 0 l front c back (Agrees-after (row_from 0 ls) a.once) e)
        (λ z q. omega (arith, Below-list_at (length n) ls l z a.below (rw e (has_behind front c back z (has-first back z q))), a.few_cells))

    pub next_unlinked : IsUnlinked ls c → answer ≡ None
    next_unlinked u =
        answer_is answer None x some none
        (kept ∙ ap link_to (after_absent (row_from 0 ls) c (absent_row ls 0 c (omega (arith, a.few_cells)) u)))
        (λ z q. absurd (none-some z q))

-- each cell is known, and stands once

has_concat : (ms : List (List ℕ)) (k y : ℕ) → has (concat ms) y ≡ true → has (row_from k ms) y ≡ true
has_concat [] k y h = absurd (false≢true h)
has_concat (xs ∷ ms) k y h =
    has_more (head_of k) (xs ++ row_from (suc k) ms) y
    (⊎_elim
    (λ i. has-append xs (row_from (suc k) ms) y ∙ rw i refl)
    (λ i. has-append xs (row_from (suc k) ms) y ∙ rw (i, has_concat ms (suc k) y (sym (rw i at (has-append xs (concat ms) y)) ∙ h)) refl)
    (cases_Bool (has xs y)))

Once-concat : (ms : List (List ℕ)) (k : ℕ) → Once (row_from k ms) → Once (concat ms)
Once-concat [] k o = tt
Once-concat (xs ∷ ms) k o =
    Once-append xs (concat ms) (Once-append_left xs (row_from (suc k) ms) o.1) (Once-concat ms (suc k) (Once-append_right xs (row_from (suc k) ms) o.1))
    (λ y h. ⊎_elim
    (λ i. absurd (false≢true (sym (apart-append xs (row_from (suc k) ms) y o.1 (has_concat ms (suc k) y i)) ∙ h)))
    (λ i. i)
    (cases_Bool (has (concat ms) y)))

Below-concat : (n : ℕ) (ms : List (List ℕ)) (y : ℕ) → Below n ms → has (concat ms) y ≡ true → y < n
Below-concat n [] y b h = absurd (false≢true h)
Below-concat n (xs ∷ ms) y b h = ⊎_elim
    (λ i. b.0 y i)
    (λ i. Below-concat n ms y b.1 (sym (rw i at (has-append xs (concat ms) y)) ∙ h))
    (cases_Bool (has xs y))

pub has_index : (xs : List ℕ) (k d : ℕ) → k < length xs → has xs (get_or xs k d) ≡ true
has_index [] k d l = absurd (omega (arith, l))
has_index (x ∷ xs) zero d l = rw (eq-eqb x x refl) refl
has_index (x ∷ xs) (suc k) d l = has_more x xs (get_or xs k d) (has_index xs k d (omega (arith, l)))

pub apart : (f n b : List ℕ) (ls : List (List ℕ)) → AreLinks f n b ls → AreApart ls (length n)
apart f n b ls a = record {
  known = λ k d l. Below-concat (length n) ls (get_or (concat ls) k d) a.below (has_index (concat ls) k d l);
  once = IsDistinct-from_Once (concat ls) (Once-concat ls 0 a.once);
}
