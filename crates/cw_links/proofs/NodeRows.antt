-- A row of nodes, each once: what comes after a node, a node taken out, and a node put behind another.
use Rattle.std.proofs.Common.{◌≡◌, ◌≢◌, ℕ, true, false, cond, not, eqb, List, [], ◌∷◌, ◌++◌, Option, Some, None, refl, sym, ap, ◌∙◌, arith, ⊎_elim}
use Rattle.std.specs.List.{filter, slice_get}
use Rattle.std.proofs.lemmas.Bool.{eq-eqb, ne_eqb, cases_eq, false≢true}
use Rattle.std.proofs.lemmas.Bool.Decides.{nat_tests}
use Rattle.cw_links.specs.Rows.{has, after, Once}
use Rattle.std.proofs.lemmas.Option.{none-some, same_Some}

-- the row without c
abbrev pub less : List ℕ → ℕ → List ℕ
less xs c = filter (λ x. not (eqb x c)) xs

-- has and less

pub has-less_same : (xs : List ℕ) (c : ℕ) → has (less xs c) c ≡ false
has-less_same [] c = refl
has-less_same (x ∷ xs) c = grind (arith, nat_tests, has-less_same xs c)

pub has-less_other : (xs : List ℕ) (c y : ℕ) → y ≢ c → has (less xs c) y ≡ has xs y
has-less_other [] c y ne = refl
has-less_other (x ∷ xs) c y ne = grind (arith, nat_tests, has-less_other xs c y ne)

pub has-less_within : (xs : List ℕ) (c y : ℕ) → has (less xs c) y ≡ true → has xs y ≡ true
has-less_within [] c y h = h
has-less_within (x ∷ xs) c y h = grind (arith, nat_tests, has-less_within xs c y)

pub less_absent : (xs : List ℕ) (c : ℕ) → has xs c ≡ false → less xs c ≡ xs
less_absent [] c h = refl
less_absent (x ∷ xs) c h = grind (arith, nat_tests, less_absent xs c)

pub Once-less : (xs : List ℕ) (c : ℕ) → Once xs → Once (less xs c)
Once-less [] c h = tt
Once-less (x ∷ xs) c h =
    ⊎_elim
    (λ e. rw (eq-eqb x c e) (Once-less xs c h.1))
    (λ ne. rw (ne_eqb x c ne) (has-less_other xs c x ne ∙ h.0, Once-less xs c h.1))
    (cases_eq x c)

-- after

pub after_absent : (xs : List ℕ) (y : ℕ) → has xs y ≡ false → after xs y ≡ None
after_absent [] y h = refl
after_absent (x ∷ xs) y h = grind (arith, nat_tests, after_absent xs y)

pub has-first : (xs : List ℕ) (z : ℕ) → slice_get xs 0 ≡ Some z → has xs z ≡ true
has-first [] z e = absurd (none-some z e)
has-first (x ∷ xs) z e = rw (eq-eqb x z (same_Some x z e)) refl

pub has-after : (xs : List ℕ) (y z : ℕ) → after xs y ≡ Some z → has xs z ≡ true
has-after [] y z e = absurd (none-some z e)
has-after (x ∷ xs) y z e = grind (arith, nat_tests, has-after xs y z, has-first xs z)

pub has-before : (xs : List ℕ) (y z : ℕ) → after xs y ≡ Some z → has xs y ≡ true
has-before [] y z e = absurd (none-some z e)
has-before (x ∷ xs) y z e = grind (arith, nat_tests, has-before xs y z)

-- a row less one node

pub first-less : (xs : List ℕ) (c z : ℕ) → slice_get xs 0 ≡ Some z → z ≢ c → slice_get (less xs c) 0 ≡ Some z
first-less [] c z e ne = absurd (none-some z e)
first-less (x ∷ xs) c z e ne = grind (arith, nat_tests)

pub after-less_at : (xs : List ℕ) (c y : ℕ) → Once xs → y ≢ c → after xs y ≡ Some c → after (less xs c) y ≡ after xs c
after-less_at [] c y o ne e = absurd (none-some c e)
after-less_at (x ∷ []) c y o ne e = grind (arith, nat_tests)
after-less_at (x ∷ z ∷ zs) c y o ne e =
    grind (arith, nat_tests, o.0, o.1.0, has-after (z ∷ zs) y c, less_absent zs c, less_absent (z ∷ zs) c, after-less_at (z ∷ zs) c y o.1 ne)

pub after-less_other : (xs : List ℕ) (c y : ℕ) → Once xs → y ≢ c → after xs y ≢ Some c → after (less xs c) y ≡ after xs y
after-less_other [] c y o ne e = refl
after-less_other (x ∷ []) c y o ne e = grind (arith, nat_tests)
after-less_other (x ∷ z ∷ zs) c y o ne e =
    grind (arith, nat_tests, o.0, o.1.0, has-after (z ∷ zs) y c, less_absent (z ∷ zs) c, after-less_other (z ∷ zs) c y o.1 ne)

pub after-less_same : (xs : List ℕ) (c : ℕ) → after (less xs c) c ≡ None
after-less_same xs c = after_absent (less xs c) c (has-less_same xs c)

-- what stands before a node that is not the first
after_skip : (x p : ℕ) (xs : List ℕ) (c : ℕ) → has xs x ≡ false → after xs p ≡ Some c → after (x ∷ xs) p ≡ Some c
after_skip x p xs c a e = grind (arith, nat_tests, has-before xs p c)

after_first : (x z : ℕ) (xs : List ℕ) (c : ℕ) → z ≡ c → after (x ∷ z ∷ xs) x ≡ Some c
after_first x z xs c e = grind (arith, nat_tests)

pub has_tail : (z : ℕ) (zs : List ℕ) (c : ℕ) → has (z ∷ zs) c ≡ true → z ≢ c → has zs c ≡ true
has_tail z zs c h ne = grind (arith, nat_tests)

some_other : (z c : ℕ) → z ≢ c → Some z ≢ Some c
some_other z c ne e = ne (same_Some z c e)

pub node_before : (xs : List ℕ) (c : ℕ) → Once xs → has xs c ≡ true → slice_get xs 0 ≢ Some c → (p : ℕ) × (after xs p ≡ Some c)
node_before [] c o h ne = absurd (false≢true h)
node_before (x ∷ []) c o h ne = absurd (grind (arith, nat_tests))
node_before (x ∷ z ∷ zs) c o h ne =
    ⊎_elim
    (λ e. (x, after_first x z zs c e))
    (λ zc.
    let q : (p : ℕ) × (after (z ∷ zs) p ≡ Some c) = node_before (z ∷ zs) c o.1 (has_tail x (z ∷ zs) c h (λ e. ne (ap (λ w. Some w) e))) (some_other z c zc) in
    (q.0, after_skip x q.0 (z ∷ zs) c o.0 q.1))
    (cases_eq z c)

-- a node put right behind h

abbrev pub put_behind : List ℕ → ℕ → ℕ → List ℕ
put_behind [] h c = []
put_behind (x ∷ xs) h c = x ∷ cond (eqb x h) (c ∷ xs) (put_behind xs h c)

pub has-put_behind : (xs : List ℕ) (h c y : ℕ) → has xs h ≡ true → has (put_behind xs h c) y ≡ cond (eqb c y) true (has xs y)
has-put_behind [] h c y i = absurd (false≢true i)
has-put_behind (x ∷ xs) h c y i = grind (arith, nat_tests, has-put_behind xs h c y)

pub absent_tail : (x : ℕ) (xs : List ℕ) (c : ℕ) → has (x ∷ xs) c ≡ false → has xs c ≡ false
absent_tail x xs c a = grind (arith, nat_tests)

Once_behind_here : (x c : ℕ) (xs : List ℕ) → has (x ∷ xs) c ≡ false → Once (x ∷ xs) → Once (x ∷ c ∷ xs)
Once_behind_here x c xs a o = (grind (arith, nat_tests, o.0), (absent_tail x xs c a, o.1))

Once_behind_there : (x h c : ℕ) (xs : List ℕ) → has (x ∷ xs) h ≡ true → has (x ∷ xs) c ≡ false → Once (x ∷ xs) → x ≢ h → has (put_behind xs h c) x ≡ false
Once_behind_there x h c xs i a o ne = grind (arith, nat_tests, o.0, has-put_behind xs h c x, has_tail x xs h i ne)

pub Once-put_behind : (xs : List ℕ) (h c : ℕ) → has xs h ≡ true → has xs c ≡ false → Once xs → Once (put_behind xs h c)
Once-put_behind [] h c i a o = tt
Once-put_behind (x ∷ xs) h c i a o =
    ⊎_elim
    (λ e. rw (eq-eqb x h e) (Once_behind_here x c xs a o))
    (λ ne. rw (ne_eqb x h ne) (Once_behind_there x h c xs i a o ne, Once-put_behind xs h c (has_tail x xs h i ne) (absent_tail x xs c a) o.1))
    (cases_eq x h)

pub after-put_behind_at : (xs : List ℕ) (h c : ℕ) → has xs h ≡ true → after (put_behind xs h c) h ≡ Some c
after-put_behind_at [] h c i = absurd (false≢true i)
after-put_behind_at (x ∷ xs) h c i = grind (arith, nat_tests, after-put_behind_at xs h c)

pub after-put_behind_new : (xs : List ℕ) (h c : ℕ) → has xs h ≡ true → has xs c ≡ false → after (put_behind xs h c) c ≡ after xs h
after-put_behind_new [] h c i a = absurd (false≢true i)
after-put_behind_new (x ∷ xs) h c i a = grind (arith, nat_tests, after-put_behind_new xs h c)

pub after-put_behind_other : (xs : List ℕ) (h c y : ℕ) → y ≢ h → y ≢ c → after (put_behind xs h c) y ≡ after xs y
after-put_behind_other [] h c y nh nc = refl
after-put_behind_other (x ∷ []) h c y nh nc = grind (arith, nat_tests)
after-put_behind_other (x ∷ z ∷ zs) h c y nh nc = grind (arith, nat_tests, after-put_behind_other (z ∷ zs) h c y nh nc)

-- rows in a row

pub has-append : (xs ys : List ℕ) (y : ℕ) → has (xs ++ ys) y ≡ cond (has xs y) true (has ys y)
has-append [] ys y = refl
has-append (x ∷ xs) ys y = grind (arith, nat_tests, has-append xs ys y)

pub Once-append_left : (xs ys : List ℕ) → Once (xs ++ ys) → Once xs
Once-append_left [] ys o = tt
Once-append_left (x ∷ xs) ys o = (grind (arith, o.0, has-append xs ys x), Once-append_left xs ys o.1)

pub Once-append_right : (xs ys : List ℕ) → Once (xs ++ ys) → Once ys
Once-append_right [] ys o = o
Once-append_right (x ∷ xs) ys o = Once-append_right xs ys o.1

pub apart-append : (xs ys : List ℕ) (y : ℕ) → Once (xs ++ ys) → has ys y ≡ true → has xs y ≡ false
apart-append [] ys y o h = refl
apart-append (x ∷ xs) ys y o h = grind (arith, nat_tests, o.0, has-append xs ys x, apart-append xs ys y o.1 h)

pub Once-append : (xs ys : List ℕ) → Once xs → Once ys → ((y : ℕ) → has xs y ≡ true → has ys y ≡ false) → Once (xs ++ ys)
Once-append [] ys o q apart = q
Once-append (x ∷ xs) ys o q apart = (
  grind (arith, nat_tests, o.0, has-append xs ys x, apart x),
  Once-append xs ys o.1 q (λ y h. apart y (grind (arith, nat_tests, h))),
)

pub put_behind-append_right : (xs ys : List ℕ) (h c : ℕ) → has xs h ≡ false → put_behind (xs ++ ys) h c ≡ xs ++ put_behind ys h c
put_behind-append_right [] ys h c a = refl
put_behind-append_right (x ∷ xs) ys h c a = grind (arith, nat_tests, put_behind-append_right xs ys h c)

pub not_behind_itself : (xs : List ℕ) (y : ℕ) → Once xs → after xs y ≢ Some y
not_behind_itself [] y o e = none-some y e
not_behind_itself (x ∷ xs) y o e = grind (arith, nat_tests, o.0, has-first xs y, has-after xs y y, not_behind_itself xs y o.1)

-- a function that gives of each node in the row what comes right after it
abbrev pub Agrees : (ℕ → Option ℕ) → List ℕ → Type 0
Agrees A [] = Unit {0}
Agrees A (y ∷ ys) = (A y ≡ slice_get ys 0) × Agrees A ys

pub Agrees-weaken : (A B : ℕ → Option ℕ) (xs : List ℕ) → ((y : ℕ) → has xs y ≡ true → A y ≡ B y) → Agrees A xs → Agrees B xs
Agrees-weaken A B [] same g = tt
Agrees-weaken A B (x ∷ xs) same g =
    (sym (same x (grind (arith, nat_tests))) ∙ g.0, Agrees-weaken A B xs (λ y h. same y (grind (arith, nat_tests, h))) g.1)

pub Agrees-after : (xs : List ℕ) → Once xs → Agrees (after xs) xs
Agrees-after [] o = tt
Agrees-after (x ∷ xs) o =
    (grind (arith, nat_tests), Agrees-weaken (after xs) (after (x ∷ xs)) xs (λ y h. grind (arith, nat_tests, o.0, h)) (Agrees-after xs o.1))

pub Agrees-append_right : (A : ℕ → Option ℕ) (xs ys : List ℕ) → Agrees A (xs ++ ys) → Agrees A ys
Agrees-append_right A [] ys g = g
Agrees-append_right A (x ∷ xs) ys g = Agrees-append_right A xs ys g.1
