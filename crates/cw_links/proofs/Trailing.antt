-- Lists that grow at their front are links: what would be before each cell is made up.
use Rattle.std.proofs.Common.{◌≡◌, ◌≢◌, ℕ, ◌+◌, ◌<◌, ◌≤◌, Bool, true, false, cond, eqb, List, [], ◌∷◌, ◌++◌, length, get_or, refl, sym, ap, ◌∙◌, subst, arith, inl, inr, map, set, replicate}
use Rattle.std.proofs.lemmas.Bool.{eq-eqb, ne_eqb, cases_eq}
use Rattle.std.proofs.lemmas.List.{length-set, get_or-set_same, get_or-set_other, length_push, get_or_default, get_or_read, get_or-map, length-map, map-append}
use Rattle.std.proofs.Math.Seq.{set-append_seam}
use Rattle.cw_links.specs.Lists.{with_front}
use Rattle.cw_links.specs.Rows.{AreLinks, head_of, lists_of}
use Rattle.cw_links.specs.Trails.{AreTrails}
use Rattle.cw_links.proofs.Moves.{adds_cell, new_unlinked, puts_front, first_within, linked, lists_are, starts, reaches}

-- a number before a cell is set, if there is a cell
abbrev set_before : List ℕ → ℕ → ℕ → List ℕ
set_before b x v = cond (eqb x 4294967295) b (set b x v)

long_before : (b : List ℕ) (x v : ℕ) (is : Bool) → length (cond is b (set b x v)) ≡ length b
long_before b x v true = refl
long_before b x v false = length-set b x v

before_at : (b : List ℕ) (x v y : ℕ) → (x ≢ 4294967295 → x < length b) → length b ≤ 4294967295 → y < length b → get_or (set_before b x v) y 0 ≡ cond (eqb y x) v (get_or b y 0)
before_at b x v y within few lt = elim (cases_eq x 4294967295) [
  | inl none ↦
      rw (eq-eqb x 4294967295 none, ne_eqb y x (λ e. absurd (omega (arith, e, none, few, lt)))) refl
  | inr some ↦ elim (cases_eq y x) [
    | inl same ↦ rw (ne_eqb x 4294967295 some, eq-eqb y x same, same) (get_or-set_same b x v 0 (within some))
    | inr other ↦ rw (ne_eqb x 4294967295 some, ne_eqb y x other) (get_or-set_other b x y v 0 other)
  ]
]

-- no cells yet
pub no_cells : (lists : ℕ) → lists ≤ 4294967296 → AreLinks (replicate lists 4294967295) [] [] (replicate lists [])
no_cells lists few = reaches [] [] [] [] lists (starts 0 (omega arith)) (omega (arith, few))

pub as_trails : (first next before : List ℕ) (lists : List (List ℕ)) → AreLinks first next before lists → AreTrails first next
as_trails first next before lists are = record { before = before; links = linked first next before lists are }

-- a cell more in front of a list
module _ (first next : List ℕ) (list : ℕ) (are : AreTrails first next) (within : list < length (lists_of first next)) (few : length next < 4294967295) where
  one_more : AreLinks first (next ++ 4294967295 ∷ []) (are.before ++ 18446744073709551615 ∷ []) (lists_of first next)
  one_more = adds_cell first next are.before (lists_of first next) are.links few

  abbrev new_before : List ℕ
  new_before = set_before (set (are.before ++ 18446744073709551615 ∷ []) (length next) (head_of list)) (get_or first list 0) (length next)

  in_front : AreLinks (set first list (length next)) (next ++ get_or first list 0 ∷ []) new_before (with_front (lists_of first next) list (length next))
  in_front =
      let ls = lists_of first next in
      let more = next ++ 4294967295 ∷ [] in
      let back = are.before ++ 18446744073709551615 ∷ [] in
      let c = length next in
      let x = get_or first list 0 in
      let long : length more ≡ c + 1 = length_push next 4294967295 in
      let inside : c < length more = omega (arith, long) in
      let alone = new_unlinked first next are.before ls are.links in
      let read : x ≡ get_or first list x = get_or_default first list 0 x (omega (arith, within, are.links.heads)) in
      let as_long : length (set back c (head_of list)) ≡ length back = length-set back c (head_of list) in
      let known = first_within first more back ls c list x one_more inside within alone read in
      let all : length back ≤ 4294967295 = omega (arith, one_more.long, one_more.few_cells) in
      subst (λ (n : List ℕ). AreLinks (set first list c) n new_before (with_front ls list c)) (set-append_seam next 4294967295 [] x)
      (puts_front first more back ls c list x one_more inside within alone read new_before
      (long_before (set back c (head_of list)) x c (eqb x 4294967295) ∙ as_long)
      (λ y lt. before_at (set back c (head_of list)) x c y (λ some. omega (arith, as_long, known some)) (omega (arith, as_long, all)) (omega (arith, as_long, lt))))

  pub front_trails : AreTrails (set first list (length next)) (next ++ get_or first list 0 ∷ [])
  front_trails = as_trails (set first list (length next)) (next ++ get_or first list 0 ∷ []) new_before (with_front (lists_of first next) list (length next)) in_front

  pub front_lists : lists_of (set first list (length next)) (next ++ get_or first list 0 ∷ []) ≡ with_front (lists_of first next) list (length next)
  front_lists = lists_are (set first list (length next)) (next ++ get_or first list 0 ∷ []) new_before (with_front (lists_of first next) list (length next)) in_front

-- what is read of a cell is read of the map of all
pub read_of : {A B : Type 0} (f : A → B) (xs : List A) (i : ℕ) (x : A) → i < length xs → x ≡ get_or xs i x → f x ≡ get_or (map f xs) i (f x)
read_of f xs i x lt read = ap f read ∙ sym (get_or-map f xs i x (f x) lt)

-- what is kept of cells that are something else besides
module _ {A : Type 0} (f : A → ℕ) (first : List ℕ) (cells : List A) where
  -- no cells yet
  module _ (lists : ℕ) (few : lists ≤ 4294967296) (firsts : first ≡ replicate lists 4294967295) (none : cells ≡ []) where
    pub made_trails : AreTrails first (map f cells)
    made_trails = rw firsts (rw none (as_trails (replicate lists 4294967295) [] [] (replicate lists []) (no_cells lists few)))

    pub made_lists : lists_of first (map f cells) ≡ replicate lists []
    made_lists = rw firsts (rw none (lists_are (replicate lists 4294967295) [] [] (replicate lists []) (no_cells lists few)))

  -- a cell more, in front of a list
  module _ (new : List A) (cell : A) (list n : ℕ) (are : AreTrails first (map f cells)) (within : list < length (lists_of first (map f cells))) (few : length cells < 4294967295)
      (number : n ≡ length cells) (pushed : new ≡ cells ++ cell ∷ []) (before : f cell ≡ get_or first list (f cell)) where
    last : length (map f cells) ≡ n
    last = length-map cells f ∙ sym number

    longer : map f cells ++ get_or first list 0 ∷ [] ≡ map f new
    longer =
        ap (λ (y : ℕ). map f cells ++ y ∷ []) (sym (get_or_read first list (f cell) (omega (arith, within, are.links.heads)) before 0))
        ∙ sym (ap (map f) pushed ∙ map-append f cells (cell ∷ []))

    small : length (map f cells) < 4294967295
    small = omega (arith, length-map cells f, few)

    pub pushed_trails : AreTrails (set first list n) (map f new)
    pushed_trails =
        subst (λ (k : ℕ). AreTrails (set first list k) (map f new)) last
        (subst (λ (ns : List ℕ). AreTrails (set first list (length (map f cells))) ns) longer (front_trails first (map f cells) list are within small))

    pub pushed_lists : lists_of (set first list n) (map f new) ≡ with_front (lists_of first (map f cells)) list n
    pushed_lists =
        subst (λ (k : ℕ). lists_of (set first list k) (map f new) ≡ with_front (lists_of first (map f cells)) list k) last
        (subst (λ (ns : List ℕ). lists_of (set first list (length (map f cells))) ns ≡ with_front (lists_of first (map f cells)) list (length (map f cells))) longer
        (front_lists first (map f cells) list are within small))
