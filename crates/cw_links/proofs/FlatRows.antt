-- Rows that stand one behind the other: one is read, one more is put behind them, and what stands in them is what stood in lists.
use Rattle.std.proofs.Common.{◌≡◌, ℕ, zero, suc, ◌+◌, ◌-◌, ◌<◌, ◌≤◌, List, [], ◌∷◌, ◌++◌, Option, None, Some, map, take, drop, length, get_or}
use Rattle.std.proofs.Common.{refl, sym, ap, ap₂, ◌∙◌, subst, arith, inl, inr}
use Rattle.std.specs.Prelude.{slice_get, slice_index, slice_range, option_map, Contains}
use Rattle.std.specs.List.{range_with_len}
use Rattle.std.proofs.lemmas.Bool.{cases_lt}
use Rattle.std.proofs.lemmas.List.{length-append, length-drop, length-map, length_push, get_or_append_left, get_or_push, get_or_past, drop-append-le, drop_at, take-append-le, take_all}
use Rattle.std.proofs.lemmas.List.{append-nil, append_assoc, map_push, map_more}
use Rattle.std.proofs.lemmas.List.FromFn.{length-map-range_with_len, get_or-map-range_with_len, map-range_with_len_more, fill_by_all}
use Rattle.std.proofs.lemmas.Option.{none-some, same_Some, slice_get-map, slice_get-get_or}
use Rattle.cw_lemmas.proofs.Lists.{get_contains}
use Rattle.cw_links.specs.Lists.{Chained, list_at}
use Rattle.cw_links.specs.Flat.{row_of, rows_of, AreFlat, row_at, HasValues, AreRowsOf, AreRowsTo, PushesList, IsWalked}

-- Reading.

pub length-rows : {T : Type 0} (values : List T) (firsts : List ℕ) → length (rows_of values firsts) ≡ length firsts - 1
length-rows values firsts = length-map-range_with_len (row_of values firsts) 0 (length firsts - 1)

pub row_is : {T : Type 0} (values : List T) (firsts : List ℕ) (k : ℕ) → k + 1 < length firsts → row_at (rows_of values firsts) k ≡ row_of values firsts k
row_is values firsts k lt = get_or-map-range_with_len (row_of values firsts) 0 (length firsts - 1) k k [] (omega (arith, lt)) (omega arith)

-- the rows of a value, where the vectors are read as slices
module _ {T : Type 0} (values vs : List T) (firsts fs : List ℕ) (rows : List (List T)) (number : ℕ) (is : vs ≡ values) (are : fs ≡ firsts) (view : rows_of values firsts ≡ rows) where
  pub flat_still : AreFlat values firsts → AreFlat vs fs
  flat_still flat = subst (λ (xs : List T). AreFlat xs fs) (sym is) (subst (λ (ns : List ℕ). AreFlat values ns) (sym are) flat)

  module _ (lt : number < length rows) where
    inside : number + 1 < length firsts
    inside =
        let many = ap (λ (xs : List (List T)). length xs) view in
        let long = length-rows values firsts in
        omega (arith, lt, many, long)

    pub row_within : number + 1 < length fs
    row_within = subst (λ (ns : List ℕ). number + 1 < length ns) (sym are) inside

    pub row_read : (row : List T) → row ≡ row_of vs fs number → row ≡ row_at rows number
    row_read row read =
        read ∙ ap₂ (λ (xs : List T) (ns : List ℕ). row_of xs ns number) is are ∙ sym (row_is values firsts number inside) ∙ ap (λ (xs : List (List T)). row_at xs number) view

-- A row more.

-- a part stays where values come behind it
part_stays : {T : Type 0} (values row : List T) (a b : ℕ) → a ≤ b → b ≤ length values → slice_range (values ++ row) a b ≡ slice_range values a b
part_stays {T} values row a b le within =
    ap (λ (vs : List T). take (b - a) vs) (drop-append-le a values row (omega (arith, le, within)))
    ∙ take-append-le (b - a) (drop a values) row (let long = length-drop a values in omega (arith, long, le, within))

-- what comes behind them is a part
last_part : {T : Type 0} (values row : List T) → slice_range (values ++ row) (length values) (length (values ++ row)) ≡ row
last_part {T} values row =
    ap (λ (vs : List T). take (length (values ++ row) - length values) vs) (drop_at values row (length values) refl)
    ∙ take_all (length (values ++ row) - length values) row (let long = length-append values row in omega (arith, long))

module _ {T : Type 0} (values row : List T) (firsts : List ℕ) (many : ℕ) (flat : AreFlat values firsts) (long : length firsts ≡ many + 1) (last : slice_index firsts many ≡ length values) where
  abbrev End : ℕ
  End = length (values ++ row)

  abbrev More : List ℕ
  More = firsts ++ End ∷ []

  grows : length values ≤ End
  grows = let e = length-append values row in omega (arith, e)

  long_more : length More ≡ many + 2
  long_more = let e = length_push firsts End in omega (arith, e, long)

  kept : (k : ℕ) → k < many + 1 → slice_index More k ≡ slice_index firsts k
  kept k lt = get_or_append_left firsts (End ∷ []) 0 k (omega (arith, lt, long))

  ends : slice_index More (many + 1) ≡ End
  ends = get_or_push firsts End 0 (many + 1) long

  flat_more : AreFlat (values ++ row) More
  flat_more = record {
    some = omega (arith, long_more);
    rise = λ k lt. elim (cases_lt k many) [
      | inl before ↦
          let le = flat.rise k (omega (arith, before, long)) in
          let here = kept k (omega (arith, before)) in
          let next = kept (k + 1) (omega (arith, before)) in
          omega (arith, le, here, next)
      | inr after ↦
          let e : k ≡ many = omega (arith, lt, long_more, after) in
          let here : slice_index More k ≡ length values = ap (λ (y : ℕ). slice_index More y) e ∙ kept many (omega arith) ∙ last in
          let next : slice_index More (k + 1) ≡ End = ap (λ (y : ℕ). slice_index More (y + 1)) e ∙ ends in
          omega (arith, here, next, grows)
    ];
    within = λ k. elim (cases_lt k (many + 1)) [
      | inl before ↦
          let le = flat.within k in
          let here = kept k before in
          omega (arith, le, here, grows)
      | inr after ↦ elim (cases_lt (many + 1) k) [
        | inl past ↦ let none : slice_index More k ≡ 0 = get_or_past More k 0 (omega (arith, past, long_more)) in omega (arith, none)
        | inr le ↦
            let e : k ≡ many + 1 = omega (arith, after, le) in
            let here : slice_index More k ≡ End = ap (λ (y : ℕ). slice_index More y) e ∙ ends in
            omega (arith, here)
      ]
    ];
  }

  row_kept : (k : ℕ) → k < many → row_of (values ++ row) More k ≡ row_of values firsts k
  row_kept k lt =
      let here = kept k (omega (arith, lt)) in
      let next = kept (k + 1) (omega (arith, lt)) in
      ap₂ (λ (a b : ℕ). slice_range (values ++ row) a b) here next
      ∙ part_stays values row (slice_index firsts k) (slice_index firsts (k + 1)) (flat.rise k (omega (arith, lt, long))) (flat.within (k + 1))

  row_last : row_of (values ++ row) More many ≡ row
  row_last =
      let here : slice_index More many ≡ length values = kept many (omega arith) ∙ last in
      ap₂ (λ (a b : ℕ). slice_range (values ++ row) a b) here ends ∙ last_part values row

  rows_more : rows_of (values ++ row) More ≡ rows_of values firsts ++ row ∷ []
  rows_more =
      let f = row_of (values ++ row) More in
      let old : length firsts - 1 ≡ many = omega (arith, long) in
      let new : length More - 1 ≡ many + 1 = omega (arith, long_more) in
      let before : map f (range_with_len 0 many) ≡ map (row_of values firsts) (range_with_len 0 many)
      = fill_by_all (row_of values firsts) (map f (range_with_len 0 many)) many [] (length-map-range_with_len f 0 many)
      (λ k lt. get_or-map-range_with_len f 0 many k k [] lt (omega arith) ∙ row_kept k lt) in
      ap (λ (n : ℕ). map f (range_with_len 0 n)) new
      ∙ map-range_with_len_more f 0 many many (omega arith)
      ∙ ap₂ (λ (rows : List (List T)) (one : List T). rows ++ one ∷ []) (before ∙ ap (λ (n : ℕ). map (row_of values firsts) (range_with_len 0 n)) (sym old)) row_last

module _ {T : Type 0} (chains : Chained T) where
  -- no list is a row yet
  pub no_rows : (values : List T) (firsts : List ℕ) → values ≡ [] → firsts ≡ 0 ∷ [] → AreRowsTo chains values firsts 0
  no_rows values firsts none one =
      subst (λ (vs : List T). AreRowsTo chains vs firsts 0) (sym none) (subst (λ (fs : List ℕ). AreRowsTo chains [] fs 0) (sym one) empty)
    where
      zeros : (k : ℕ) → slice_index (0 ∷ []) k ≡ 0
      zeros zero = refl
      zeros (suc k) = refl

      empty : AreRowsTo chains [] (0 ∷ []) 0
      empty = record {
        flat = record { some = omega arith; rise = λ k lt. absurd (omega (arith, lt)); within = λ k. let e = zeros k in omega (arith, e) };
        long = refl;
        last = refl;
        rows = refl;
      }

  -- one list more is
  pub row_more : (values new : List T) (firsts next : List ℕ) (many past : ℕ) → many < length chains.lists → AreRowsTo chains values firsts many → PushesList chains many values new
      → past ≡ length new → next ≡ firsts ++ past ∷ [] → AreRowsTo chains new next (many + 1)
  row_more values new firsts next many past lt are pushes is grown =
      let row = pushes.0 in
      let stop : past ≡ length (values ++ row) = is ∙ ap (λ (vs : List T). length vs) pushes.1 in
      let more : next ≡ firsts ++ length (values ++ row) ∷ [] = grown ∙ ap (λ (n : ℕ). firsts ++ n ∷ []) stop in
      subst (λ (vs : List T). AreRowsTo chains vs next (many + 1)) (sym pushes.1)
      (subst (λ (fs : List ℕ). AreRowsTo chains (values ++ row) fs (many + 1)) (sym more) (record {
        flat = flat_more values row firsts many are.flat are.long are.last;
        long = (let e = long_more values row firsts many are.flat are.long are.last in omega (arith, e));
        last = ends values row firsts many are.flat are.long are.last;
        rows = ap (λ (rows : List (List T)). map (map Some) rows) (rows_more values row firsts many are.flat are.long are.last)
            ∙ map_push (map Some) (rows_of values firsts) row
            ∙ ap₂ (λ (rows : List (List (Option T))) (one : List (Option T)). rows ++ one ∷ []) are.rows pushes.2
            ∙ sym (map_more (map (slice_get chains.values)) chains.lists many [] lt);
      }))

  -- and at last all are
  pub all_rows : (values : List T) (firsts : List ℕ) (many : ℕ) → length chains.lists ≤ many → AreRowsTo chains values firsts many → AreRowsOf chains (rows_of values firsts)
  all_rows values firsts many le are = are.rows ∙ ap (λ (ls : List (List ℕ)). map (map (slice_get chains.values)) ls) (take_all many chains.lists le)

  -- A walk along a list.

  pub walk_begins : (list : List ℕ) (old : List T) (next : Option ℕ) → next ≡ slice_get list 0 → IsWalked chains list old old next
  walk_begins list old next is = record { front = []; back = list; row = []; parts = refl; at = is; grown = sym (append-nil old); read = refl }

  -- what is left begins with the cell at which the walk stands
  begins_with : (back : List ℕ) (next : Option ℕ) (cell : ℕ) → next ≡ slice_get back 0 → next ≡ Some cell → (left : List ℕ) × (back ≡ cell ∷ left)
  begins_with [] next cell at is = absurd (none-some cell (sym at ∙ is))
  begins_with (y ∷ ys) next cell at is = (ys, ap (λ (z : ℕ). z ∷ ys) (same_Some y cell (sym at ∙ is)))

  nothing_left : (back : List ℕ) (next : Option ℕ) → next ≡ slice_get back 0 → next ≡ None → back ≡ []
  nothing_left [] next at is = refl
  nothing_left (y ∷ ys) next at is = absurd (none-some y (sym is ∙ at))

  module _ (list : List ℕ) (old now new : List T) (cell : ℕ) (v : T) (next : Option ℕ) (here : next ≡ Some cell) (more : new ≡ now ++ v ∷ [])
      (walked : IsWalked chains list old now next) where
    rest : (left : List ℕ) × (walked.back ≡ cell ∷ left)
    rest = begins_with walked.back next cell walked.at here

    parts : list ≡ walked.front ++ cell ∷ rest.0
    parts = walked.parts ∙ ap (λ (ys : List ℕ). walked.front ++ ys) rest.1

    pub walk_goes_on : slice_get chains.values cell ≡ Some v → (after : Option ℕ) → ((front back : List ℕ) → list ≡ front ++ cell ∷ back → after ≡ slice_get back 0)
        → IsWalked chains list old new after
    walk_goes_on value after within = record {
      front = walked.front ++ cell ∷ [];
      back = rest.0;
      row = walked.row ++ v ∷ [];
      parts = parts ∙ sym (append_assoc walked.front (cell ∷ []) rest.0);
      at = within walked.front rest.0 parts;
      grown = more ∙ ap (λ (vs : List T). vs ++ v ∷ []) walked.grown ∙ append_assoc old walked.row (v ∷ []);
      read = map_push Some walked.row v
          ∙ ap₂ (λ (os : List (Option T)) (o : Option T). os ++ o ∷ []) walked.read (sym value)
          ∙ sym (map_push (slice_get chains.values) walked.front cell);
    }

    -- fewer cells are left
    pub walk_shortens : length list + length old - length new < length list + length old - length now
    walk_shortens =
        let a = ap (λ (ys : List ℕ). length ys) parts in
        let b = length-append walked.front (cell ∷ rest.0) in
        let c = ap (λ (vs : List T). length vs) walked.grown in
        let d = length-append old walked.row in
        let e = ap (λ (vs : List T). length vs) more in
        let f = length_push now v in
        let g = ap (λ (os : List (Option T)). length os) walked.read in
        let h = length-map walked.row Some in
        let i = length-map walked.front (slice_get chains.values) in
        let j : length (cell ∷ rest.0) ≡ length rest.0 + 1 = omega arith in
        omega (arith, a, b, c, d, e, f, g, h, i, j)

  -- at the end all values stand there
  pub walk_ends : (number : ℕ) (old now : List T) (next : Option ℕ) → next ≡ None → IsWalked chains (list_at chains.lists number) old now next → PushesList chains number old now
  walk_ends number old now next none walked =
      let whole : list_at chains.lists number ≡ walked.front
      = walked.parts ∙ ap (λ (ys : List ℕ). walked.front ++ ys) (nothing_left walked.back next walked.at none) ∙ append-nil walked.front in
      (walked.row, walked.grown, walked.read ∙ ap (λ (ys : List ℕ). map (slice_get chains.values) ys) (sym whole))

-- What stands in the rows.

-- a part of a map of lists is the map of the part
at_map : {X Y : Type 0} (f : X → Y) (xs : List (List X)) (k : ℕ) → get_or (map (map f) xs) k [] ≡ map f (get_or xs k [])
at_map f [] k = refl
at_map f (x ∷ xs) zero = refl
at_map f (x ∷ xs) (suc k) = at_map f xs k

only_some : {T : Type 0} (o : Option T) (v : T) → option_map (λ (x : T). Some x) o ≡ Some (Some v) → o ≡ Some v
only_some None v e = absurd (none-some (Some v) e)
only_some (Some x) v e = same_Some (Some x) (Some v) e

-- an element is at some number
pub stands_at : {T : Type 0} (xs : List T) (v : T) (h : Contains xs v) → slice_get xs h.0 ≡ Some v
stands_at {T} xs v h = slice_get-get_or xs h.0 v h.1 ∙ ap (λ (y : T). Some y) h.2

module _ {T : Type 0} (chains : Chained T) (rows : List (List T)) (are : AreRowsOf chains rows) where
  pub as_many_rows : length rows ≡ length chains.lists
  as_many_rows = sym (length-map rows (map Some)) ∙ ap (λ (xs : List (List (Option T))). length xs) are ∙ length-map chains.lists (map (slice_get chains.values))

  has_values : (k : ℕ) → HasValues chains (list_at chains.lists k) (row_at rows k)
  has_values k =
      sym (at_map Some rows k) ∙ ap (λ (xs : List (List (Option T))). get_or xs k []) are ∙ at_map (slice_get chains.values) chains.lists k

  -- at each number of a row stands the value of the cell at that number of the list
  same_at : (k n : ℕ) → option_map (λ (x : T). Some x) (slice_get (row_at rows k) n) ≡ option_map (slice_get chains.values) (slice_get (list_at chains.lists k) n)
  same_at k n =
      sym (slice_get-map (λ (x : T). Some x) (row_at rows k) n) ∙ ap (λ (os : List (Option T)). slice_get os n) (has_values k)
      ∙ slice_get-map (slice_get chains.values) (list_at chains.lists k) n

  -- the value of a cell that stands in a list is in the row ..
  pub value_in : (k cell : ℕ) (v : T) → Contains (list_at chains.lists k) cell → slice_get chains.values cell ≡ Some v → Contains (row_at rows k) v
  value_in k cell v h value =
      let here : option_map (slice_get chains.values) (slice_get (list_at chains.lists k) h.0) ≡ Some (Some v)
      = ap (option_map (slice_get chains.values)) (stands_at (list_at chains.lists k) cell h) ∙ ap (λ (o : Option T). Some o) value in
      get_contains (row_at rows k) h.0 v (only_some (slice_get (row_at rows k) h.0) v (same_at k h.0 ∙ here))

  -- .. and each in a row is that of a cell in the list
  pub value_from : (k : ℕ) (v : T) → Contains (row_at rows k) v → (cell : ℕ) × Contains (list_at chains.lists k) cell × (slice_get chains.values cell ≡ Some v)
  value_from k v h =
      by (slice_get (list_at chains.lists k) h.0) refl (sym (same_at k h.0) ∙ ap (option_map (λ (x : T). Some x)) (stands_at (row_at rows k) v h))
    where
      by : (o : Option ℕ) → slice_get (list_at chains.lists k) h.0 ≡ o → option_map (slice_get chains.values) o ≡ Some (Some v)
          → (cell : ℕ) × Contains (list_at chains.lists k) cell × (slice_get chains.values cell ≡ Some v)
      by None at e = absurd (none-some (Some v) e)
      by (Some cell) at e = (cell, get_contains (list_at chains.lists k) h.0 cell at, same_Some (slice_get chains.values cell) (Some v) e)
