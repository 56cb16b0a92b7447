-- What was found of a search has a table that lists it, in order.
use Rattle.std.proofs.Common.{◌≡◌, ℕ, zero, suc, ◌+◌, ◌<◌, ◌≤◌, List, [], ◌∷◌, map, Bool, true, false, cond, Option, Some, None, length, refl, sym, ap, ◌∙◌, subst, arith, ◌⊎◌, inl, inr}
use Rattle.std.specs.Prelude.{slice_get}
use Rattle.std.proofs.lemmas.Option.{none-some, same_Some}
use Rattle.std.proofs.lemmas.Bool.{cases_eq}
use Rattle.cw_game.specs.Games.{Game}
use Rattle.cw_audit_table.specs.Tables.{PlainRow, PlainGroup, Audit}
use Rattle.cw_audit_table.specs.Conditions.{is_after, is_before, key_of, pair_of}
use Rattle.cw_audit_search.specs.Searches.{Found}
use Rattle.cw_audit_search.specs.Sound.{IsFair, IsSound}
use Rattle.cw_audit_search.specs.Settled.{IsRowBelow}
use Rattle.cw_audit_search.specs.Listing.{IsListed, IsListing}
use Rattle.cw_audit_search.specs.Ordered.{AscendAfter}
use Rattle.cw_audit_search.proofs.Ascending.{says_after}

-- ---- what is picked by two numbers, in order

module _ {A : Type 0} (key : A → ℕ × ℕ) (pick : ℕ → ℕ → Option A) (right : (i j : ℕ) (a : A) → pick i j ≡ Some a → ((key a).0 ≡ i) × ((key a).1 ≡ j)) where
  abbrev add : Option A → List A → List A
  add None rest = rest
  add (Some a) rest = a ∷ rest

  -- by the first number i and the second ones from j on, so many
  abbrev line : (i j n : ℕ) → List A → List A
  line i j zero rest = rest
  line i j (suc n) rest = add (pick i j) (line i (j + 1) n rest)

  -- by the first numbers from i on, so many, and for each the second ones below m
  abbrev pub picked : (m i n : ℕ) → List A
  picked m i zero = []
  picked m i (suc n) = line i 0 m (picked m (i + 1) n)

  abbrev IsPicked : A → Type 0
  IsPicked a = (i : ℕ) × (j : ℕ) × (pick i j ≡ Some a)

  abbrev ArePicked : List A → Type 0
  ArePicked xs = (k : ℕ) (a : A) → slice_get xs k ≡ Some a → IsPicked a

  add_picked : (i j : ℕ) (o : Option A) (rest : List A) → pick i j ≡ o → ArePicked rest → ArePicked (add o rest)
  add_picked i j None rest e h k a at = h k a at
  add_picked i j (Some b) rest e h zero a at = (i, j, e ∙ at)
  add_picked i j (Some b) rest e h (suc k) a at = h k a at

  line_picked : (i j n : ℕ) (rest : List A) → ArePicked rest → ArePicked (line i j n rest)
  line_picked i j zero rest h = h
  line_picked i j (suc n) rest h = add_picked i j (pick i j) (line i (j + 1) n rest) refl (line_picked i (j + 1) n rest h)

  pub picked_from : (m i n : ℕ) → ArePicked (picked m i n)
  picked_from m i zero k a at = absurd (none-some a at)
  picked_from m i (suc n) k a at = line_picked i 0 m (picked m (i + 1) n) (picked_from m (i + 1) n) k a at

  abbrev IsIn : List A → A → Type 0
  IsIn xs a = (k : ℕ) × (slice_get xs k ≡ Some a)

  in_add : (o : Option A) (rest : List A) (a : A) → o ≡ Some a → IsIn (add o rest) a
  in_add None rest a e = absurd (none-some a e)
  in_add (Some b) rest a e = (0, e)

  past_add : (o : Option A) (rest : List A) (a : A) → IsIn rest a → IsIn (add o rest) a
  past_add None rest a h = h
  past_add (Some b) rest a h = (suc h.0, h.1)

  in_line : (i c : ℕ) (a : A) → pick i c ≡ Some a → (j n : ℕ) (rest : List A) → j ≤ c → c < j + n → IsIn (line i j n rest) a
  in_line i c a e j zero rest le lt = absurd (omega (arith, le, lt))
  in_line i c a e j (suc n) rest le lt = elim (cases_eq c j) [
    | inl same ↦ in_add (pick i j) (line i (j + 1) n rest) a (subst (λ z. pick i z ≡ Some a) same e)
    | inr other ↦ past_add (pick i j) (line i (j + 1) n rest) a (in_line i c a e (j + 1) n rest (omega (arith, le, other)) (omega (arith, lt)))
  ]

  past_line : (i j n : ℕ) (rest : List A) (a : A) → IsIn rest a → IsIn (line i j n rest) a
  past_line i j zero rest a h = h
  past_line i j (suc n) rest a h = past_add (pick i j) (line i (j + 1) n rest) a (past_line i (j + 1) n rest a h)

  pub in_picked : (m b c : ℕ) (a : A) → pick b c ≡ Some a → c < m → (i n : ℕ) → i ≤ b → b < i + n → IsIn (picked m i n) a
  in_picked m b c a e low i zero le lt = absurd (omega (arith, le, lt))
  in_picked m b c a e low i (suc n) le lt = elim (cases_eq b i) [
    | inl same ↦ in_line i c a (subst (λ z. pick z c ≡ Some a) same e) 0 m (picked m (i + 1) n) (omega arith) (omega (arith, low))
    | inr other ↦ past_line i 0 m (picked m (i + 1) n) a (in_picked m b c a e low (i + 1) n (omega (arith, le, other)) (omega (arith, lt)))
  ]

  -- all from the pair of i and j on comes after the last
  abbrev ComesAfter : Option (ℕ × ℕ) → (i j : ℕ) → Type 0
  ComesAfter last i j = (b c : ℕ) → (i < b) ⊎ ((i ≡ b) × (j ≤ c)) → is_after last (b, c) ≡ true

  past_key : (i j : ℕ) (a : A) → pick i j ≡ Some a → ComesAfter (Some (key a)) i (j + 1)
  past_key i j a e b c h =
      let r = right i j a e in
      let r0 = r.0 in
      let r1 = r.1 in
      says_after (key a) (b, c) (elim h [ inl l ↦ inl (omega (arith, l, r0)) | inr k ↦ inr (r0 ∙ k.0, (let l = k.1 in omega (arith, l, r1))) ])

  key_after : (last : Option (ℕ × ℕ)) (i j : ℕ) (a : A) → pick i j ≡ Some a → ComesAfter last i j → is_after last (key a) ≡ true
  key_after last i j a e after = let r = right i j a e in let r1 = r.1 in after (key a).0 (key a).1 (inr (sym r.0, omega (arith, r1)))

  add_ascends : (last : Option (ℕ × ℕ)) (i j : ℕ) (o : Option A) (rest : List A) → pick i j ≡ o → ComesAfter last i j
      → ((next : Option (ℕ × ℕ)) → ComesAfter next i (j + 1) → AscendAfter next (map key rest)) → AscendAfter last (map key (add o rest))
  add_ascends last i j None rest e after h =
      h last (λ b c k. after b c (elim k [ inl l ↦ inl l | inr z ↦ inr (z.0, (let l = z.1 in omega (arith, l))) ]))
  add_ascends last i j (Some a) rest e after h = (key_after last i j a e after, h (Some (key a)) (past_key i j a e))

  line_ascends : (i n j : ℕ) (rest : List A) (last : Option (ℕ × ℕ)) → ComesAfter last i j
      → ((next : Option (ℕ × ℕ)) → ComesAfter next (i + 1) 0 → AscendAfter next (map key rest)) → AscendAfter last (map key (line i j n rest))
  line_ascends i zero j rest last after h =
      h last (λ b c k. after b c (inl (elim k [ inl l ↦ omega (arith, l) | inr z ↦ (let e = z.0 in omega (arith, e)) ])))
  line_ascends i (suc n) j rest last after h =
      add_ascends last i j (pick i j) (line i (j + 1) n rest) refl after (λ next k. line_ascends i n (j + 1) rest next k h)

  picked_ascend_from : (m n i : ℕ) (last : Option (ℕ × ℕ)) → ComesAfter last i 0 → AscendAfter last (map key (picked m i n))
  picked_ascend_from m zero i last after = tt
  picked_ascend_from m (suc n) i last after = line_ascends i m 0 (picked m (i + 1) n) last after (λ next k. picked_ascend_from m n (i + 1) next k)

  pub picked_ascend : (m n : ℕ) → AscendAfter None (map key (picked m 0 n))
  picked_ascend m n = picked_ascend_from m n 0 None (λ b c k. refl)

-- ---- rows and groups

module _ (s : Found) (D : Option ℕ) where
  abbrev row_at : (p x a : ℕ) → PlainRow
  row_at p x a = record { pos = p; state = x; inside = a }

  abbrev row_if : (r p x : ℕ) → Option ℕ → Option PlainRow
  row_if r p x None = None
  row_if r p x (Some a) = cond (is_before D (r + a)) (Some (row_at p x a)) None

  record IsRowOf (r p x : ℕ) (o : Option ℕ) (row : PlainRow) : Type 0 where
    pub pos : row.pos ≡ p
    pub state : row.state ≡ x
    pub inside : o ≡ Some row.inside
    pub before : is_before D (r + row.inside) ≡ true

  row_is : (r p x : ℕ) (o : Option ℕ) (row : PlainRow) → row_if r p x o ≡ Some row → IsRowOf r p x o row
  row_is r p x None row e = absurd (none-some row e)
  row_is r p x (Some a) row e = by (is_before D (r + a)) refl e
    where
      by : (b : Bool) → is_before D (r + a) ≡ b → cond b (Some (row_at p x a)) None ≡ Some row → IsRowOf r p x (Some a) row
      by true eb h = let z = same_Some (row_at p x a) row h in record {
        pos = ap (λ (k : PlainRow). k.pos) (sym z);
        state = ap (λ (k : PlainRow). k.state) (sym z);
        inside = ap (λ (k : PlainRow). Some k.inside) z;
        before = subst (λ (k : PlainRow). is_before D (r + k.inside) ≡ true) z eb;
      }
      by false eb h = absurd (none-some row h)

  abbrev pick_row : (f q r p x : ℕ) → Option PlainRow
  pick_row f q r p x = row_if r p x (s.number f q p x)

  row_right : (f q r p x : ℕ) (row : PlainRow) → pick_row f q r p x ≡ Some row → ((pair_of row).0 ≡ p) × ((pair_of row).1 ≡ x)
  row_right f q r p x row e = let z = row_is r p x (s.number f q p x) row e in (z.pos, z.state)

  module _ (spots states : ℕ) where
    abbrev rows_in : (f q r : ℕ) → List PlainRow
    rows_in f q r = picked pair_of (pick_row f q r) (row_right f q r) states 0 spots

    abbrev group_with : (f q r : ℕ) → List PlainRow → Option PlainGroup
    group_with f q r [] = None
    group_with f q r (row ∷ rows) = Some (record { function = f; entered = q; reach = r; rows = row ∷ rows })

    abbrev group_if : (f q : ℕ) → Option ℕ → Option PlainGroup
    group_if f q None = None
    group_if f q (Some r) = group_with f q r (rows_in f q r)

    record IsGroupOf (f q : ℕ) (o : Option ℕ) (grp : PlainGroup) : Type 0 where
      pub function : grp.function ≡ f
      pub entered : grp.entered ≡ q
      pub reach : o ≡ Some grp.reach
      pub rows : grp.rows ≡ rows_in f q grp.reach
      pub some : (row : PlainRow) × (slice_get grp.rows 0 ≡ Some row)

    with_is : (f q r : ℕ) (rows : List PlainRow) (grp : PlainGroup) → rows_in f q r ≡ rows → group_with f q r rows ≡ Some grp → IsGroupOf f q (Some r) grp
    with_is f q r [] grp er e = absurd (none-some grp e)
    with_is f q r (row ∷ rows) grp er e =
        let made : PlainGroup = record { function = f; entered = q; reach = r; rows = row ∷ rows } in
        subst (IsGroupOf f q (Some r)) (same_Some made grp e) (record { function = refl; entered = refl; reach = refl; rows = sym er; some = (row, refl) })

    group_is : (f q : ℕ) (o : Option ℕ) (grp : PlainGroup) → group_if f q o ≡ Some grp → IsGroupOf f q o grp
    group_is f q None grp e = absurd (none-some grp e)
    group_is f q (Some r) grp e = with_is f q r (rows_in f q r) grp refl e

    -- a group is made where a row is
    record IsMadeOf (f q r : ℕ) (rows : List PlainRow) : Type 0 where
      pub group : PlainGroup
      pub made : group_with f q r rows ≡ Some group
      pub function : group.function ≡ f
      pub entered : group.entered ≡ q
      pub reach : group.reach ≡ r
      pub rows_are : group.rows ≡ rows

    made_of : (f q r : ℕ) (rows : List PlainRow) (k : ℕ) (row : PlainRow) → slice_get rows k ≡ Some row → IsMadeOf f q r rows
    made_of f q r [] k row e = absurd (none-some row e)
    made_of f q r (first ∷ rows) k row e =
        record { group = record { function = f; entered = q; reach = r; rows = first ∷ rows }; made = refl; function = refl; entered = refl; reach = refl; rows_are = refl }

    abbrev pick_group : (f q : ℕ) → Option PlainGroup
    pick_group f q = group_if f q (s.reach f q)

    group_right : (f q : ℕ) (grp : PlainGroup) → pick_group f q ≡ Some grp → ((key_of grp).0 ≡ f) × ((key_of grp).1 ≡ q)
    group_right f q grp e = let z = group_is f q (s.reach f q) grp e in (z.function, z.entered)

    abbrev groups_in : (functions : ℕ) → List PlainGroup
    groups_in functions = picked key_of pick_group group_right states 0 functions

    module _ (functions : ℕ) where
      -- a group that is listed
      listed_group : (i : ℕ) (grp : PlainGroup) → slice_get (groups_in functions) i ≡ Some grp → (f : ℕ) × (q : ℕ) × IsGroupOf f q (s.reach f q) grp
      listed_group i grp e = let z = picked_from key_of pick_group group_right states 0 functions i grp e in (z.0, z.1, group_is z.0 z.1 (s.reach z.0 z.1) grp z.2)

      rows_ascend_in : (i : ℕ) (grp : PlainGroup) → slice_get (groups_in functions) i ≡ Some grp → AscendAfter None (map pair_of grp.rows)
      rows_ascend_in i grp e =
          let z = listed_group i grp e in
          subst (λ rows. AscendAfter None (map pair_of rows)) (sym z.2.rows)
          (picked_ascend pair_of (pick_row z.0 z.1 grp.reach) (row_right z.0 z.1 grp.reach) states spots)

      below_in : (i n : ℕ) (grp : PlainGroup) (r : PlainRow) → slice_get (groups_in functions) i ≡ Some grp → slice_get grp.rows n ≡ Some r
          → IsRowBelow s D grp.function grp.entered grp.reach r.pos r.state r.inside
      below_in i n grp r e er =
          let z = listed_group i grp e in
          let f = z.0 in
          let q = z.1 in
          let at : slice_get (rows_in f q grp.reach) n ≡ Some r = subst (λ rows. slice_get rows n ≡ Some r) z.2.rows er in
          let y = picked_from pair_of (pick_row f q grp.reach) (row_right f q grp.reach) states 0 spots n r at in
          let k = row_is grp.reach y.0 y.1 (s.number f q y.0 y.1) r y.2 in
          let reach = subst (λ b. s.reach b grp.entered ≡ Some grp.reach) (sym z.2.function) (subst (λ b. s.reach f b ≡ Some grp.reach) (sym z.2.entered) z.2.reach) in
          let number : s.number f q r.pos r.state ≡ Some r.inside =
          subst (λ b. s.number f q b r.state ≡ Some r.inside) (sym k.pos) (subst (λ b. s.number f q y.0 b ≡ Some r.inside) (sym k.state) k.inside) in
          let in_group = subst (λ b. s.number b grp.entered r.pos r.state ≡ Some r.inside) (sym z.2.function)
          (subst (λ b. s.number f b r.pos r.state ≡ Some r.inside) (sym z.2.entered) number) in
          (reach, in_group, k.before)

      whole_in : (f q r p x a : ℕ) → f < functions → q < states → p < spots → x < states → IsRowBelow s D f q r p x a → IsListed (groups_in functions) f q r p x a
      whole_in f q r p x a lf lq lp lx w =
          let row = row_at p x a in
          let is_row : pick_row f q r p x ≡ Some row = ap (row_if r p x) w.1 ∙ ap (λ b. cond b (Some row) None) w.2 in
          let here = in_picked pair_of (pick_row f q r) (row_right f q r) states p x row is_row lx 0 spots (omega arith) (omega (arith, lp)) in
          let m = made_of f q r (rows_in f q r) here.0 row here.1 in
          let is_group : pick_group f q ≡ Some m.group = ap (group_if f q) w.0 ∙ m.made in
          let there = in_picked key_of pick_group group_right states f q m.group is_group lq 0 functions (omega arith) (omega (arith, lf)) in
          record {
            index = there.0;
            group = m.group;
            there = there.1;
            function = m.function;
            entered = m.entered;
            reach = m.reach;
            row_index = here.0;
            row = row;
            stands = subst (λ rows. slice_get rows here.0 ≡ Some row) (sym m.rows_are) here.1;
            pos = refl;
            state = refl;
            inside = refl;
          }

-- the table that lists a search below a distance
pub listing_there : (g : Game) (functions : ℕ) → IsFair g functions → (s : Found) → IsSound g functions s → (D : Option ℕ) → (t : Audit) × IsListing g s D t
listing_there g functions fair s sound D = (
  record { states = g.states.count; distance = D; moves = []; groups = groups_in s D (length g.spots) g.states.count functions },
  record {
    states = refl;
    distance = refl;
    groups = record {
      groups_ascend =
          picked_ascend key_of (pick_group s D (length g.spots) g.states.count) (group_right s D (length g.spots) g.states.count) g.states.count functions;
      rows_ascend = rows_ascend_in s D (length g.spots) g.states.count functions;
      some = λ i grp e. (listed_group s D (length g.spots) g.states.count functions i grp e).2.some;
      below = below_in s D (length g.spots) g.states.count functions;
      whole = λ f q r p x a w.
          let at = sound.keyed f q p x a w.1 in
          let short = fair.short f at.function in
          let le = at.position.1 in
          whole_in s D (length g.spots) g.states.count functions f q r p x a at.below at.entered (omega (arith, le, short)) at.state w;
    };
  },
)
