-- What stands in a table.
use Rattle.std.proofs.Common.{◌≡◌, ℕ, zero, suc, ◌+◌, ◌<◌, ◌≤◌, List, [], ◌∷◌, ◌++◌, Bool, true, false, length, get_or, map, Vec, Global, Some, nat_eq, refl, sym, ap, ◌∙◌, subst, arith, eqb-true}
use Rattle.std.proofs.Common.{length-append}
use Rattle.std.specs.Prelude.{slice_get}
use Rattle.std.proofs.lemmas.Option.{slice_get_within, get_or_from_slice_get}
use Rattle.cw_rights.specs.declared.capabilities.Limit.{Limit as ALimit}
use Rattle.cw_rights.specs.declared.capabilities.Primitive.TheVariants.{Limit, Enter, Split}
use Rattle.cw_rights.specs.Policies.{descriptor_of}
use Rattle.cw_states.specs.declared.acts.Act.{Act}
use Rattle.cw_states.specs.declared.acts.Act.TheVariants.{Granted, Opened, Closed}
use Rattle.cw_states.specs.declared.tables.Tables.{Tables}
use Rattle.cw_states.specs.States.{Lists, Held, lists_of, count}
use Rattle.std.proofs.lemmas.Bool.Decides.{nat_tests}
use Rattle.std.proofs.lemmas.List.{get_or_append_left, get_or-map, length-map}
use Rattle.cw_states.specs.Tables.{tabled, all_items, index_after, indices_after, entry, entries, AreTables}

module _ {A : Type 0} (f : ℕ → A) where
  pub tabled_length : (n : ℕ) → length (tabled f n) ≡ n
  tabled_length zero = refl
  tabled_length (suc n) = let h = tabled_length n in let m = length-append (tabled f n) (f n ∷ []) in omega arith

  last_at : (xs : List A) (x d : A) (i : ℕ) → i ≡ length xs → get_or (xs ++ x ∷ []) i d ≡ x
  last_at [] x d i e = ap (λ j. get_or (x ∷ []) j d) e
  last_at (y ∷ ys) x d zero e = absurd (omega arith)
  last_at (y ∷ ys) x d (suc i) e = last_at ys x d i (omega arith)

  pub tabled_at : (n i : ℕ) (d : A) → i < n → get_or (tabled f n) i d ≡ f i
  tabled_at zero i d l = absurd (omega arith)
  tabled_at (suc n) i d l = by (nat_eq i n) refl (λ l. tabled_at n i d l)
    where
      by : (b : Bool) → nat_eq i n ≡ b → (i < n → get_or (tabled f n) i d ≡ f i) → get_or (tabled f n ++ f n ∷ []) i d ≡ f i
      by true e rec =
          let same : i ≡ n = eqb-true i n e in
          last_at (tabled f n) (f n) d i (same ∙ sym (tabled_length n)) ∙ ap f (sym same)
      by false e rec =
          let below : i < n = grind (arith, nat_tests) in
          let within : i < length (tabled f n) = let h = tabled_length n in omega arith in
          get_or_append_left (tabled f n) (f n ∷ []) d i within ∙ rec below

-- the column is there, the index is in it, and this stands there
abbrev pub Looked : List (List ℕ) → ℕ → ℕ → ℕ → Type 0
Looked all i j x = (i < length all) × (j < length (get_or all i [])) × (get_or (get_or all i []) j 0 ≡ x)

looked_in : (all : List (List ℕ)) (i j n : ℕ) (f : ℕ → ℕ) → i < length all → get_or all i [] ≡ tabled f n → j < n → Looked all i j (f j)
looked_in all i j n f l e within =
    let size : length (get_or all i []) ≡ n = ap length e ∙ tabled_length f n in
    (l, omega (arith, size, within), ap (λ xs. get_or xs j 0) e ∙ tabled_at f n j 0 within)

looked_tabled : (g : ℕ → ℕ → ℕ) (n : ℕ) (all : List (List ℕ)) (m i j : ℕ) → all ≡ tabled (λ d. tabled (g d) n) m → i < m → j < n
    → Looked all i j (g i j)
looked_tabled g n all m i j e l within =
    let size : length all ≡ m = ap length e ∙ tabled_length (λ d. tabled (g d) n) m in
    looked_in all i j n (g i) (omega (arith, size, l)) (ap (λ (y : List (List ℕ)). get_or y i []) e ∙ tabled_at (λ d. tabled (g d) n) m i [] l) within

seen_in : (f : ℕ → ℕ) (n : ℕ) (xs : List ℕ) (j : ℕ) → xs ≡ tabled f n → j < n → (j < length xs) × (get_or xs j 0 ≡ f j)
seen_in f n xs j e l =
    let size : length xs ≡ n = ap length e ∙ tabled_length f n in
    (omega (arith, size, l), ap (λ ys. get_or ys j 0) e ∙ tabled_at f n j 0 l)

module _ (v : Lists) where
  pub looked : (act : ℕ → Act) (all : List (List ℕ)) (m i j : ℕ) → all ≡ tabled (λ d. indices_after v (act d)) m → i < m → j < length v.rights
      → Looked all i j (index_after v (act i) j)
  looked act all m i j e l within = looked_tabled (λ d. index_after v (act d)) (length v.rights) all m i j e l within

  pub looked_limit : (all : List (List ℕ)) (limit : ALimit) (i j : ℕ)
      → all ≡ map (λ (limit : ALimit). indices_after v (Granted (Limit limit))) v.policy.limits
      → slice_get v.policy.limits i ≡ Some limit → j < length v.rights → Looked all i j (index_after v (Granted (Limit limit)) j)
  looked_limit all limit i j e at within =
      let f : ALimit → List ℕ = λ limit. indices_after v (Granted (Limit limit)) in
      let l = slice_get_within v.policy.limits i limit at in
      let size : length all ≡ length v.policy.limits = ap length e ∙ length-map v.policy.limits f in
      looked_in all i j (length v.rights) (index_after v (Granted (Limit limit))) (omega (arith, size, l))
      (ap (λ (y : List (List ℕ)). get_or y i []) e ∙ get_or-map f v.policy.limits i limit [] l
      ∙ ap f (get_or_from_slice_get v.policy.limits i limit limit at)) within

  pub looked_entry : (all : List (List ℕ)) (m i q : ℕ) → all ≡ tabled (entries v) m → i < m → q < count v → Looked all i q (entry v i q)
  looked_entry all m i q e l within = looked_tabled (entry v) (count v) all m i q e l within

-- the same of the tables that a value of `States` has, by what it stands for
module _ (inside now : Held) (same : inside ≡ now) (t : Tables) (tables : AreTables (lists_of inside) t) where
  are : AreTables (lists_of now) t
  are = subst (λ (h : Held). AreTables (lists_of h) t) same tables

  pub entered_seen : (indices : List ℕ) (j : ℕ) → indices ≡ t.entered.items → j < length now.rights → (j < length indices)
      × (get_or indices j 0 ≡ index_after (lists_of now) (Granted Enter) j)
  entered_seen indices j e l = seen_in (index_after (lists_of now) (Granted Enter)) (length now.rights) indices j (e ∙ are.entered) l

  pub split_seen : (indices : List ℕ) (j : ℕ) → indices ≡ t.split.items → j < length now.rights → (j < length indices)
      × (get_or indices j 0 ≡ index_after (lists_of now) (Granted Split) j)
  split_seen indices j e l = seen_in (index_after (lists_of now) (Granted Split)) (length now.rights) indices j (e ∙ are.split) l

  pub limited_seen : (columns : List (Vec ℕ Global)) (limit : ALimit) (i j : ℕ) → columns ≡ t.limited.items
      → slice_get (lists_of now).policy.limits i ≡ Some limit → j < length now.rights
      → Looked (all_items columns) i j (index_after (lists_of now) (Granted (Limit limit)) j)
  limited_seen columns limit i j e at l = looked_limit (lists_of now) (all_items columns) limit i j (ap all_items e ∙ are.limited) at l

  below : (d : ℕ) → d < length now.policy.descriptors.items → d < length (lists_of now).policy.descriptors
  below d l = let n = length-map now.policy.descriptors.items descriptor_of in omega (arith, n, l)

  pub opened_seen : (columns : List (Vec ℕ Global)) (d j : ℕ) → columns ≡ t.opened.items → d < length now.policy.descriptors.items
      → j < length now.rights
      → Looked (all_items columns) d j (index_after (lists_of now) (Opened d) j)
  opened_seen columns d j e l within =
      looked (lists_of now) (λ d. Opened d) (all_items columns) (length (lists_of now).policy.descriptors) d j (ap all_items e
      ∙ are.opened) (below d l) within

  pub closed_seen : (columns : List (Vec ℕ Global)) (d j : ℕ) → columns ≡ t.closed.items → d < length now.policy.descriptors.items
      → j < length now.rights
      → Looked (all_items columns) d j (index_after (lists_of now) (Closed d) j)
  closed_seen columns d j e l within =
      looked (lists_of now) (λ d. Closed d) (all_items columns) (length (lists_of now).policy.descriptors) d j (ap all_items e
      ∙ are.closed) (below d l) within

  pub entry_seen : (columns : List (Vec ℕ Global)) (label q : ℕ) → columns ≡ t.lettered.items → label ≤ length now.policy.labels.items
      → q < count (lists_of now)
      → Looked (all_items columns) label q (entry (lists_of now) label q)
  entry_seen columns label q e l within =
      let n = length-map now.policy.labels.items (λ (name : Vec ℕ Global). name.items) in
      looked_entry (lists_of now) (all_items columns) (length (lists_of now).policy.labels + 1) label q (ap all_items e
      ∙ are.lettered) (omega (arith, n, l)) within
