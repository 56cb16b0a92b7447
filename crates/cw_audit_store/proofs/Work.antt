-- A number that is lowered leaves less to do.
use Rattle.std.proofs.Common.{◌≡◌, ℕ, ◌+◌, ◌*◌, ◌^◌, ◌<◌, ◌≤◌, List, [], ◌∷◌, Bool, true, false, Option, Some, None, sym, ap, subst, arith, length}
use Rattle.std.specs.Prelude.{sum_by, option_map, cond}
use Rattle.std.specs.Option.{unwrap_or}
use Rattle.std.specs.Map.{lookup, values_of}
use Rattle.indexmap.specs.IndexMap.{IndexMap, insert_entry}
use Rattle.cw_audit_store.specs.declared.row_key.Entrance.{Entrance}
use Rattle.cw_audit_store.specs.declared.row_key.RowKey.{RowKey}
use Rattle.cw_audit_store.specs.declared.row_key.Row.{Row}
use Rattle.cw_audit_store.specs.declared.row_key.Entered.{Entered}
use Rattle.cw_audit_store.specs.declared.row_key.Hit.{Hit}
use Rattle.cw_audit_store.specs.declared.store.Store.{Store}
use Rattle.cw_audit_store.specs.Stores.{entrance_eq, row_key_eq, is_lower_by, is_lower, is_sooner, is_nearer, gap, hit_gap, rows_done, groups_done, work}
use Rattle.std.proofs.lemmas.Map.Entries.{length-values_of}
use Rattle.std.proofs.lemmas.Bool.{ltb-true}
use Rattle.std.proofs.lemmas.List.Sums.{sum_by_from}

sum_below : {X : Type 0} (f : X → ℕ) → ((x : X) → f x ≤ 65538) → (xs : List X) → sum_by f xs ≤ 65538 * length xs
sum_below f low [] = omega arith
sum_below f low (x ∷ xs) = let z = sum_by_from f (0 + f x) xs in omega (arith, low x, z, sum_below f low xs)

pub values_below : {K X : Type 0} (f : X → ℕ) → ((x : X) → f x ≤ 65538) → (es : List (K × X)) → sum_by f (values_of es) ≤ 65538 * length es
values_below f low es = let z = sum_below f low (values_of es) in let l = length-values_of es in omega (arith, z, l)

rises_at : {X : Type 0} (number : X → ℕ) (v : X) (old : Option X) (s t : ℕ) → t + unwrap_or (option_map (λ (x : X). gap (number x)) old) 0 ≡ s + gap (number v)
    → number v ≤ 65537 → is_lower_by number (number v) old ≡ true → s < t
rises_at number v None s t sum low less = omega (arith, sum, low)
rises_at number v (Some x) s t sum low less = let z = ltb-true (number v) (number x) less in omega (arith, sum, z, low)

-- the sum over the values after one is set
set_sum : {K X : Type 0} (eq : K → K → Bool) (f : X → ℕ) (es : List (K × X)) (k : K) (v : X)
    → sum_by f (values_of (insert_entry eq es k v)) + unwrap_or (option_map f (lookup (eq k) es)) 0 ≡ sum_by f (values_of es) + f v
set_sum eq f [] k v = omega arith
set_sum {K} {X} eq f (e ∷ es) k v = by (set_sum eq f es k v) (eq k e.0)
  where
    from : (x : X) (xs : List X) → sum_by f (x ∷ xs) ≡ f x + sum_by f xs
    from x xs = let z = sum_by_from f (0 + f x) xs in omega (arith, z)

    by : sum_by f (values_of (insert_entry eq es k v)) + unwrap_or (option_map f (lookup (eq k) es)) 0 ≡ sum_by f (values_of es) + f v
        → (b : Bool) → sum_by f (values_of (cond b ((e.0, v) ∷ es) (e ∷ insert_entry eq es k v))) + unwrap_or (option_map f (cond b (Some e.1) (lookup (eq k) es))) 0
        ≡ sum_by f (values_of (e ∷ es)) + f v
    by rest true = let z = from v (values_of es) in let y = from e.1 (values_of es) in omega (arith, z, y)
    by rest false = let z = from e.1 (values_of (insert_entry eq es k v)) in let y = from e.1 (values_of es) in omega (arith, z, y, rest)

pub rises : {K X : Type 0} (eq : K → K → Bool) (number : X → ℕ) (es : List (K × X)) (k : K) (v : X)
    → number v ≤ 65537 → is_lower_by number (number v) (lookup (eq k) es) ≡ true
    → sum_by (λ (x : X). gap (number x)) (values_of es) < sum_by (λ (x : X). gap (number x)) (values_of (insert_entry eq es k v))
rises eq number es k v low less = rises_at number v (lookup (eq k) es) _ _ (set_sum eq (λ x. gap (number x)) es k v) low less

rows_low : {S : Type 0} (m : IndexMap RowKey Row S) → length m.entries < 2 ^ 63 → rows_done m + 65538 ≤ 2 ^ 63 * 65538
rows_low m few = let z = values_below (λ (r : Row). gap r.inside) (λ r. omega arith) m.entries in omega (arith, z, few)

groups_low : {S : Type 0} (m : IndexMap Entrance Entered S) → length m.entries < 2 ^ 63 → groups_done m + 65538 ≤ 2 ^ 63 * 65538
groups_low m few = let z = values_below (λ (r : Entered). gap r.reach) (λ r. omega arith) m.entries in omega (arith, z, few)

hit_low : (h : Option Hit) → hit_gap h ≤ 65538
hit_low None = omega arith
hit_low (Some h) = omega arith

pub row_lowered : (s t : Store) (k : RowKey) (v : Row) → t.groups ≡ s.groups → t.hit ≡ s.hit → t.rows.entries ≡ insert_entry row_key_eq s.rows.entries k v
    → length s.rows.entries < 2 ^ 63 → length s.groups.entries < 2 ^ 63 → v.inside ≤ 65537 → is_lower v.inside (lookup (row_key_eq k) s.rows.entries) ≡ true → work t < work s
row_lowered s t k v groups hit is few_rows few_groups low less =
    let up = rises row_key_eq (λ (r : Row). r.inside) s.rows.entries k v low less in
    let more : rows_done s.rows < rows_done t.rows = subst (λ es. rows_done s.rows < sum_by (λ (r : Row). gap r.inside) (values_of es)) (sym is) up in
    let same : groups_done t.groups ≡ groups_done s.groups = ap (λ m. groups_done m) groups in
    let near : hit_gap t.hit ≡ hit_gap s.hit = ap hit_gap hit in
    omega (arith, more, same, near, rows_low s.rows few_rows, groups_low s.groups few_groups, hit_low s.hit)

pub group_lowered : (s t : Store) (k : Entrance) (v : Entered) → t.rows ≡ s.rows → t.hit ≡ s.hit → t.groups.entries ≡ insert_entry entrance_eq s.groups.entries k v
    → length s.groups.entries < 2 ^ 63 → length s.rows.entries < 2 ^ 63 → v.reach ≤ 65537 → is_sooner v.reach (lookup (entrance_eq k) s.groups.entries) ≡ true → work t < work s
group_lowered s t k v rows hit is few_groups few_rows low less =
    let up = rises entrance_eq (λ (e : Entered). e.reach) s.groups.entries k v low less in
    let more : groups_done s.groups < groups_done t.groups = subst (λ es. groups_done s.groups < sum_by (λ (e : Entered). gap e.reach) (values_of es)) (sym is) up in
    let same : rows_done t.rows ≡ rows_done s.rows = ap (λ m. rows_done m) rows in
    let near : hit_gap t.hit ≡ hit_gap s.hit = ap hit_gap hit in
    omega (arith, more, same, near, rows_low s.rows few_rows, groups_low s.groups few_groups, hit_low s.hit)

hit_rises : (old : Option Hit) (h : Hit) → h.distance ≤ 65537 → is_nearer h.distance old ≡ true → hit_gap old < hit_gap (Some h)
hit_rises None h low less = omega (arith, low)
hit_rises (Some o) h low less = let z = ltb-true h.distance o.distance less in omega (arith, low, z)

pub hit_lowered : (s t : Store) (h : Hit) → t.rows ≡ s.rows → t.groups ≡ s.groups → t.hit ≡ Some h → length s.rows.entries < 2 ^ 63 → length s.groups.entries < 2 ^ 63
    → h.distance ≤ 65537 → is_nearer h.distance s.hit ≡ true → work t < work s
hit_lowered s t h rows groups hit few_rows few_groups low less =
    let z = hit_rises s.hit h low less in
    let near : hit_gap t.hit ≡ hit_gap (Some h) = ap hit_gap hit in
    let same_rows : rows_done t.rows ≡ rows_done s.rows = ap (λ m. rows_done m) rows in
    let same_groups : groups_done t.groups ≡ groups_done s.groups = ap (λ m. groups_done m) groups in
    omega (arith, z, near, same_rows, same_groups, rows_low s.rows few_rows, groups_low s.groups few_groups, hit_low s.hit)
