-- Groups are read one by one.
use Rattle.std.proofs.Common.{◌≡◌, ℕ, ◌<◌, List, [], ◌∷◌, ◌++◌, map, length, Option, Some, None, option_map, refl, sym, ap, ◌∙◌, subst, arith, length-append}
use Rattle.std.specs.Prelude.{slice_get}
use Rattle.std.proofs.lemmas.Option.{none-some, same_Some, slice_get-map}
use Rattle.std.proofs.lemmas.List.{map-append, length-map}
use Rattle.cw_audit_table.specs.declared.table.Group.{Group}
use Rattle.cw_audit_table.specs.Tables.{PlainRow, PlainGroup, row_of, group_of}
use Rattle.cw_audit_store.specs.declared.row_key.Entered.{Entered}
use Rattle.cw_audit_store.specs.declared.row_key.RowKey.{RowKey}
use Rattle.cw_audit_store.specs.declared.store.Store.{Store}
use Rattle.cw_audit_store.specs.Stores.{group_at}
use Rattle.cw_audit_store.specs.Finding.{found_of}
use Rattle.cw_audit_search.specs.Counted.{RowKey as PlainRowKey}
use Rattle.cw_audit_search.specs.Grouped.{Ascend, IsRight, EndsBefore, AreGrouped, AreBelow}
use Rattle.cw_audit_search.specs.Listing.{AreListed}
use Rattle.cw_audit_search.proofs.Grouped.{grouped_none, grouped_more, grouped_listed}
use Rattle.cw_audit_listing.specs.Lists.{plain, IsKnown, AreKnown, ARow, group, row_key_in, AreRead, Ends, AreSoFar}

pub none_yet : (s : Store) (row_keys : List RowKey) (groups : List Group) → groups ≡ [] → AreKnown s row_keys → AreSoFar s row_keys row_keys (map group_of groups)
none_yet s row_keys groups none known =
    subst (λ gs. AreSoFar s row_keys row_keys (map group_of gs)) (sym none) (record { grouped = grouped_none (found_of s) (map plain row_keys); known = known })

-- at the end
pub nothing_left : (row_keys : List RowKey) → None ≡ slice_get row_keys 0 → row_keys ≡ []
nothing_left [] e = refl
nothing_left (x ∷ row_keys) e = absurd (none-some x e)

pub all_listed : (s : Store) (row_keys rest : List RowKey) (groups : List Group) (D : Option ℕ) → Ascend (map plain row_keys) → AreSoFar s row_keys rest (map group_of groups)
    → None ≡ slice_get rest 0
    → AreBelow (found_of s) D (map plain row_keys) → AreListed (found_of s) D (map group_of groups)
all_listed s row_keys rest groups D ascend h e below =
    grouped_listed (found_of s) D (map plain row_keys) (map group_of groups) ascend below
    (subst (λ r. AreGrouped (found_of s) (map plain row_keys) (map plain r) (map group_of groups)) (nothing_left rest e) h.grouped)

-- the first row key has a group
pub has_group : (s : Store) (rest : List RowKey) (first : RowKey) → AreKnown s rest → Some first ≡ slice_get rest 0 → group_at s first.entrance ≡ None → ⊥
has_group s [] first known e none = none-some first (sym e)
has_group s (x ∷ rest) first known e none =
    let k = subst (IsKnown s) (sym (same_Some first x e)) known.0 in
    none-some k.0.0 (sym (ap (option_map (λ (e : Entered). e.reach)) none) ∙ k.0.1)

-- so at least one row is read of its entrance
pub some_row : (s : Store) (rest more : List RowKey) (first : RowKey) (rows : List ARow) → Some first ≡ slice_get rest 0 → AreRead s first.entrance rest more rows → Ends first.entrance more
    → (r : PlainRow) × (slice_get (map row_of rows) 0 ≡ Some r)
some_row s rest more first (x ∷ rows) e h ends = (row_of x, refl)
some_row s rest more first [] e h ends = absurd (by (map plain more) (sym (ap (λ ps. slice_get ps 0) h.whole) ∙ slice_get-map plain rest 0 ∙ ap (option_map plain) (sym e)) ends)
  where
    by : (ps : List PlainRowKey) → slice_get ps 0 ≡ Some (plain first) → EndsBefore (group first.entrance 0 []) ps → ⊥
    by [] k ends = none-some (plain first) k
    by (p ∷ ps) k ends = let z = same_Some p (plain first) k in ends (ap (λ (p : PlainRowKey). p.0) z) (ap (λ (p : PlainRowKey). p.1) z)

pub fewer : (s : Store) (rest more : List RowKey) (first : RowKey) (rows : List ARow) → Some first ≡ slice_get rest 0 → AreRead s first.entrance rest more rows → Ends first.entrance more
    → length more < length rest
fewer s rest more first [] e h ends = let r = some_row s rest more first [] e h ends in absurd (none-some r.0 r.1)
fewer s rest more first (x ∷ rows) e h ends =
    let many = ap length h.whole in
    omega (arith, many, length-map rest plain, length-map more plain, length-append (map (row_key_in first.entrance) (map row_of rows)) (map plain more))

ends_same : (x y : PlainGroup) (ps : List PlainRowKey) → x.function ≡ y.function → x.entered ≡ y.entered → EndsBefore x ps → EndsBefore y ps
ends_same x y [] e f h = tt
ends_same x y (p ∷ ps) e f h = λ a b. h (a ∙ sym e) (b ∙ sym f)

-- one group more
pub one_more : (s : Store) (row_keys rest more : List RowKey) (groups after : List Group) (first : RowKey) (entered : Entered) (rows : List ARow) (grp : Group)
    → AreSoFar s row_keys rest (map group_of groups) → Some first ≡ slice_get rest 0 → Some entered ≡ group_at s first.entrance → AreRead s first.entrance rest more rows
    → Ends first.entrance more
    → group_of grp ≡ group first.entrance entered.reach rows → after ≡ groups ++ grp ∷ [] → AreSoFar s row_keys more (map group_of after)
one_more s row_keys rest more groups after first entered rows grp h e eg read ends same is =
    let e1 = first.entrance in
    let right : IsRight (found_of s) (group e1 entered.reach rows)
    = record { reach = ap (option_map (λ (e : Entered). e.reach)) (sym eg); some = some_row s rest more first rows e read ends; rows = read.right } in
    let new = grouped_more (found_of s) (map plain row_keys) (map plain rest) (map plain more) (map group_of groups) (group e1 entered.reach rows) h.grouped read.whole right
    (ends_same (group e1 0 []) (group e1 entered.reach rows) (map plain more) refl refl ends) in
    subst (λ gs. AreSoFar s row_keys more (map group_of gs)) (sym is)
    (subst (AreSoFar s row_keys more) (sym (map-append group_of groups (grp ∷ []) ∙ ap (λ x. map group_of groups ++ x ∷ []) same)) (record { grouped = new; known = read.known }))
