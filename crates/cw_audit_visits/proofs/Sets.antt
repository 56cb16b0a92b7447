-- What is set in the store is set in the numbers that it tells.
use Rattle.std.proofs.Common.{◌≡◌, ℕ, ◌∙◌, Bool, true, false, Option, Some, refl, ap}
use Rattle.std.specs.Prelude.{cond, option_map, nat_eq}
use Rattle.std.specs.BTreeMap.{is_at}
use Rattle.indexmap.specs.IndexMap.{get}
use Rattle.cw_audit_store.specs.declared.row_key.Row.{Row}
use Rattle.cw_audit_store.specs.declared.row_key.Entered.{Entered}
use Rattle.cw_audit_store.specs.declared.row_key.Hit.{Hit}
use Rattle.cw_audit_store.specs.declared.store.Store.{Store}
use Rattle.cw_audit_store.specs.Stores.{entrance_cmp, row_key_cmp, entrance_eq, row_key_eq, row_at, group_at}
use Rattle.cw_audit_store.proofs.Orders.{and_by, same_entrance, same_row_key}
use Rattle.cw_audit_search.specs.Searches.{IsNumberSet, IsReachSet, IsBestSet}
use Rattle.cw_audit_search.specs.Ways.{IsWaySet, IsCallSet}
use Rattle.cw_audit_search.specs.Ways.{IsHitSet as IsBadWaySet}
use Rattle.cw_audit_visits.specs.Searching.{entrance, row_key, found_of, ways_of, way_of, caller_of, bad_way_of, IsRowSet, IsGroupSet, IsHitSet}

map_cond : {A B : Type 0} (f : A → B) (b : Bool) (x : A) (o : Option A) → option_map f (cond b (Some x) o) ≡ cond b (Some (f x)) (option_map f o)
map_cond f true x o = refl
map_cond f false x o = refl

pub row_number : (s s2 : Store) (f q p x : ℕ) (row : Row) → IsRowSet s s2 (row_key f q p x) row → IsNumberSet (found_of s) (found_of s2) f q p x row.inside
row_number s s2 f q p x row set = record {
  reach = λ f2 q2. ap (λ m. option_map (λ (e : Entered). e.reach) (get entrance_eq m (entrance f2 q2))) set.groups;
  number = λ f2 q2 p2 x2.
      ap (option_map (λ (r : Row). r.inside)) (set.rows (row_key f2 q2 p2 x2))
      ∙ map_cond (λ (r : Row). r.inside) (is_at (row_key_cmp (row_key f q p x)) (row_key f2 q2 p2 x2)) row (row_at s (row_key f2 q2 p2 x2))
      ∙ ap (λ b. cond b (Some row.inside) (option_map (λ (r : Row). r.inside) (row_at s (row_key f2 q2 p2 x2))))
      (same_row_key (row_key f q p x) (row_key f2 q2 p2 x2) ∙ and_by (nat_eq f2 f) (nat_eq q2 q) (nat_eq p2 p) (nat_eq x2 x));
  best = ap (option_map (λ (h : Hit). h.distance)) set.hit;
}

pub group_reach : (s s2 : Store) (f q : ℕ) (entered : Entered) → IsGroupSet s s2 (entrance f q) entered → IsReachSet (found_of s) (found_of s2) f q entered.reach
group_reach s s2 f q entered set = record {
  reach = λ f2 q2.
      ap (option_map (λ (e : Entered). e.reach)) (set.groups (entrance f2 q2))
      ∙ map_cond (λ (e : Entered). e.reach) (is_at (entrance_cmp (entrance f q)) (entrance f2 q2)) entered (group_at s (entrance f2 q2))
      ∙ ap (λ b. cond b (Some entered.reach) (option_map (λ (e : Entered). e.reach) (group_at s (entrance f2 q2)))) (same_entrance (entrance f q) (entrance f2 q2));
  number = λ f2 q2 p2 x2. ap (λ m. option_map (λ (r : Row). r.inside) (get row_key_eq m (row_key f2 q2 p2 x2))) set.rows;
  best = ap (option_map (λ (h : Hit). h.distance)) set.hit;
}

pub hit_best : (s s2 : Store) (hit : Hit) → IsHitSet s s2 hit → IsBestSet (found_of s) (found_of s2) hit.distance
hit_best s s2 hit set = record {
  reach = λ f2 q2. ap (λ m. option_map (λ (e : Entered). e.reach) (get entrance_eq m (entrance f2 q2))) set.groups;
  number = λ f2 q2 p2 x2. ap (λ m. option_map (λ (r : Row). r.inside) (get row_key_eq m (row_key f2 q2 p2 x2))) set.rows;
  best = ap (option_map (λ (h : Hit). h.distance)) set.hit;
}

-- and so are ways
pub row_way : (s s2 : Store) (f q p x : ℕ) (row : Row) → IsRowSet s s2 (row_key f q p x) row → IsWaySet (ways_of s) (ways_of s2) f q p x (way_of row.way)
row_way s s2 f q p x row set = record {
  row = λ f2 q2 p2 x2.
      ap (option_map (λ (r : Row). way_of r.way)) (set.rows (row_key f2 q2 p2 x2))
      ∙ map_cond (λ (r : Row). way_of r.way) (is_at (row_key_cmp (row_key f q p x)) (row_key f2 q2 p2 x2)) row (row_at s (row_key f2 q2 p2 x2))
      ∙ ap (λ b. cond b (Some (way_of row.way)) (option_map (λ (r : Row). way_of r.way) (row_at s (row_key f2 q2 p2 x2))))
      (same_row_key (row_key f q p x) (row_key f2 q2 p2 x2) ∙ and_by (nat_eq f2 f) (nat_eq q2 q) (nat_eq p2 p) (nat_eq x2 x));
  call = λ f2 q2. ap (λ m. option_map (λ (e : Entered). option_map caller_of e.call) (get entrance_eq m (entrance f2 q2))) set.groups;
  hit = ap (option_map bad_way_of) set.hit;
}

pub group_call : (s s2 : Store) (f q : ℕ) (entered : Entered) → IsGroupSet s s2 (entrance f q) entered → IsCallSet (ways_of s) (ways_of s2) f q (option_map caller_of entered.call)
group_call s s2 f q entered set = record {
  row = λ f2 q2 p2 x2. ap (λ m. option_map (λ (r : Row). way_of r.way) (get row_key_eq m (row_key f2 q2 p2 x2))) set.rows;
  call = λ f2 q2.
      ap (option_map (λ (e : Entered). option_map caller_of e.call)) (set.groups (entrance f2 q2))
      ∙ map_cond (λ (e : Entered). option_map caller_of e.call) (is_at (entrance_cmp (entrance f q)) (entrance f2 q2)) entered (group_at s (entrance f2 q2))
      ∙ ap (λ b. cond b (Some (option_map caller_of entered.call)) (option_map (λ (e : Entered). option_map caller_of e.call) (group_at s (entrance f2 q2))))
      (same_entrance (entrance f q) (entrance f2 q2));
  hit = ap (option_map bad_way_of) set.hit;
}

pub hit_way : (s s2 : Store) (hit : Hit) → IsHitSet s s2 hit → IsBadWaySet (ways_of s) (ways_of s2) (bad_way_of hit)
hit_way s s2 hit set = record {
  row = λ f2 q2 p2 x2. ap (λ m. option_map (λ (r : Row). way_of r.way) (get row_key_eq m (row_key f2 q2 p2 x2))) set.rows;
  call = λ f2 q2. ap (λ m. option_map (λ (e : Entered). option_map caller_of e.call) (get entrance_eq m (entrance f2 q2))) set.groups;
  hit = ap (option_map bad_way_of) set.hit;
}
