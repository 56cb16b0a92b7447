-- What a binary search finds is what the first look-up finds.
use Rattle.std.proofs.Common.{◌≡◌, ℕ, List, [], ◌∷◌, Bool, true, false, cond, ◌&&◌, Option, Some, None, option_map, find, map, nat_eq, refl, sym, ap, ◌∙◌, arith}
use Rattle.std.specs.Ordering.{is_eq, ordering_then, nat_cmp}
use Rattle.std.specs.Cmp.{IsTotalOrder}
use Rattle.std.proofs.lemmas.Cmp.{nat_cmp_total, on_total, then_total}
use Rattle.std.proofs.lemmas.Bool.Decides.{nat_tests}
use Rattle.cw_core.specs.declared.ids.PosId.{PosId}
use Rattle.cw_core.specs.declared.ids.StateId.{StateId}
use Rattle.cw_lemmas.proofs.Found.{find_by}
use Rattle.cw_audit_table.specs.declared.table.Group.{Group}
use Rattle.cw_audit_table.specs.Tables.{row_of, group_of, group_at, inside_at}

-- what is found among what a function gives is what it gives of what is found
pub found_mapped : {A B : Type 0} (f : A → B) (test : B → Bool) (xs : List A) → find test (map f xs) ≡ option_map f (find (λ x. test (f x)) xs)
found_mapped f test [] = refl
found_mapped f test (x ∷ xs) = by (test (f x)) (found_mapped f test xs)
  where
    by : (b : Bool) → find test (map f xs) ≡ option_map f (find (λ x. test (f x)) xs)
        → cond b (Some (f x)) (find test (map f xs)) ≡ option_map f (cond b (Some x) (find (λ x. test (f x)) xs))
    by true h = refl
    by false h = h

pair_is : (a p b x : ℕ) → is_eq (ordering_then (nat_cmp a p) (nat_cmp b x)) ≡ (nat_eq a p && nat_eq b x)
pair_is a p b x = grind (arith, nat_tests)

mapped_twice : {A B C : Type 0} (f : B → C) (g : A → B) (o : Option A) → option_map f (option_map g o) ≡ option_map (λ x. f (g x)) o
mapped_twice f g None = refl
mapped_twice f g (Some x) = refl

pub inside_is : (rows : List (PosId × StateId × ℕ)) (p : PosId) (x : StateId)
    → option_map (λ r. r.2) (find (λ r. is_eq (ordering_then (nat_cmp r.0.0 p.0) (nat_cmp r.1.0 x.0))) rows) ≡ inside_at (map row_of rows) p.0 x.0
inside_is rows p x =
    ap (option_map (λ r. r.2)) (find_by (λ (r : PosId × StateId × ℕ). is_eq (ordering_then (nat_cmp r.0.0 p.0) (nat_cmp r.1.0 x.0)))
    (λ r. nat_eq r.0.0 p.0 && nat_eq r.1.0 x.0) (λ r. pair_is r.0.0 p.0 r.1.0 x.0) rows)
    ∙ sym (mapped_twice (λ r. r.inside) row_of (find (λ r. nat_eq r.0.0 p.0 && nat_eq r.1.0 x.0) rows))
    ∙ sym (ap (option_map (λ r. r.inside)) (found_mapped row_of (λ r. nat_eq r.pos p.0 && nat_eq r.state x.0) rows))

pub group_is : (groups : List Group) (f : ℕ) (x : StateId)
    → option_map group_of (find (λ r. is_eq (ordering_then (nat_cmp r.function f) (nat_cmp r.entered.0 x.0))) groups) ≡ group_at (map group_of groups) f x.0
group_is groups f x =
    ap (option_map group_of) (find_by (λ (r : Group). is_eq (ordering_then (nat_cmp r.function f) (nat_cmp r.entered.0 x.0)))
    (λ r. nat_eq r.function f && nat_eq r.entered.0 x.0) (λ r. pair_is r.function f r.entered.0 x.0) groups)
    ∙ sym (found_mapped group_of (λ r. nat_eq r.function f && nat_eq r.entered x.0) groups)

-- the keys by which rows and groups ascend
abbrev pub key_of : PosId × StateId × ℕ → PosId × StateId
key_of r = (r.0, r.1)

pub key_total : IsTotalOrder (λ (a b : PosId × StateId). ordering_then (nat_cmp a.0.0 b.0.0) (nat_cmp a.1.0 b.1.0))
key_total = then_total (on_total (λ (k : PosId × StateId). k.0.0) nat_cmp_total) (on_total (λ (k : PosId × StateId). k.1.0) nat_cmp_total)

abbrev pub group_key : Group → ℕ × StateId
group_key g = (g.function, g.entered)

pub group_total : IsTotalOrder (λ (a b : ℕ × StateId). ordering_then (nat_cmp a.0 b.0) (nat_cmp a.1.0 b.1.0))
group_total = then_total (on_total (λ (k : ℕ × StateId). k.0) nat_cmp_total) (on_total (λ (k : ℕ × StateId). k.1.0) nat_cmp_total)
