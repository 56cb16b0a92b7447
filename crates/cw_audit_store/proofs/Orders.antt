-- Row keys and entrances are in order, and those that compare as equal are the same.
use Rattle.std.proofs.Common.{◌≡◌, ℕ, ◌∙◌, Bool, true, false, refl, sym, ap, arith}
use Rattle.std.specs.Prelude.{nat_eq, ◌&&◌}
use Rattle.std.specs.declared.cmp.Ordering.{Ordering}
use Rattle.std.specs.declared.cmp.Ordering.TheVariants.{Less, Equal, Greater}
use Rattle.std.specs.Ordering.{is_eq, nat_cmp, ordering_then}
use Rattle.std.specs.BTreeMap.{is_at}
use Rattle.std.specs.Cmp.{IsTotalOrder, both_ways, on_total, then_total, nat_cmp_total}
use Rattle.cw_audit_search.specs.Searches.{is_row}
use Rattle.cw_audit_search.proofs.Setting.{same_row, same_group}
use Rattle.cw_audit_store.specs.declared.row_key.Entrance.{Entrance}
use Rattle.cw_audit_store.specs.declared.row_key.RowKey.{RowKey}
use Rattle.cw_audit_store.specs.Stores.{entrance_cmp, entrance_eq, row_key_cmp, row_key_eq}
use Rattle.cw_audit_store.specs.Finding.{entrance, row_key}

pub entrance_total : IsTotalOrder entrance_cmp
entrance_total = then_total (on_total (λ (a : Entrance). a.function) nat_cmp_total) (on_total (λ (a : Entrance). a.state.0) nat_cmp_total)

pub row_key_total : IsTotalOrder row_key_cmp
row_key_total =
    then_total (on_total (λ (a : RowKey). a.entrance) entrance_total)
    (then_total (on_total (λ (a : RowKey). a.pos.0) nat_cmp_total) (on_total (λ (a : RowKey). a.state.0) nat_cmp_total))

eq_nat : (m n : ℕ) → is_eq (nat_cmp m n) ≡ nat_eq n m
eq_nat m n = both_ways (is_eq (nat_cmp m n)) (nat_eq n m) (λ e. grind (arith, e)) (λ e. grind (arith, e))

eq_then : (a b : Ordering) → is_eq (ordering_then a b) ≡ (is_eq a && is_eq b)
eq_then Less b = refl
eq_then Equal b = refl
eq_then Greater b = refl

-- entrances that compare as equal have the same numbers, and so have row keys
pub same_entrance : (a b : Entrance) → is_at (entrance_cmp a) b ≡ (nat_eq b.function a.function && nat_eq b.state.0 a.state.0)
same_entrance a b =
    eq_then (nat_cmp a.function b.function) (nat_cmp a.state.0 b.state.0)
    ∙ ap (λ s. s && is_eq (nat_cmp a.state.0 b.state.0)) (eq_nat a.function b.function)
    ∙ ap (λ s. nat_eq b.function a.function && s) (eq_nat a.state.0 b.state.0)

pub same_row_key : (a b : RowKey) → is_at (row_key_cmp a) b
    ≡ ((nat_eq b.entrance.function a.entrance.function && nat_eq b.entrance.state.0 a.entrance.state.0) && (nat_eq b.pos.0 a.pos.0 && nat_eq b.state.0 a.state.0))
same_row_key a b =
    let pair = ordering_then (nat_cmp a.pos.0 b.pos.0) (nat_cmp a.state.0 b.state.0) in
    eq_then (entrance_cmp a.entrance b.entrance) pair
    ∙ ap (λ s. s && is_eq pair) (same_entrance a.entrance b.entrance)
    ∙ ap (λ s. (nat_eq b.entrance.function a.entrance.function && nat_eq b.entrance.state.0 a.entrance.state.0) && s)
    (eq_then (nat_cmp a.pos.0 b.pos.0) (nat_cmp a.state.0 b.state.0)
    ∙ ap (λ s. s && is_eq (nat_cmp a.state.0 b.state.0)) (eq_nat a.pos.0 b.pos.0)
    ∙ ap (λ s. nat_eq b.pos.0 a.pos.0 && s) (eq_nat a.state.0 b.state.0))

flip : (m n : ℕ) → nat_eq m n ≡ nat_eq n m
flip m n = both_ways (nat_eq m n) (nat_eq n m) (λ e. grind (arith, e)) (λ e. grind (arith, e))

pub and_by : (a b c d : Bool) → ((a && b) && (c && d)) ≡ (a && (b && (c && d)))
and_by true b c d = refl
and_by false b c d = refl

-- row keys are equal that have the same numbers
pub eq_row_key : (a b : RowKey)
    → row_key_eq a b ≡ is_row a.entrance.function a.entrance.state.0 a.pos.0 a.state.0 b.entrance.function b.entrance.state.0 b.pos.0 b.state.0
eq_row_key a b =
    (λ i. (flip a.entrance.function b.entrance.function i && flip a.entrance.state.0 b.entrance.state.0 i) && (flip a.pos.0 b.pos.0 i && flip a.state.0 b.state.0 i))
    ∙ and_by (nat_eq b.entrance.function a.entrance.function) (nat_eq b.entrance.state.0 a.entrance.state.0) (nat_eq b.pos.0 a.pos.0) (nat_eq b.state.0 a.state.0)

pub equal_row_keys : (a b : RowKey) → row_key_eq a b ≡ true → a ≡ b
equal_row_keys a b e =
    same_row (λ f q p x. a ≡ row_key f q p x) a.entrance.function a.entrance.state.0 a.pos.0 a.state.0 b.entrance.function b.entrance.state.0 b.pos.0 b.state.0
    (sym (eq_row_key a b) ∙ e) refl

pub equal_entrances : (a b : Entrance) → entrance_eq a b ≡ true → a ≡ b
equal_entrances a b e =
    same_group (λ f q. a ≡ entrance f q) a.function a.state.0 b.function b.state.0
    (ap (λ s. s && nat_eq b.state.0 a.state.0) (flip b.function a.function) ∙ ap (λ s. nat_eq a.function b.function && s) (flip b.state.0 a.state.0) ∙ e) refl
