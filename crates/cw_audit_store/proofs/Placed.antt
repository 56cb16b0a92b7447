-- Where an entry stands after one is set.
use Rattle.std.proofs.Common.{◌≡◌, ℕ, zero, suc, ◌+◌, ◌∙◌, List, [], ◌∷◌, Bool, true, false, not, cond, Some, None, refl, sym, ap, arith}
use Rattle.std.specs.Prelude.{nat_eq, slice_get}
use Rattle.std.specs.List.{position_or_len}
use Rattle.std.specs.Map.{keys_of}
use Rattle.std.specs.Cmp.{both_ways}
use Rattle.std.proofs.lemmas.Bool.{ne_eqb}
use Rattle.indexmap.specs.IndexMap.{insert_entry}

next_eq : (m n : ℕ) → nat_eq (suc m) (1 + n) ≡ nat_eq m n
next_eq m n = both_ways (nat_eq (suc m) (1 + n)) (nat_eq m n) (λ e. grind (arith, e)) (λ e. grind (arith, e))

-- at the place of its key, or behind all, and each other entry where it was
pub set_at : {K V : Type 0} (eq : K → K → Bool) (k : K) (v : V) → ((q : K) → eq k q ≡ true → q ≡ k) → (es : List (K × V)) (n : ℕ)
    → slice_get (insert_entry eq es k v) n ≡ cond (nat_eq n (position_or_len (eq k) (keys_of es))) (Some (k, v)) (slice_get es n)
set_at eq k v same [] zero = refl
set_at eq k v same [] (suc n) = sym (ap (λ b. cond b (Some (k, v)) None) (ne_eqb (suc n) 0 (λ z. omega (arith, z))))
set_at {K} {V} eq k v same (e ∷ es) n = by (eq k e.0) (same e.0) n (set_at eq k v same es)
  where
    by : (b : Bool) → (b ≡ true → e.0 ≡ k) → (n : ℕ)
        → ((m : ℕ) → slice_get (insert_entry eq es k v) m ≡ cond (nat_eq m (position_or_len (eq k) (keys_of es))) (Some (k, v)) (slice_get es m))
        → slice_get (cond b ((e.0, v) ∷ es) (e ∷ insert_entry eq es k v)) n
        ≡ cond (nat_eq n (cond (not b) (1 + position_or_len (eq k) (keys_of es)) 0)) (Some (k, v)) (slice_get (e ∷ es) n)
    by true is zero rest = ap (λ (q : K). Some (q, v)) (is refl)
    by true is (suc m) rest = sym (ap (λ b. cond b (Some (k, v)) (slice_get es m)) (ne_eqb (suc m) 0 (λ z. omega (arith, z))))
    by false is zero rest = sym (ap (λ b. cond b (Some (k, v)) (Some e)) (ne_eqb 0 (1 + position_or_len (eq k) (keys_of es)) (λ z. omega (arith, z))))
    by false is (suc m) rest = rest m ∙ sym (ap (λ b. cond b (Some (k, v)) (slice_get es m)) (next_eq m (position_or_len (eq k) (keys_of es))))
