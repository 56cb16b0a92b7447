-- From states below the count each call leads to states below the count.
use Rattle.std.proofs.Common.{◌≡◌, ℕ, zero, suc, ◌*◌, ◌/◌, ◌%◌, ◌<◌, List, Bool, Option, Some, None, length, refl, subst, arith}
use Rattle.std.specs.Prelude.{unwrap_or, nat_eq}
use Rattle.std.specs.List.{position}
use Rattle.std.specs.Ordering.{eq_by_cmp}
use Rattle.std.proofs.Math.Nat.{mul_comm, mul-zero, zero-mul}
use Rattle.std.proofs.lemmas.List.Quantifiers.{position-Some}
use Rattle.std.proofs.lemmas.Nat.{mul-add-lt, mod_below, div_below}
use Rattle.cw_rights.specs.Policies.{start_caps}
use Rattle.cw_rights.specs.declared.capabilities.Caps.{Caps}
use Rattle.cw_states.specs.declared.uses.Uses.{Uses}
use Rattle.cw_states.specs.Rights.{caps_cmp}
use Rattle.cw_states.specs.States.{Lists, AreLists, count, pair, set_index, caps_index, states_of}
use Rattle.cw_states.specs.Below.{StayBelow}
use Rattle.cw_states.proofs.Meaning.{start_below}
use Rattle.cw_lemmas.proofs.Numbers.{mul_positive as right_positive}

-- an index, or 0 where there is none, is below the length of a list that isn't empty
module _ {A : Type 0} (test : A → Bool) (xs : List A) (some : 0 < length xs) (d : A) where
  index_below : (o : Option ℕ) → position test xs ≡ o → unwrap_or o 0 < length xs
  index_below None e = some
  index_below (Some i) e = (position-Some test xs i d e).0

left_positive : (m n q : ℕ) → q < m * n → 0 < m
left_positive zero n q l = let z : 0 * n ≡ 0 = zero-mul n in absurd (omega (arith, l, z))
left_positive (suc m) n q l = omega arith

module _ (v : Lists) where
  pub pair_below : (i j : ℕ) → i < length v.sets → j < length v.rights → pair v i j < count v
  pair_below i j l r = subst (λ n. pair v i j < n) (mul_comm (length v.rights) (length v.sets)) (mul-add-lt i (length v.rights) j (length v.sets) l r)

  module _ (q : ℕ) (l : q < count v) where
    rights_there : 0 < length v.rights
    rights_there = right_positive (length v.sets) (length v.rights) q l

    pub row_below : q / length v.rights < length v.sets
    row_below = div_below q (length v.rights) (length v.sets) rights_there l

    pub column_below : q % length v.rights < length v.rights
    column_below = mod_below q (length v.rights) rights_there

    caps_below : (c : Caps) → caps_index v c < length v.rights
    caps_below c =
        index_below (λ x. eq_by_cmp caps_cmp x c) v.rights rights_there (start_caps v.policy) (position (λ x. eq_by_cmp caps_cmp x c) v.rights) refl

    set_below : (set : ℕ) → set_index v set < length v.sets
    set_below set =
        index_below (λ x. nat_eq x set) v.sets (left_positive (length v.sets) (length v.rights) q l) 0 (position (λ x. nat_eq x set) v.sets) refl

pub stay_below : (uses : Uses) (v : Lists) → AreLists uses v → StayBelow (states_of v)
stay_below uses v are = record {
  start = start_below uses v are;
  granted = λ q a l. pair_below v (q / length v.rights) _ (row_below v q l) (caps_below v q l _);
  opened = λ q d l. pair_below v (q / length v.rights) _ (row_below v q l) (caps_below v q l _);
  closed = λ q d l. pair_below v (q / length v.rights) _ (row_below v q l) (caps_below v q l _);
  lettered = λ q label l. pair_below v _ (q % length v.rights) (set_below v q l _) (column_below v q l);
  with_rights = λ x q l m. pair_below v (x / length v.rights) (q % length v.rights) (row_below v x l) (column_below v q m);
}
