-- The sets that names stand for have no further rights than the twelve.
use Rattle.std.proofs.Common.{◌≡◌, refl, ap, sym, length, ℕ, ◌≤◌, List, [], ◌∷◌, ◌++◌, Bool, true, false, cond, nat_eq, Option, Some, None, IfSome, arith}
use Rattle.std.specs.Str.{bytes_eq}
use Rattle.std.proofs.lemmas.Slice.Eq.{HasBytesAt, text_from_reads}
use Rattle.cw_rights.specs.Names.{joint_rights, rights_in, mask_in, right_mask, all_rights}

within_cond : (b : Bool) (n : ℕ) (o : Option ℕ) → n ≤ all_rights → IfSome o (λ n. n ≤ all_rights) → IfSome (cond b (Some n) o) (λ n. n ≤ all_rights)
within_cond true n o h k = h
within_cond false n o h k = k

abbrev AllWithin : List (List ℕ × ℕ) → Type 0
AllWithin [] = Unit {0}
AllWithin (r ∷ rest) = (r.1 ≤ all_rights) × AllWithin rest

within_in : (rs : List (List ℕ × ℕ)) (name : List ℕ) → AllWithin rs → IfSome (mask_in rs name) (λ n. n ≤ all_rights)
within_in [] name h = tt
within_in (r ∷ rest) name h = within_cond (bytes_eq name r.0) r.1 (mask_in rest name) h.0 (within_in rest name h.1)

joint_within : (b : Bool) → AllWithin (cond b joint_rights [])
joint_within true = (omega arith, (omega arith, tt))
joint_within false = tt

-- a name stands for some of the twelve rights
pub mask_within : (format : ℕ) (name : List ℕ) → IfSome (right_mask format name) (λ n. n ≤ all_rights)
mask_within format name = within_in (rights_in format) name (
  omega arith,
  (
    omega arith,
    (
      omega arith,
      (
        omega arith,
        (
          omega arith,
          (
            omega arith,
            (
              omega arith,
              (
                omega arith,
                (
                  omega arith,
                  (omega arith, (omega arith, (omega arith, joint_within (nat_eq format 2)))),
                ),
              ),
            ),
          ),
        ),
      ),
    ),
  ),
)

first_cond : (b : Bool) (m n : ℕ) (o p : Option ℕ) → (o ≡ Some n → p ≡ Some n) → cond b (Some m) o ≡ Some n → cond b (Some m) p ≡ Some n
first_cond true m n o p h e = e
first_cond false m n o p h e = h e

-- a name among the first ones
pub mask_first : (first more : List (List ℕ × ℕ)) (name : List ℕ) (mask : ℕ) → mask_in first name ≡ Some mask → mask_in (first ++ more) name ≡ Some mask
mask_first [] more name mask e = absurd cc
mask_first (r ∷ rest) more name mask e = first_cond (bytes_eq name r.0) r.1 mask (mask_in rest name) (mask_in (rest ++ more) name) (mask_first rest more name mask) e

behind_cond : (b : Bool) (m : ℕ) (o p q : Option ℕ) → (o ≡ None → p ≡ q) → cond b (Some m) o ≡ None → cond b (Some m) p ≡ q
behind_cond true m o p q h e = absurd cc
behind_cond false m o p q h e = h e

-- a name that is none of the first ones
pub mask_behind : (first more : List (List ℕ × ℕ)) (name : List ℕ) → mask_in first name ≡ None → mask_in (first ++ more) name ≡ mask_in more name
mask_behind [] more name e = refl
mask_behind (r ∷ rest) more name e = behind_cond (bytes_eq name r.0) r.1 (mask_in rest name) (mask_in (rest ++ more) name) (mask_in more name) (mask_behind rest more name) e

-- a name that was read byte by byte
pub mask_read : (rights : List (List ℕ × ℕ)) (name read : List ℕ) → length name ≡ length read → HasBytesAt name 0 read → mask_in rights read ≡ mask_in rights name
mask_read rights name read len bytes = ap (mask_in rights) (sym (text_from_reads name read len bytes))
