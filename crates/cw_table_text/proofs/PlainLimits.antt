-- The line of a valid policy's limits has no LF.
use Rattle.std.proofs.Common.{◌≡◌, ℕ, zero, suc, ◌+◌, ◌^◌, ◌<◌, ◌≤◌, ◌⊎◌, inl, inr, true, false, ltb, eqb, List, [], ◌∷◌, ◌++◌, length, refl, sym, subst, arith}
use Rattle.std.specs.Prelude.{slice_get, codes}
use Rattle.std.specs.Fmt.{decimal}
use Rattle.std.specs.List.{All, list_all, flat_map, enumerate_from}
use Rattle.std.proofs.lemmas.List.Elements.{All-append, All-nil, All-head, All-tail}
use Rattle.cw_core.specs.Numerals.{hexadecimal}
use Rattle.cw_core.proofs.Sets.{IsBelow_from_lt}
use Rattle.cw_rights.specs.declared.capabilities.Limit.{Limit}
use Rattle.cw_rights.specs.Policies.{PlainDescriptor, PlainPolicy}
use Rattle.cw_rights.specs.Valid.{is_name, is_name_byte, is_name_start, IsDescriptorName, IsValidDescriptor, IsLimitWithin, IsValid}
use Rattle.cw_rights.specs.Names.{all_rights}
use Rattle.cw_text.specs.Lines.{IsFree, set_text}
use Rattle.cw_text.proofs.Free.{free_from_test, decimal_free, set_text_free}
use Rattle.cw_text.specs.LimitsText.{name_if, descriptor_name, limit_text}
use Rattle.cw_table_text.specs.TablesText.{limits_text}
use Rattle.std.proofs.lemmas.Bool.{and_parts as both_pass}

cat : (a b : List ℕ) → IsFree 10 a → IsFree 10 b → IsFree 10 (a ++ b)
cat a b p q = All-append (λ (x : ℕ). eqb x 10 ≡ false) a b p q

start_passes : (b : ℕ) → is_name_start b ≡ true → is_name_byte b ≡ true
start_passes b e = rw e refl

-- a separator that stands in no name, below the digits
module _ (separator : ℕ) (unnamed : is_name_byte separator ≡ false) (low : ltb 47 separator ≡ false) where
  digit_free : (name : List ℕ) (n : ℕ) → n < 3 → name ≡ (48 + n) ∷ [] → IsFree separator name
  digit_free name zero lt e = subst (IsFree separator) (sym e) (free_from_test (λ b. ltb 47 b) separator (48 ∷ []) low refl)
  digit_free name (suc zero) lt e = subst (IsFree separator) (sym e) (free_from_test (λ b. ltb 47 b) separator (49 ∷ []) low refl)
  digit_free name (suc (suc zero)) lt e = subst (IsFree separator) (sym e) (free_from_test (λ b. ltb 47 b) separator (50 ∷ []) low refl)
  digit_free name (suc (suc (suc n))) lt e = absurd (omega (arith, lt))

  letters_free : (name : List ℕ) → is_name name ≡ true → IsFree separator name
  letters_free [] e = absurd (cc)
  letters_free (b ∷ name) e =
      let p = both_pass (is_name_start b) (list_all is_name_byte name) e in
      free_from_test is_name_byte separator (b ∷ name) unnamed (rw (start_passes b p.0, p.1) refl)

  name_free : (name : List ℕ) → IsDescriptorName name → IsFree separator name
  name_free name (inl e) = letters_free name e
  name_free name (inr d) = digit_free name d.0 d.1.0 d.1.1

  pub named_free : (ds : List PlainDescriptor) (k : ℕ) → All IsValidDescriptor ds → IsFree separator (name_if (slice_get ds k))
  named_free [] k all = All-nil (λ (x : ℕ). eqb x separator ≡ false)
  named_free (d ∷ ds) zero all = name_free d.name (All-head IsValidDescriptor d ds all).name
  named_free (d ∷ ds) (suc k) all = named_free ds k (All-tail IsValidDescriptor d ds all)

mask_free : (set : ℕ) → set ≤ all_rights → IsFree 10 (hexadecimal set)
unfolding set_text
mask_free set small = set_text_free 10 1 set refl (λ s member. let low = IsBelow_from_lt 12 set (omega (arith, small)) s member in omega (arith, low))

limit_free : (policy : PlainPolicy) (index : ℕ) (limit : Limit) → IsValid policy → index < 2 ^ 64 → limit.keep.0 ≤ all_rights → IsFree 10 (limit_text policy index limit)
limit_free policy index limit valid small keep =
    let name : List ℕ = descriptor_name policy limit.descriptor in
    let mask : List ℕ = hexadecimal limit.keep.0 in
    let index_is = decimal_free 10 index refl small in
    let name_is = named_free 10 refl refl policy.descriptors limit.descriptor valid.descriptors in
    let mask_is = mask_free limit.keep.0 keep in
    let comma = free_from_test (λ b. ltb 31 b) 10 (codes ",") refl refl in
    let nothing : IsFree 10 [] = All-nil (λ (x : ℕ). eqb x 10 ≡ false) in
    let last = cat (codes "," ++ mask) [] (cat (codes ",") mask comma mask_is) nothing in
    let middle = cat (codes "," ++ name) ((codes "," ++ mask) ++ []) (cat (codes ",") name comma name_is) last in
    let fields = cat (decimal index) ((codes "," ++ name) ++ ((codes "," ++ mask) ++ [])) index_is middle in
    let opened = cat (codes "X" ++ codes "(") (decimal index ++ ((codes "," ++ name) ++ ((codes "," ++ mask) ++ []))) (free_from_test (λ b. ltb 31 b) 10 (codes "X" ++ codes "(") refl refl) fields in
    cat (codes " ") ((((codes "X" ++ codes "(") ++ (decimal index ++ ((codes "," ++ name) ++ ((codes "," ++ mask) ++ []))))) ++ codes ")") (free_from_test (λ b. ltb 31 b) 10 (codes " ") refl refl)
    (cat ((codes "X" ++ codes "(") ++ (decimal index ++ ((codes "," ++ name) ++ ((codes "," ++ mask) ++ [])))) (codes ")") opened (free_from_test (λ b. ltb 31 b) 10 (codes ")") refl refl))

each_limit_free : (policy : PlainPolicy) (k : ℕ) (ls : List Limit) → IsValid policy → k + length ls ≤ 12 → All (IsLimitWithin (length policy.descriptors)) ls
    → IsFree 10 (flat_map (λ row. limit_text policy row.0 row.1) (enumerate_from k ls))
each_limit_free policy k [] valid few all = All-nil (λ (x : ℕ). eqb x 10 ≡ false)
each_limit_free policy k (l ∷ ls) valid few all =
    let here = All-head (IsLimitWithin (length policy.descriptors)) l ls all in
    cat (limit_text policy k l) (flat_map (λ row. limit_text policy row.0 row.1) (enumerate_from (k + 1) ls)) (limit_free policy k l valid (omega (arith, few)) here.1)
    (each_limit_free policy (k + 1) ls valid (omega (arith, few)) (All-tail (IsLimitWithin (length policy.descriptors)) l ls all))

pub limits_free : (policy : PlainPolicy) → IsValid policy → IsFree 10 (limits_text policy)
unfolding limits_text
limits_free policy valid =
    cat (codes "#define CW_LIMITS(X)") (flat_map (λ row. limit_text policy row.0 row.1) (enumerate_from 0 policy.limits)) (free_from_test (λ b. ltb 31 b) 10 (codes "#define CW_LIMITS(X)") refl refl)
    (each_limit_free policy 0 policy.limits valid (omega (arith, valid.few_limits)) valid.limits)

pub small_format : (policy : PlainPolicy) → IsValid policy → policy.format < 2 ^ 8
small_format policy valid = by_case valid.format
  where
    by_case : (policy.format ≡ 1) ⊎ (policy.format ≡ 2) → policy.format < 2 ^ 8
    by_case (inl e) = omega (arith, e)
    by_case (inr e) = omega (arith, e)
