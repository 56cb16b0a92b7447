-- Flags as the bits of limbs.
use Rattle.std.proofs.Common.{◌≡◌, ◌≢◌, ℕ, zero, suc, ◌+◌, ◌-◌, ◌*◌, ◌/◌, ◌%◌, ◌^◌, ◌<◌, ◌≤◌, Bool, true, false, cond, eqb, List, [], ◌∷◌, ◌++◌, length, get_or, set, refl, sym, ap, ◌∙◌, subst, bit_and, bit_or, arith, inl, inr}
use Rattle.std.specs.Int.{bit_at, from_bool}
use Rattle.std.specs.Int.Count.{ones}
use Rattle.std.proofs.lemmas.Bool.{cases_eq, cases_lt, eqb-true, eqb-false}
use Rattle.std.proofs.lemmas.List.{length-set, length_push, get_or-set_same, get_or-set_other, get_or_append_left, get_or_push, get_or_past, get_or_read, ext_get_or}
use Rattle.std.proofs.lemmas.List.FromFn.{length-map-range_with_len, get_or-map-range_with_len, map-range_with_len_more}
use Rattle.std.proofs.lemmas.Nat.{ones_cat, mod-pow-add, mod_below, pow_pos, pow-add, or_shifted, or_comm, shl_whole, one_shl, and_mask}
use Rattle.std.proofs.lemmas.Nat.Bits.{bit_at-lt, bit_at_cat_low, bit_at_cat_high, shr_and_one}
use Rattle.cw_links.specs.Flags.{number, rank}
use Rattle.cw_links.specs.Limbs.{flag_in, flags_of, AreKept}
use Rattle.cw_links.proofs.Ranks.{rank_more, rank_all, rank-append, rank-le_index, number_push, number-none, number-le}

pub length-flags_of : (limbs : List ℕ) (count : ℕ) → length (flags_of limbs count) ≡ count
unfolding flags_of
length-flags_of limbs count = length-map-range_with_len (flag_in limbs) 0 count

pub flags_of-at : (limbs : List ℕ) (count index : ℕ) → index < count → get_or (flags_of limbs count) index false ≡ flag_in limbs index
unfolding flags_of
flags_of-at limbs count index h = get_or-map-range_with_len (flag_in limbs) 0 count index index false h (omega arith)

flags_of_more : (limbs : List ℕ) (count : ℕ) → flags_of limbs (count + 1) ≡ flags_of limbs count ++ flag_in limbs count ∷ []
unfolding flags_of
flags_of_more limbs count = map-range_with_len_more (flag_in limbs) 0 count count (omega arith)

-- ---- the number of flags before an index of a limb
ones_of_bit : (n : ℕ) → n < 2 → ones n ≡ n
unfolding ones
ones_of_bit zero h = refl
ones_of_bit (suc zero) h = refl
ones_of_bit (suc (suc n)) h = absurd (omega (arith, h))

-- one more bit of a limb
ones_more : (limb bit : ℕ) → ones (limb % 2 ^ (bit + 1)) ≡ ones (limb % 2 ^ bit) + bit_at limb bit
ones_more limb bit =
    let turned : bit + 1 ≡ 1 + bit = omega arith in
    let parts : limb % 2 ^ (1 + bit) ≡ bit_at limb bit * 2 ^ bit + limb % 2 ^ bit = mod-pow-add limb 1 bit in
    let both : ones (bit_at limb bit * 2 ^ bit + limb % 2 ^ bit) ≡ ones (bit_at limb bit) + ones (limb % 2 ^ bit) =
    ones_cat bit (bit_at limb bit) (limb % 2 ^ bit) (mod_below limb (2 ^ bit) (pow_pos bit)) in
    ap (λ (n : ℕ). ones (limb % 2 ^ n)) turned ∙ ap ones parts ∙ both ∙ omega (arith, ones_of_bit (bit_at limb bit) (bit_at-lt limb bit))

bit_of_flag : (limbs : List ℕ) (index : ℕ) → cond (flag_in limbs index) 1 0 ≡ bit_at (get_or limbs (index / 64) 0) (index % 64)
bit_of_flag limbs index = at (bit_at (get_or limbs (index / 64) 0) (index % 64)) (bit_at-lt (get_or limbs (index / 64) 0) (index % 64))
  where
    at : (n : ℕ) → n < 2 → cond (eqb n 1) 1 0 ≡ n
    at zero h = refl
    at (suc zero) h = refl
    at (suc (suc n)) h = absurd (omega (arith, h))

bit_in_limb : (limbs : List ℕ) (count k bit : ℕ) → bit < 64 → 64 * k + bit < count →
    cond (get_or (flags_of limbs count) (64 * k + bit) false) 1 0 ≡ bit_at (get_or limbs k 0) bit
bit_in_limb limbs count k bit small within =
    let quotient : (64 * k + bit) / 64 ≡ k = omega (arith, small) in
    let remainder : (64 * k + bit) % 64 ≡ bit = omega (arith, small) in
    rw (flags_of-at limbs count (64 * k + bit) within, bit_of_flag limbs (64 * k + bit), quotient, remainder) refl

pub rank_in_limb : (limbs : List ℕ) (count k bit : ℕ) → bit < 64 → 64 * k + bit ≤ count →
    rank (flags_of limbs count) (64 * k + bit) ≡ rank (flags_of limbs count) (64 * k) + ones (get_or limbs k 0 % 2 ^ bit)
rank_in_limb limbs count k zero small within =
    let none : get_or limbs k 0 % 2 ^ 0 ≡ 0 = omega arith in
    let first : 64 * k + 0 ≡ 64 * k = omega arith in
    ap (rank (flags_of limbs count)) first ∙ omega (arith, ap ones none, ones_of_bit 0 (omega arith))
rank_in_limb limbs count k (suc bit) small within =
    let next : suc bit ≡ bit + 1 = omega arith in
    let further : 64 * k + suc bit ≡ 64 * k + bit + 1 = omega arith in
    let more : rank (flags_of limbs count) (64 * k + bit + 1) ≡ rank (flags_of limbs count) (64 * k + bit) + cond (get_or (flags_of limbs count) (64 *
    k + bit) false) 1 0 =
    rank_more (flags_of limbs count) (64 * k + bit) (omega (arith, within, length-flags_of limbs count)) in
    let ones_in : ones (get_or limbs k 0 % 2 ^ suc bit) ≡ ones (get_or limbs k 0 % 2 ^ bit) + bit_at (get_or limbs k 0) bit =
    ap (λ (n : ℕ). ones (get_or limbs k 0 % 2 ^ n)) next ∙ ones_more (get_or limbs k 0) bit in
    ap (rank (flags_of limbs count)) further ∙ omega (
      arith,
      more,
      ones_in,
      bit_in_limb limbs count k bit (omega (arith, small)) (omega (arith, within)),
      rank_in_limb limbs count k bit (omega (arith, small)) (omega (arith, within)),
    )

-- ---- one flag more
-- the limbs with this bit at the index n, and all others as they were
record Puts (limbs more : List ℕ) (n bit : ℕ) : Type 0 where
  here : get_or more (n / 64) 0 ≡ bit * 2 ^ (n % 64) + get_or limbs (n / 64) 0
  others : (k : ℕ) → k ≢ n / 64 → get_or more k 0 ≡ get_or limbs k 0

same_flag : (limbs more : List ℕ) (n bit index : ℕ) → Puts limbs more n bit → index < n → flag_in more index ≡ flag_in limbs index
same_flag limbs more n bit index puts below =
    elim (cases_eq (index / 64) (n / 64)) [
      | inl e ↦
          let here : bit_at (get_or more (n / 64) 0) (index % 64) ≡ bit_at (get_or limbs (n / 64) 0) (index % 64) =
          ap (λ (w : ℕ). bit_at w (index % 64)) puts.here ∙ bit_at_cat_low bit (n % 64) (get_or limbs (n / 64) 0) (index % 64) (omega (arith, e, below)) in
          subst (λ (q : ℕ). eqb (bit_at (get_or more q 0) (index % 64)) 1 ≡ eqb (bit_at (get_or limbs q 0) (index % 64)) 1) (sym e) (ap (λ (b : ℕ). eqb
          b 1) here)
      | inr ne ↦ ap (λ (w : ℕ). eqb (bit_at w (index % 64)) 1) (puts.others (index / 64) ne)
    ]

new_flag : (limbs more : List ℕ) (n : ℕ) (flag : Bool) → Puts limbs more n (cond flag 1 0) → get_or limbs (n / 64) 0 < 2 ^ (n % 64) → flag_in more n ≡ flag
new_flag limbs more n flag puts clear =
    let high : bit_at (cond flag 1 0 * 2 ^ (n % 64) + get_or limbs (n / 64) 0) (n % 64) ≡ bit_at (cond flag 1 0) (n % 64 - n % 64) =
    bit_at_cat_high (cond flag 1 0) (n % 64) (get_or limbs (n / 64) 0) (n % 64) clear (omega arith) in
    let lowest : n % 64 - n % 64 ≡ 0 = omega arith in
    ap (λ (w : ℕ). eqb (bit_at w (n % 64)) 1) puts.here ∙ ap (λ (b : ℕ). eqb b 1) (high ∙ ap (bit_at (cond flag 1 0)) lowest) ∙ at flag
  where
    at : (flag : Bool) → eqb (bit_at (cond flag 1 0) 0) 1 ≡ flag
    at true = refl
    at false = refl

same_flags : (limbs more : List ℕ) (n bit : ℕ) → Puts limbs more n bit → flags_of more n ≡ flags_of limbs n
same_flags limbs more n bit puts =
    ext_get_or false (flags_of more n) (flags_of limbs n) (length-flags_of more n ∙ sym (length-flags_of limbs n)) (λ index h.
    let below : index < n = omega (arith, h, length-flags_of more n) in
    flags_of-at more n index below ∙ same_flag limbs more n bit index puts below ∙ sym (flags_of-at limbs n index below))

flags_of_puts : (limbs more : List ℕ) (n : ℕ) (flag : Bool) → Puts limbs more n (cond flag 1 0) → get_or limbs (n / 64) 0 < 2 ^ (n % 64) →
    flags_of more (n + 1) ≡ flags_of limbs n ++ flag ∷ []
flags_of_puts limbs more n flag puts clear =
    flags_of_more more n ∙ ap (λ (flags : List Bool). flags ++ flag_in more n ∷ []) (same_flags limbs more n (cond flag 1 0) puts)
    ∙ ap (λ (m : Bool). flags_of limbs n ++ m ∷ []) (new_flag limbs more n flag puts clear)

-- ---- what is kept
-- The lists with a limb more, where so many indices end with one.
record IsBegun (limbs before more counts : List ℕ) (count : ℕ) : Type 0 where
  long : length more ≡ (count + 64) / 64
  same_length : length counts ≡ (count + 64) / 64
  same : (k : ℕ) → get_or more k 0 ≡ get_or limbs k 0
  ranks : (k : ℕ) → k < length counts → get_or counts k 0 ≡ rank (flags_of limbs count) (64 * k)

with_zero : (limbs : List ℕ) (k : ℕ) → get_or (limbs ++ 0 ∷ []) k 0 ≡ get_or limbs k 0
with_zero [] zero = refl
with_zero [] (suc k) = refl
with_zero (w ∷ limbs) zero = refl
with_zero (w ∷ limbs) (suc k) = with_zero limbs k

begins : (limbs before more counts : List ℕ) (count flagged : ℕ) (whole : Bool) → AreKept limbs before count flagged → eqb (count % 64) 0 ≡ whole →
    more ≡ cond whole (limbs ++ 0 ∷ []) limbs → counts ≡ cond whole (before ++ flagged ∷ []) before → IsBegun limbs before more counts count
begins limbs before more counts count flagged true kept whole is_more is_counts =
    let ends : count % 64 ≡ 0 = eqb-true (count % 64) 0 whole in
    let limbs_more : length more ≡ length limbs + 1 = ap length is_more ∙ length_push limbs 0 in
    let counts_more : length counts ≡ length before + 1 = ap length is_counts ∙ length_push before flagged in
    record {
      long = omega (arith, limbs_more, kept.long, ends);
      same_length = omega (arith, counts_more, kept.counts, ends);
      same = λ k. ap (λ (ws : List ℕ). get_or ws k 0) is_more ∙ with_zero limbs k;
      ranks = λ k h. elim (cases_lt k (length before)) [
        | inl lt ↦ ap (λ (cs : List ℕ). get_or cs k 0) is_counts ∙ get_or_append_left before (flagged ∷ []) 0 k lt ∙ kept.ranks k lt
        | inr le ↦
            let last : length before ≡ k = omega (arith, le, h, counts_more) in
            let here : count ≡ 64 * k = omega (arith, last, kept.counts, ends) in
            ap (λ (cs : List ℕ). get_or cs k 0) is_counts ∙ get_or_push before flagged 0 k last ∙ kept.all
            ∙ sym (rank_all (flags_of limbs count) (64 * k) (omega (arith, here, length-flags_of limbs count)))
      ];
    }
begins limbs before more counts count flagged false kept inside is_more is_counts =
    let rest : count % 64 ≡ 0 → ⊥ = eqb-false (count % 64) 0 inside in
    let up : (count + 63) / 64 ≡ (count + 64) / 64 = omega (arith, rest) in
    record {
      long = ap length is_more ∙ kept.long ∙ up;
      same_length = ap length is_counts ∙ kept.counts ∙ up;
      same = λ k. ap (λ (ws : List ℕ). get_or ws k 0) is_more;
      ranks = λ k h. ap (λ (cs : List ℕ). get_or cs k 0) is_counts ∙ kept.ranks k (omega (arith, h, ap length is_counts));
    }

-- the limbs with the bit of the index n
abbrev with_bit : List ℕ → ℕ → Bool → List ℕ
with_bit limbs n flag = set limbs (n / 64) (cond flag 1 0 * 2 ^ (n % 64) + get_or limbs (n / 64) 0)

puts_bit : (limbs before more counts : List ℕ) (count : ℕ) (flag : Bool) → IsBegun limbs before more counts count →
    Puts limbs (with_bit more count flag) count (cond flag 1 0)
puts_bit limbs before more counts count flag begun = record {
  here = get_or-set_same more (count / 64) (cond flag 1 0 * 2 ^ (count % 64) + get_or more (count / 64) 0) 0 (omega (arith, begun.long))
      ∙ ap (λ (w : ℕ). cond flag 1 0 * 2 ^ (count % 64) + w) (begun.same (count / 64));
  others = λ k ne. get_or-set_other more (count / 64) k (cond flag 1 0 * 2 ^ (count % 64) + get_or more (count / 64) 0) 0 ne ∙ begun.same k;
}

clears : (limbs more : List ℕ) (n : ℕ) (flag : Bool) → Puts limbs more n (cond flag 1 0) → length more ≡ (n + 64) / 64 →
    get_or limbs (n / 64) 0 < 2 ^ (n % 64) →
    get_or more ((n + 1) / 64) 0 < 2 ^ ((n + 1) % 64)
clears limbs more n flag puts long clear =
    elim (cases_eq ((n + 1) % 64) 0) [
      | inl ends ↦
          let past : get_or more ((n + 1) / 64) 0 ≡ 0 = get_or_past more ((n + 1) / 64) 0 (omega (arith, long, ends)) in
          omega (arith, past, pow_pos ((n + 1) % 64))
      | inr inside ↦
          let quotient : n / 64 ≡ (n + 1) / 64 = omega (arith, inside) in
          let remainder : n % 64 + 1 ≡ (n + 1) % 64 = omega (arith, inside) in
          let below : get_or more (n / 64) 0 < 2 ^ (n % 64 + 1) = at flag puts.here in
          subst (λ (q : ℕ). get_or more q 0 < 2 ^ ((n + 1) % 64)) quotient (subst (λ (r : ℕ). get_or more (n / 64) 0 < 2 ^ r) remainder below)
    ]
  where
    at : (flag : Bool) → get_or more (n / 64) 0 ≡ cond flag 1 0 * 2 ^ (n % 64) + get_or limbs (n / 64) 0 → get_or more (n / 64) 0 < 2 ^ (n % 64 + 1)
    at true here = omega (arith, here, clear, pow-add 2 (n % 64) 1)
    at false here = omega (arith, here, clear, pow-add 2 (n % 64) 1)

pushes : (limbs before more counts : List ℕ) (count flagged : ℕ) (flag : Bool) → AreKept limbs before count flagged → IsBegun limbs before more counts count →
    flags_of (with_bit more count flag) (count + 1) ≡ flags_of limbs count ++ flag ∷ []
pushes limbs before more counts count flagged flag kept begun =
    flags_of_puts limbs (with_bit more count flag) count flag (puts_bit limbs before more counts count flag begun) kept.clear

keeps : (limbs before more counts : List ℕ) (count flagged : ℕ) (flag : Bool) → AreKept limbs before count flagged → count < 4294967295 →
    IsBegun limbs before more counts count →
    AreKept (with_bit more count flag) counts (count + 1) (flagged + cond flag 1 0)
keeps limbs before more counts count flagged flag kept few begun =
    let flags : flags_of (with_bit more count flag) (count + 1) ≡ flags_of limbs count ++ flag ∷ [] =
    pushes limbs before more counts count flagged flag kept begun in
    let long : length (with_bit more count flag) ≡ (count + 64) / 64 =
    length-set more (count / 64) (cond flag 1 0 * 2 ^ (count % 64) + get_or more (count / 64) 0) ∙ begun.long in
    record {
      few = omega (arith, few);
      long = omega (arith, long);
      counts = omega (arith, begun.same_length);
      clear = clears limbs (with_bit more count flag) count flag (puts_bit limbs before more counts count flag begun) long kept.clear;
      ranks = λ k h.
          begun.ranks k h ∙ sym (rank-append (flags_of limbs count) (flag ∷ []) (64 * k) (omega (arith, h, begun.same_length, length-flags_of limbs count)))
          ∙ sym (ap (λ (ms : List Bool). rank ms (64 * k)) flags);
      all = omega (arith, kept.all, ap number flags, number_push (flags_of limbs count) flag);
    }

-- what is written into a limb
written : (limbs before more counts : List ℕ) (count flagged limb bit : ℕ) (flag : Bool) → AreKept limbs before count flagged →
    IsBegun limbs before more counts count →
    limb ≡ get_or more (count / 64) 0 → bit ≡ cond flag 1 0 → set more (count / 64) (bit_or limb (bit * 2 ^ (count % 64) % 2 ^ 64)) ≡ with_bit more count flag
written limbs before more counts count flagged limb bit flag kept begun is_limb is_bit =
    let small : bit < 2 ^ 1 = subst (λ (b : ℕ). b < 2) (sym is_bit) (at flag) in
    let clear : limb < 2 ^ (count % 64) = subst (λ (w : ℕ). w < 2 ^ (count % 64)) (sym (is_limb ∙ begun.same (count / 64))) kept.clear in
    let shifted : bit * 2 ^ (count % 64) % 2 ^ 64 ≡ bit * 2 ^ (count % 64) = shl_whole bit 1 (count % 64) 64 small (omega arith) in
    let put : bit_or limb (bit * 2 ^ (count % 64)) ≡ bit * 2 ^ (count % 64) + limb =
    or_comm limb (bit * 2 ^ (count % 64)) ∙ or_shifted bit (count % 64) limb clear in
    ap (λ (w : ℕ). set more (count / 64) w) (ap (bit_or limb) shifted ∙ put ∙ ap (λ (w : ℕ). bit * 2 ^ (count % 64) + w) is_limb
    ∙ ap (λ (b : ℕ). b * 2 ^ (count % 64) + get_or more (count / 64) 0) is_bit)
  where
    at : (flag : Bool) → cond flag 1 0 < 2
    at true = omega arith
    at false = omega arith

flagged_le : (limbs before : List ℕ) (count flagged : ℕ) → AreKept limbs before count flagged → flagged ≤ count
flagged_le limbs before count flagged kept = omega (arith, kept.all, number-le (flags_of limbs count), length-flags_of limbs count)

-- what stands in the fields after a push
pub record IsPushed (limbs before pushed counts : List ℕ) (count flagged bit : ℕ) (flag : Bool) : Type 0 where
  pub kept : AreKept pushed counts (count + 1) (flagged + bit)
  pub flags : flags_of pushed (count + 1) ≡ flags_of limbs count ++ flag ∷ []
  pub fits : flagged + bit < 2 ^ 32

pub push_leaves : (limbs before more counts : List ℕ) (count flagged limb bit : ℕ) (flag : Bool) → AreKept limbs before count flagged →
    length (flags_of limbs count) < 4294967295 →
    more ≡ cond (eqb (count % 64) 0) (limbs ++ 0 ∷ []) limbs → counts ≡ cond (eqb (count % 64) 0) (before ++ flagged ∷ []) before →
    limb ≡ get_or more (count / 64) limb → bit ≡ from_bool flag →
    IsPushed limbs before (set more (count / 64) (bit_or limb (bit * 2 ^ (count % 64) % 2 ^ 64))) counts count flagged bit flag
push_leaves limbs before more counts count flagged limb bit flag kept room is_more is_counts reads from =
    let few : count < 4294967295 = omega (arith, room, length-flags_of limbs count) in
    let begun : IsBegun limbs before more counts count = begins limbs before more counts count flagged (eqb (count % 64) 0) kept refl is_more is_counts in
    let is_bit : bit ≡ cond flag 1 0 = from ∙ bit_of flag in
    let is_limb : limb ≡ get_or more (count / 64) 0 = get_or_read more (count / 64) limb (omega (arith, begun.long)) reads 0 in
    let puts : set more (count / 64) (bit_or limb (bit * 2 ^ (count % 64) % 2 ^ 64)) ≡ with_bit more count flag =
    written limbs before more counts count flagged limb bit flag kept begun is_limb is_bit in
    rw (puts, is_bit) (record {
      kept = keeps limbs before more counts count flagged flag kept few begun;
      flags = pushes limbs before more counts count flagged flag kept begun;
      fits = fits flag few;
    })
  where
    bit_of : (flag : Bool) → from_bool flag ≡ cond flag 1 0
    bit_of true = refl
    bit_of false = refl

    fits : (flag : Bool) → count < 4294967295 → flagged + cond flag 1 0 < 2 ^ 32
    fits true few = omega (arith, few, flagged_le limbs before count flagged kept)
    fits false few = omega (arith, few, flagged_le limbs before count flagged kept)

-- ---- what is read
pub flags_of_none : (limbs : List ℕ) → flags_of limbs 0 ≡ []
unfolding flags_of
flags_of_none limbs = refl

pub nothing_kept : AreKept [] [] 0 0
nothing_kept = record {
  few = omega arith;
  long = refl;
  counts = refl;
  clear = omega arith;
  ranks = λ k h. absurd (omega (arith, h));
  all = sym (ap number (flags_of_none []) ∙ number-none);
}

pub flag_read : (limbs before : List ℕ) (count flagged index limb : ℕ) → AreKept limbs before count flagged → index < count →
    limb ≡ get_or limbs (index / 64) limb →
    eqb (bit_and (limb / 2 ^ (index % 64)) 1) 1 ≡ get_or (flags_of limbs count) index false
flag_read limbs before count flagged index limb kept within reads =
    let is_limb : limb ≡ get_or limbs (index / 64) 0 = get_or_read limbs (index / 64) limb (omega (arith, within, kept.long)) reads 0 in
    ap (λ (b : ℕ). eqb b 1) (shr_and_one limb (index % 64)) ∙ ap (λ (w : ℕ). eqb (bit_at w (index % 64)) 1) is_limb ∙ sym (flags_of-at limbs count index within)

pub rank_read : (limbs before : List ℕ) (count flagged index first limb : ℕ) → AreKept limbs before count flagged → index < count →
    first ≡ get_or before (index / 64) first → limb ≡ get_or limbs (index / 64) limb →
    first + ones (bit_and limb (1 * 2 ^ (index % 64) % 2 ^ 64 - 1)) ≡ rank (flags_of limbs count) index
rank_read limbs before count flagged index first limb kept within reads_first reads_limb =
    let is_first : first ≡ get_or before (index / 64) 0 = get_or_read before (index / 64) first (omega (arith, within, kept.counts)) reads_first 0 in
    let is_limb : limb ≡ get_or limbs (index / 64) 0 = get_or_read limbs (index / 64) limb (omega (arith, within, kept.long)) reads_limb 0 in
    let shifted : 1 * 2 ^ (index % 64) % 2 ^ 64 ≡ 2 ^ (index % 64) = one_shl (index % 64) 64 (omega arith) in
    let low : bit_and limb (1 * 2 ^ (index % 64) % 2 ^ 64 - 1) ≡ limb % 2 ^ (index % 64) =
    ap (λ (n : ℕ). bit_and limb (n - 1)) shifted ∙ and_mask limb (index % 64) in
    let bits : ones (bit_and limb (1 * 2 ^ (index % 64) % 2 ^ 64 - 1)) ≡ ones (get_or limbs (index / 64) 0 % 2 ^ (index % 64)) =
    ap ones (low ∙ ap (λ (w : ℕ). w % 2 ^ (index % 64)) is_limb) in
    let apart : 64 * (index / 64) + index % 64 ≡ index = omega arith in
    let sum : first + ones (bit_and limb (1 * 2 ^ (index % 64) % 2 ^ 64 - 1)) ≡ rank (flags_of limbs count) (64 * (index / 64) + index % 64) =
    omega (
      arith,
      bits,
      is_first,
      kept.ranks (index / 64) (omega (arith, within, kept.counts)),
      rank_in_limb limbs count (index / 64) (index % 64) (omega arith) (omega (arith, within)),
    ) in
    sum ∙ ap (rank (flags_of limbs count)) apart

pub rank_fits : (limbs before : List ℕ) (count flagged index : ℕ) → AreKept limbs before count flagged → index ≤ count →
    rank (flags_of limbs count) index < 2 ^ 32
rank_fits limbs before count flagged index kept within = omega (arith, rank-le_index (flags_of limbs count) index, within, kept.few)
