-- Indices more that aren't flagged.
use Rattle.std.proofs.Common.{◌≡◌, ℕ, zero, suc, ◌+◌, ◌-◌, ◌*◌, ◌/◌, ◌%◌, ◌^◌, ◌<◌, ◌≤◌, Bool, false, eqb, List, [], ◌∷◌, ◌++◌, length, get_or, replicate, refl, sym, ap, ◌∙◌, arith, inl, inr}
use Rattle.std.specs.Int.{bit_at, div_ceil}
use Rattle.std.proofs.lemmas.Bool.{cases_eq, cases_lt}
use Rattle.std.proofs.lemmas.List.{append-nil, length-append, length-replicate, get_or-replicate, get_or_append_left, get_or-append_right, get_or_past, ext_get_or}
use Rattle.std.proofs.lemmas.Nat.{pow_pos}
use Rattle.std.proofs.lemmas.Nat.Bits.{bit_at_above}
use Rattle.std.proofs.Math.Nat.{pow-le-pow_right}
use Rattle.cw_links.specs.Flags.{number, rank}
use Rattle.cw_links.specs.Limbs.{flag_in, flags_of, AreKept}
use Rattle.cw_links.proofs.Ranks.{rank-append, rank-append_right, rank-le, number-append, number-cons, number-none}
use Rattle.cw_links.proofs.Bits.{length-flags_of, flags_of-at}

-- none of so many is flagged
pub number-plain : (many : ℕ) → number (replicate many false) ≡ 0
number-plain zero = number-none
number-plain (suc many) = omega (arith, number-cons false (replicate many false), number-plain many)

pub rank-plain : (many index : ℕ) → rank (replicate many false) index ≡ 0
rank-plain many index = omega (arith, rank-le (replicate many false) index, number-plain many)

-- none more
pub none_more : (xs : List ℕ) (n x : ℕ) → n ≡ 0 → xs ≡ xs ++ replicate n x
none_more xs n x none = sym (append-nil xs) ∙ ap (λ (k : ℕ). xs ++ replicate k x) (sym none)

-- limbs more of 0 are read as none
zeros : (more k : ℕ) → get_or (replicate {A = ℕ} more 0) k 0 ≡ 0
zeros more k =
    elim (cases_lt k more) [
      | inl lt ↦ get_or-replicate more k 0 0 lt
      | inr le ↦ get_or_past (replicate more 0) k 0 (omega (arith, le, length-replicate {A = ℕ} more 0))
    ]

with_zeros : (limbs : List ℕ) (more k : ℕ) → get_or (limbs ++ replicate more 0) k 0 ≡ get_or limbs k 0
with_zeros [] more k = zeros more k
with_zeros (w ∷ limbs) more zero = refl
with_zeros (w ∷ limbs) more (suc k) = with_zeros limbs more k

-- there is no flag past the last index
limb_past : (limbs before : List ℕ) (count flagged index : ℕ) → AreKept limbs before count flagged → count ≤ index →
    get_or limbs (index / 64) 0 < 2 ^ (index % 64)
limb_past limbs before count flagged index kept past =
    elim (cases_eq (index / 64) (count / 64)) [
      | inl same ↦
          let up : 2 ^ (count % 64) ≤ 2 ^ (index % 64) = pow-le-pow_right (omega arith) (omega (arith, past, same)) in
          omega (arith, up, kept.clear, ap (λ (k : ℕ). get_or limbs k 0) same)
      | inr later ↦
          let none : get_or limbs (index / 64) 0 ≡ 0 = get_or_past limbs (index / 64) 0 (omega (arith, past, later, kept.long)) in
          omega (arith, none, pow_pos (index % 64))
    ]

flag_past : (limbs before : List ℕ) (count flagged index : ℕ) → AreKept limbs before count flagged → count ≤ index → flag_in limbs index ≡ false
flag_past limbs before count flagged index kept past =
    ap (λ (b : ℕ). eqb b 1) (bit_at_above (get_or limbs (index / 64) 0) (index % 64) (index % 64) (limb_past limbs before count flagged index kept past) (omega arith))

-- so many limbs are missing
pub limbs_missing : (limbs : List ℕ) (count many up long : ℕ) → length limbs ≡ (count + 63) / 64 → up ≡ div_ceil (count + many) 64 → long ≡ length limbs →
    length limbs + (up - long) ≡ (count + many + 63) / 64
limbs_missing limbs count many up long are is_up is_long =
    let rounded : div_ceil (count + many) 64 ≡ (count + many + 63) / 64 = omega arith in
    omega (arith, are, is_up, is_long, rounded)

-- limbs and counts for so many indices more
module _ (limbs before : List ℕ) (count flagged many more : ℕ) (kept : AreKept limbs before count flagged) (few : count + many ≤ 4294967295)
    (enough : length limbs + more ≡ (count + many + 63) / 64) where
  same_read : (index : ℕ) → flag_in (limbs ++ replicate more 0) index ≡ flag_in limbs index
  same_read index = ap (λ (w : ℕ). eqb (bit_at w (index % 64)) 1) (with_zeros limbs more (index / 64))

  plain_at : (index : ℕ) → index < count + many → flag_in limbs index ≡ get_or (flags_of limbs count ++ replicate many false) index false
  plain_at index within =
      let long = length-flags_of limbs count in
      elim (cases_lt index count) [
        | inl old ↦
            sym (get_or_append_left (flags_of limbs count) (replicate many false) false index (omega (arith, old, long)) ∙ flags_of-at limbs count index old)
        | inr new ↦
            flag_past limbs before count flagged index kept new ∙ sym (get_or-append_right (flags_of limbs count) (replicate many false) count index false long new
            ∙ get_or-replicate many (index - count) false false (omega (arith, within, new)))
      ]

  pub plain_flags : flags_of (limbs ++ replicate more 0) (count + many) ≡ flags_of limbs count ++ replicate many false
  plain_flags =
      let left = length-flags_of (limbs ++ replicate more 0) (count + many) in
      let right : length (flags_of limbs count ++ replicate many false) ≡ count + many
      = length-append (flags_of limbs count) (replicate many false) ∙ omega (arith, length-flags_of limbs count, length-replicate many false) in
      ext_get_or false (flags_of (limbs ++ replicate more 0) (count + many)) (flags_of limbs count ++ replicate many false) (left ∙ sym right) (λ index h.
      let within : index < count + many = omega (arith, h, left) in
      flags_of-at (limbs ++ replicate more 0) (count + many) index within ∙ same_read index ∙ plain_at index within)

  counted : (k : ℕ) → k < length (before ++ replicate more flagged) →
      get_or (before ++ replicate more flagged) k 0 ≡ rank (flags_of limbs count ++ replicate many false) (64 * k)
  counted k h =
      let long = length-flags_of limbs count in
      let all : k < length before + more = omega (arith, h, length-append before (replicate more flagged), length-replicate more flagged) in
      elim (cases_lt k (length before)) [
        | inl old ↦
            get_or_append_left before (replicate more flagged) 0 k old ∙ kept.ranks k old
            ∙ sym (rank-append (flags_of limbs count) (replicate many false) (64 * k) (omega (arith, old, kept.counts, long)))
        | inr new ↦
            let past : count ≤ 64 * k = omega (arith, new, kept.counts) in
            let index : length (flags_of limbs count) + (64 * k - count) ≡ 64 * k = omega (arith, past, long) in
            let here : get_or (before ++ replicate more flagged) k 0 ≡ flagged
            = get_or-append_right before (replicate more flagged) (length before) k 0 refl new ∙ get_or-replicate more (k - length before) flagged 0 (omega (arith, all, new)) in
            let there = rank-append_right (flags_of limbs count) (replicate many false) (64 * k - count) in
            let none = rank-plain many (64 * k - count) in
            let at = ap (rank (flags_of limbs count ++ replicate many false)) index in
            omega (arith, here, kept.all, there, none, at)
      ]

  pub plain_kept : AreKept (limbs ++ replicate more 0) (before ++ replicate more flagged) (count + many) flagged
  plain_kept = record {
    few = few;
    long = length-append limbs (replicate more 0) ∙ omega (arith, length-replicate {A = ℕ} more 0, enough);
    counts = length-append before (replicate more flagged) ∙ omega (arith, length-replicate more flagged, enough, kept.long, kept.counts);
    clear = (let same = with_zeros limbs more ((count + many) / 64) in let past = limb_past limbs before count flagged (count + many) kept (omega arith) in omega (arith, same, past));
    ranks = λ k h. counted k h ∙ sym (ap (λ (ms : List Bool). rank ms (64 * k)) plain_flags);
    all = (let n = ap number plain_flags in let a = number-append (flags_of limbs count) (replicate many false) in omega (arith, n, a, number-plain many, kept.all));
  }
