-- Whether a limit is allowed, in terms of single rights.
use Rattle.std.proofs.Common.{◌≡◌, ◌≢◌, ◌⊎◌, inl, inr, ℕ, zero, suc, ◌<◌, ◌^◌, Bool, true, false, nat_eq, bit_and, refl, sym, ◌∙◌, ap, arith, eqb-true, eq-eqb, cond, subst, ◌↔◌, pow-suc}
use Rattle.std.specs.Int.{bit_at}
use Rattle.std.proofs.lemmas.Nat.Bits.{bit_at_and, bit_at-lt, same_from_bits, bit_at_above}
use Rattle.cw_rights.specs.declared.capabilities.Rights.{Rights}
use Rattle.cw_rights.specs.declared.capabilities.Hold.{Hold}
use Rattle.cw_rights.specs.declared.capabilities.Hold.TheVariants.{Closed, Open}
use Rattle.cw_rights.specs.declared.capabilities.Caps.{Caps}
use Rattle.cw_rights.specs.declared.capabilities.Limit.{Limit}
use Rattle.cw_rights.specs.declared.capabilities.Allowed.{Allowed}
use Rattle.cw_rights.specs.declared.capabilities.Allowed.TheVariants.{Yes, NotCapable, BadDescriptor}
use Rattle.cw_rights.specs.Capabilities.{HasRight, IsContained, is_contained, hold_of, allowed_on, allowed, KeepsHeld, KeepsMore}

below_power : (n : ℕ) → n < 2 ^ n
below_power zero = omega arith
below_power (suc n) = omega (arith, below_power n, pow-suc 2 n)

-- both forms of containment say the same
pub IsContained-of : (keep held : ℕ) → is_contained keep held ≡ true → IsContained keep held
IsContained-of keep held e i h =
    let a = bit_at_and keep held i in
    let b : bit_at (bit_and keep held) i ≡ bit_at keep i = ap (λ n. bit_at n i) (eqb-true (bit_and keep held) keep e) in
    let c = bit_at-lt held i in
    omega arith

pub is_contained-by : (keep held : ℕ) → IsContained keep held → is_contained keep held ≡ true
is_contained-by keep held h = eq-eqb (bit_and keep held) keep (same_from_bits _ _ (λ i. by i (nat_eq (bit_at keep i) 1) refl))
  where
    by : (i : ℕ) (t : Bool) → nat_eq (bit_at keep i) 1 ≡ t → bit_at (bit_and keep held) i ≡ bit_at keep i
    by i true t = let a = bit_at_and keep held i in let k : bit_at keep i ≡ 1 = eqb-true _ 1 t in let b = h i k in omega arith
    by i false t =
        let a = bit_at_and keep held i in
        let k : bit_at keep i ≢ 1 = λ q. let z = eq-eqb (bit_at keep i) 1 q in cc in
        let c = bit_at-lt keep i in
        omega arith

-- a right of the one that isn't one of the other
abbrev HasMore : ℕ → ℕ → Type 0
HasMore keep held = (right : ℕ) × HasRight keep right × (HasRight held right → ⊥)

-- below n each right that is kept is held, or some isn't
below_or : (keep held n : ℕ) → ((i : ℕ) → i < n → HasRight keep i → HasRight held i) ⊎ HasMore keep held
below_or keep held zero = inl (λ i l h. absurd (omega arith))
below_or keep held (suc n) = by (below_or keep held n) (nat_eq (bit_at keep n) 1) (nat_eq (bit_at held n) 1) refl refl
  where
    by : (((i : ℕ) → i < n → HasRight keep i → HasRight held i) ⊎ HasMore keep held) → (s t : Bool) → nat_eq (bit_at keep n) 1 ≡ s → nat_eq (bit_at held n) 1 ≡ t →
        ((i : ℕ) → i < suc n → HasRight keep i → HasRight held i) ⊎ HasMore keep held
    by (inr m) s t p q = inr m
    by (inl f) true false p q = inr (n, eqb-true _ 1 p, λ r. let z = eq-eqb (bit_at held n) 1 r in cc)
    by (inl f) s true p q = inl (λ i l h. last i (nat_eq i n) refl l h)
      where
        last : (i : ℕ) (b : Bool) → nat_eq i n ≡ b → i < suc n → HasRight keep i → HasRight held i
        last i true e l h = let z : i ≡ n = eqb-true i n e in let y : bit_at held n ≡ 1 = eqb-true _ 1 q in ap (bit_at held) z ∙ y
        last i false e l h = let z : i ≢ n = λ r. let x = eq-eqb i n r in cc in f i (omega arith) h
    by (inl f) false t p q = inl (λ i l h. last i (nat_eq i n) refl l h)
      where
        last : (i : ℕ) (b : Bool) → nat_eq i n ≡ b → i < suc n → HasRight keep i → HasRight held i
        last i true e l h = let z : i ≡ n = eqb-true i n e in let y : bit_at keep n ≡ 1 = sym (ap (bit_at keep) z) ∙ h in let x = eq-eqb (bit_at keep n) 1 y in absurd (cc)
        last i false e l h = let z : i ≢ n = λ r. let x = eq-eqb i n r in cc in f i (omega arith) h

right_below : (keep i : ℕ) → HasRight keep i → i < keep
right_below keep i h = grind (arith, bit_at_above keep keep i, below_power keep)

more_of : (keep held : ℕ) → is_contained keep held ≡ false → HasMore keep held
more_of keep held e = by (below_or keep held keep)
  where
    by : (((i : ℕ) → i < keep → HasRight keep i → HasRight held i) ⊎ HasMore keep held) → HasMore keep held
    by (inr m) = m
    by (inl f) = let z : is_contained keep held ≡ true = is_contained-by keep held (λ i h. f i (right_below keep i h) h) in absurd (cc)

closed_on : (h : Hold) (keep : ℕ) → (allowed_on h keep ≡ BadDescriptor) ↔ (h ≡ Closed)
closed_on Closed keep = (λ e. refl, λ e. refl)
closed_on (Open held) keep = (by (is_contained keep held.0), λ e. absurd (cc))
  where
    by : (t : Bool) → cond t Yes NotCapable ≡ BadDescriptor → Open held ≡ Closed
    by true e = absurd (cc)
    by false e = absurd (cc)

yes_on : (h : Hold) (keep : ℕ) → (allowed_on h keep ≡ Yes) ↔ ((held : Rights) × (h ≡ Open held) × IsContained keep held.0)
yes_on Closed keep = (λ e. absurd (cc), λ x. absurd (let y = x.1 in cc))
yes_on (Open held) keep = (by (is_contained keep held.0) refl, back)
  where
    by : (t : Bool) → is_contained keep held.0 ≡ t → cond t Yes NotCapable ≡ Yes → (other : Rights) × (Open held ≡ Open other) × IsContained keep other.0
    by true q e = (held, refl, IsContained-of keep held.0 q)
    by false q e = absurd (cc)

    back : ((other : Rights) × (Open held ≡ Open other) × IsContained keep other.0) → allowed_on (Open held) keep ≡ Yes
    back x = let y = x.1 in let same : x.0 ≡ held = cc in ap (λ t. cond t Yes NotCapable) (is_contained-by keep held.0 (subst (λ (r : Rights). IsContained keep r.0) same x.2))

not_capable_on : (h : Hold) (keep : ℕ) → (allowed_on h keep ≡ NotCapable) ↔ ((held : Rights) × (h ≡ Open held) × HasMore keep held.0)
not_capable_on Closed keep = (λ e. absurd (cc), λ x. absurd (let y = x.1 in cc))
not_capable_on (Open held) keep = (by (is_contained keep held.0) refl, back)
  where
    by : (t : Bool) → is_contained keep held.0 ≡ t → cond t Yes NotCapable ≡ NotCapable → (other : Rights) × (Open held ≡ Open other) × HasMore keep other.0
    by true q e = absurd (cc)
    by false q e = (held, refl, more_of keep held.0 q)

    no : (t : Bool) → is_contained keep held.0 ≡ t → HasMore keep held.0 → cond t Yes NotCapable ≡ NotCapable
    no true q m = absurd (m.2 (IsContained-of keep held.0 q m.0 m.1))
    no false q m = refl

    back : ((other : Rights) × (Open held ≡ Open other) × HasMore keep other.0) → allowed_on (Open held) keep ≡ NotCapable
    back x = let y = x.1 in let same : x.0 ≡ held = cc in no (is_contained keep held.0) refl (subst (λ (r : Rights). HasMore keep r.0) same x.2)

pub closed_is : (caps : Caps) (limit : Limit) (r : Allowed) → r ≡ allowed caps limit → (r ≡ BadDescriptor) ↔ (hold_of caps limit.descriptor ≡ Closed)
closed_is caps limit r e = let x = closed_on (hold_of caps limit.descriptor) limit.keep.0 in (λ h. x.0 (sym e ∙ h), λ h. e ∙ x.1 h)

pub yes_is : (caps : Caps) (limit : Limit) (r : Allowed) → r ≡ allowed caps limit → (r ≡ Yes) ↔ KeepsHeld caps limit
yes_is caps limit r e = let x = yes_on (hold_of caps limit.descriptor) limit.keep.0 in (λ h. x.0 (sym e ∙ h), λ h. e ∙ x.1 h)

pub not_capable_is : (caps : Caps) (limit : Limit) (r : Allowed) → r ≡ allowed caps limit → (r ≡ NotCapable) ↔ KeepsMore caps limit
not_capable_is caps limit r e = let x = not_capable_on (hold_of caps limit.descriptor) limit.keep.0 in (λ h. x.0 (sym e ∙ h), λ h. e ∙ x.1 h)
