-- Laws of capabilities and of bad words.
use Rattle.std.proofs.Common.{◌≡◌, ◌≢◌, ◌↔◌, ℕ, ◌<◌, ◌≤◌, [], Bool, true, false, nat_eq, nat_lt, length, unwrap_or, Option, Some, refl, sym, ◌∙◌, ap, subst, arith, eqb-true, eq-eqb, Contains, IsTrue}
use Rattle.std.proofs.lemmas.Option.{unwrap_or-slice_get, slice_get_past, slice_get-get_or}
use Rattle.std.proofs.lemmas.List.{get_or-set_same, get_or-set_other}
use Rattle.std.proofs.lemmas.Bool.Decides.{nat_tests}
use Rattle.cw_rights.specs.declared.capabilities.Rights.{Rights}
use Rattle.cw_rights.specs.declared.capabilities.Hold.{Hold}
use Rattle.cw_rights.specs.declared.capabilities.Hold.TheVariants.{Closed, Open}
use Rattle.cw_rights.specs.declared.capabilities.Caps.{Caps}
use Rattle.cw_rights.specs.declared.capabilities.Limit.{Limit as ALimit}
use Rattle.cw_rights.specs.declared.capabilities.Primitive.{Primitive}
use Rattle.cw_rights.specs.declared.capabilities.Primitive.TheVariants.{Limit, Enter, Split}
use Rattle.cw_rights.specs.Capabilities.{IsContained, is_contained, hold_of, HasRightIn, HoldsRight, IsAllowed, applied, opened, KeepsHeld, allowed}
use Rattle.cw_rights.specs.Words.{Word, Matches}
use Rattle.cw_rights.specs.Policies.{PlainPolicy, PlainRule, IsBad}
use Rattle.cw_rights.proofs.Limits.{IsContained-of, is_contained-by, yes_is}

pub contained : (keep held : ℕ) → IsTrue (is_contained keep held) ↔ IsContained keep held
contained keep held = (IsContained-of keep held, is_contained-by keep held)

pub applied_mode : (caps : Caps) (prim : Primitive) → IsTrue (applied caps prim).amb → IsTrue caps.amb
applied_mode caps (Limit limit) h = h
applied_mode caps Enter h = absurd (cc)
applied_mode caps Split h = h

-- an open descriptor is one of those that are held
open_within : (caps : Caps) (d : ℕ) (r : Rights) → hold_of caps d ≡ Open r → d < length caps.holds
open_within caps d r e = by (nat_lt d (length caps.holds)) refl
  where
    by : (t : Bool) → nat_lt d (length caps.holds) ≡ t → d < length caps.holds
    by true q = grind (arith, nat_tests)
    by false q = let le : length caps.holds ≤ d = grind (arith, nat_tests) in let z = slice_get_past caps.holds d le in
        let y : Closed ≡ Open r = sym (ap (λ (o : Option Hold). unwrap_or o Closed) z) ∙ e in absurd (cc)

hold_same : (caps : Caps) (d : ℕ) (r : Rights) → d < length caps.holds → hold_of (opened caps d r) d ≡ Open r
hold_same caps d r l = unwrap_or-slice_get (opened caps d r).holds d Closed ∙ get_or-set_same caps.holds d (Open r) Closed l

hold_other : (caps : Caps) (d e : ℕ) (r : Rights) → e ≢ d → hold_of (opened caps d r) e ≡ hold_of caps e
hold_other caps d e r n = unwrap_or-slice_get (opened caps d r).holds e Closed ∙ get_or-set_other caps.holds d e (Open r) Closed n ∙ sym (unwrap_or-slice_get caps.holds e Closed)

limited : (caps : Caps) (limit : ALimit) → KeepsHeld caps limit → (d right : ℕ) → HoldsRight (opened caps limit.descriptor limit.keep) d right → HoldsRight caps d right
limited caps limit k d right h = by (nat_eq d limit.descriptor) refl
  where
    by : (t : Bool) → nat_eq d limit.descriptor ≡ t → HoldsRight caps d right
    by true q =
        let same : d ≡ limit.descriptor = eqb-true d limit.descriptor q in
        let now : hold_of (opened caps limit.descriptor limit.keep) d ≡ Open limit.keep = ap (hold_of (opened caps limit.descriptor limit.keep)) same
        ∙ hold_same caps limit.descriptor limit.keep (open_within caps limit.descriptor k.0 k.1) in
        let kept : HasRightIn (Open limit.keep) right = subst (λ x. HasRightIn x right) now h in
        let held : HasRightIn (Open k.0) right = k.2 right kept in
        subst (λ x. HasRightIn x right) (sym (ap (hold_of caps) same ∙ k.1)) held
    by false q =
        let other : d ≢ limit.descriptor = λ r. let z = eq-eqb d limit.descriptor r in cc in
        subst (λ x. HasRightIn x right) (hold_other caps limit.descriptor d limit.keep other) h

pub never_grow : (caps : Caps) (prim : Primitive) → IsAllowed caps prim → (d right : ℕ) → HoldsRight (applied caps prim) d right → HoldsRight caps d right
never_grow caps (Limit limit) a d right h = limited caps limit ((yes_is caps limit (allowed caps limit) refl).0 a) d right h
never_grow caps Enter a d right h = h
never_grow caps Split a d right h = h

pub empty_never : (policy : PlainPolicy) → IsBad policy [] → ⊥
empty_never policy b = b.1.0 refl

pub matched_bad : (policy : PlainPolicy) (rule : PlainRule) (word : Word) → Contains policy.rules rule → word ≢ [] → Matches rule.bad word → IsBad policy word
matched_bad policy rule word i n m = (i.0, (n, rule, slice_get-get_or policy.rules i.0 rule i.1 ∙ ap Some i.2, m))
