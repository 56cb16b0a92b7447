-- The order of capabilities: total, and only the same capabilities are alike.
use Rattle.std.proofs.Common.{◌≡◌, ℕ, List, [], ◌∷◌, Bool, true, false, map, refl, ap, ap₂, arith}
use Rattle.std.specs.Cmp.{IsTotalOrder, nat_cmp_total, then_total, on_total}
use Rattle.std.proofs.lemmas.Cmp.{nat_list_cmp_total}
use Rattle.std.specs.Cmp.Lexicographic.{slice_cmp}
use Rattle.std.specs.FinMap.{IsAntisymmetric, nat_cmp-IsAntisymmetric, slice_cmp-IsAntisymmetric}
use Rattle.std.specs.declared.cmp.Ordering.{Ordering}
use Rattle.std.specs.declared.cmp.Ordering.TheVariants.{Less, Equal, Greater}
use Rattle.std.specs.Ordering.{ordering_then, nat_cmp, on}
use Rattle.cw_rights.specs.declared.capabilities.Rights.{Rights}
use Rattle.cw_rights.specs.declared.capabilities.Hold.{Hold}
use Rattle.cw_rights.specs.declared.capabilities.Hold.TheVariants.{Closed, Open}
use Rattle.cw_rights.specs.declared.capabilities.Caps.{Caps}
use Rattle.cw_states.specs.declared.order.Ranked.{Ranked}
use Rattle.cw_states.specs.Rights.{mode_number, hold_number, caps_cmp}
use Rattle.cw_states.specs.Growing.{ranked}
use Rattle.cw_lemmas.proofs.Orders.{then_equal as both_equal}

same_mode : (a b : Bool) → mode_number a ≡ mode_number b → a ≡ b
same_mode true true e = refl
same_mode true false e = cc
same_mode false true e = cc
same_mode false false e = refl

same_hold : (a b : Hold) → hold_number a ≡ hold_number b → a ≡ b
same_hold Closed Closed e = refl
same_hold Closed (Open r) e = absurd (omega arith)
same_hold (Open r) Closed e = absurd (omega arith)
same_hold (Open r) (Open s) e =
    let n : r.0 ≡ s.0 = omega arith in
    ap (λ (n : ℕ). let rights : Rights = record { 0 = n } in Open rights) n

same_holds : (xs ys : List Hold) → map hold_number xs ≡ map hold_number ys → xs ≡ ys
same_holds [] [] e = refl
same_holds [] (y ∷ ys) e = cc
same_holds (x ∷ xs) [] e = cc
same_holds (x ∷ xs) (y ∷ ys) e =
    let first : hold_number x ≡ hold_number y = cc in
    let rest : map hold_number xs ≡ map hold_number ys = cc in
    ap₂ (λ z zs. z ∷ zs) (same_hold x y first) (same_holds xs ys rest)

same_caps : (a b : Bool) (g h : List Hold) → a ≡ b → g ≡ h → (◌≡◌ {A = Caps} (record { amb = a; holds = g }) (record { amb = b; holds = h }))
same_caps a b g h d e = cc

pub caps_exact : IsAntisymmetric caps_cmp
caps_exact x y e =
    let both =
    both_equal (nat_cmp (mode_number x.amb) (mode_number y.amb)) (slice_cmp nat_cmp (map hold_number x.holds) (map hold_number y.holds)) e in
    same_caps x.amb y.amb x.holds y.holds (same_mode x.amb y.amb (nat_cmp-IsAntisymmetric (mode_number x.amb) (mode_number y.amb) both.0))
    (same_holds x.holds y.holds (slice_cmp-IsAntisymmetric nat_cmp-IsAntisymmetric (map hold_number x.holds) (map hold_number y.holds) both.1))

pub ranked_exact : IsAntisymmetric (on (λ (r : Ranked). r.caps) caps_cmp)
ranked_exact x y e = ap ranked (caps_exact x.caps y.caps e)

pub caps_total : IsTotalOrder caps_cmp
caps_total =
    then_total (on_total (λ (c : Caps). mode_number c.amb) nat_cmp_total) (on_total (λ (c : Caps). map hold_number c.holds) nat_list_cmp_total)
