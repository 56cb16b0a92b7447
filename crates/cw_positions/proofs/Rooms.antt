-- Positions one behind the other of which each leads as asked; and the visits of primitives, which lead to what stands behind them.
use Rattle.std.proofs.Common.{◌≡◌, ℕ, zero, suc, ◌+◌, ◌*◌, ◌<◌, ◌≤◌, List, [], ◌∷◌, ◌++◌, Bool, true, false, cond, length, map, Some, refl, sym, subst, arith, add-zero}
use Rattle.std.specs.Prelude.{slice_get}
use Rattle.std.proofs.lemmas.Option.{none-some, same_Some}
use Rattle.cw_rights.specs.declared.capabilities.Limit.{Limit as ALimit}
use Rattle.cw_rights.specs.declared.capabilities.Primitive.{Primitive}
use Rattle.cw_rights.specs.declared.capabilities.Primitive.TheVariants.{Limit, Enter, Split}
use Rattle.cw_rights.specs.Policies.{PlainPolicy, primitives}
use Rattle.cw_game.specs.declared.spots.Spot.{Spot}
use Rattle.cw_game.specs.declared.spots.Spot.TheVariants.{Visit, Asked}
use Rattle.cw_positions.specs.Positions.{visits}

-- how many positions are needed behind what is asked
abbrev pub Room : ℕ → Primitive → Type 0
Room n Split = 2 ≤ n
Room n Enter = 1 ≤ n
Room n (Limit limit) = 1 ≤ n

abbrev pub AllRoom : ℕ → List Primitive → Type 0
AllRoom n [] = Unit {0}
AllRoom n (a ∷ later) = Room n a × AllRoom n later

some_room : (n : ℕ) (a : Primitive) → Room n a → 1 ≤ n
some_room n Split h = omega (arith, h)
some_room n Enter h = h
some_room n (Limit limit) h = h

limits_room : (n : ℕ) (ls : List ALimit) (later : List Primitive) → 1 ≤ n → AllRoom n later → AllRoom n (map (λ limit. Limit limit) ls ++ later)
limits_room n [] later h r = r
limits_room n (l ∷ ls) later h r = (h, limits_room n ls later h r)

pub primitives_room : (policy : PlainPolicy) (split : Bool) (n : ℕ) → n ≡ 1 + cond split 1 0 → AllRoom n (primitives policy split)
primitives_room policy true n e =
    let one : 1 ≤ n = omega (arith, e) in let two : 2 ≤ n = omega (arith, e) in limits_room n policy.limits (Enter ∷ (Split ∷ [])) one (one, (two, tt))
primitives_room policy false n e = let one : 1 ≤ n = omega (arith, e) in limits_room n policy.limits (Enter ∷ []) one (one, tt)

pub call_length : (split : Bool) (s t : Spot) → length (s ∷ cond split (t ∷ []) []) ≡ 1 + cond split 1 0
call_length true s t = refl
call_length false s t = refl

module _ (Leads : ℕ → Spot → Type 0) where
  -- these stand from p on, and each leads so
  abbrev pub LeadFrom : ℕ → List Spot → Type 0
  LeadFrom p [] = Unit {0}
  LeadFrom p (s ∷ ss) = Leads p s × LeadFrom (p + 1) ss

  pub lead_at : (p : ℕ) (ss : List Spot) (i : ℕ) (s : Spot) → LeadFrom p ss → slice_get ss i ≡ Some s → Leads (p + i) s
  lead_at p [] i s h e = absurd (none-some s e)
  lead_at p (t ∷ ss) zero s h e = subst (λ q. Leads q s) (sym (add-zero p)) (subst (Leads p) (same_Some t s e) h.0)
  lead_at p (t ∷ ss) (suc i) s h e = let z : p + 1 + i ≡ p + suc i = omega arith in subst (λ q. Leads q s) z (lead_at (p + 1) ss i s h.1 e)

  -- Where a visit leads so with two positions behind it, and what is asked with the room that it needs, the visits do with what stands behind them.
  module _ (end : ℕ) (visit_leads : (p j i : ℕ) (a : Primitive) → p + 2 < end → Leads p (Visit j i a))
      (asked_leads : (p j i : ℕ) (a : Primitive) (n : ℕ) → Room n a → p + n < end → Leads p (Asked j i a)) where
    pub visits_lead : (j i : ℕ) (later : List Primitive) (rest : List Spot) (p : ℕ) → AllRoom (length rest) later
        → p + (2 * length later + length rest) ≤ end → LeadFrom (p + 2 * length later) rest → LeadFrom p (visits j i later ++ rest)
    visits_lead j i [] rest p room h c = let z : p + 0 ≡ p = add-zero p in subst (λ q. LeadFrom q rest) z c
    visits_lead j i (a ∷ later) rest p room h c =
        let z : p + 2 * length (a ∷ later) ≡ p + 1 + 1 + 2 * length later = omega arith in
        let some = some_room (length rest) a room.0 in (
          visit_leads p j i a (omega (arith, some, h)),
          (
            asked_leads (p + 1) j i a (length rest) room.0 (omega (arith, h)),
            visits_lead j (suc i) later rest (p + 1 + 1) room.1 (omega (arith, h)) (subst (λ q. LeadFrom q rest) z c),
          ),
        )
