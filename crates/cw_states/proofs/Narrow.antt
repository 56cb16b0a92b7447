-- The numbers of a valid policy are those of holds, and its rules have few literals.
use Rattle.std.proofs.Common.{◌≡◌, ℕ, ◌+◌, ◌<◌, ◌≤◌, List, [], ◌∷◌, true, map, length, refl, subst, arith, ⊎_elim}
use Rattle.std.specs.List.{Contains, fold}
use Rattle.std.proofs.lemmas.List.Elements.{All-weaker, All-contains, Contains-append_left, Contains-append_right, Contains-append_cases}
use Rattle.cw_rights.specs.declared.capabilities.Limit.{Limit as ALimit}
use Rattle.cw_rights.specs.declared.capabilities.Primitive.{Primitive}
use Rattle.cw_rights.specs.declared.capabilities.Primitive.TheVariants.{Limit, Enter, Split}
use Rattle.cw_rights.specs.Capabilities.{IsDescriptorBelow}
use Rattle.cw_rights.specs.Trees.{count}
use Rattle.cw_rights.specs.Policies.{PlainPolicy, PlainRule, primitives}
use Rattle.cw_rights.specs.Valid.{IsValid, IsLimitWithin}
use Rattle.cw_dfa.specs.Positions.{bad_of}
use Rattle.cw_states.specs.Growing.{IsNarrow}
use Rattle.cw_lemmas.proofs.Lists.{contains_none, contains_one}

pub narrow : (policy : PlainPolicy) → IsValid policy → IsNarrow policy
narrow policy v =
    let few = v.few_descriptors in
    record {
      descriptors = v.few_descriptors;
      limits =
          All-weaker (IsLimitWithin (length policy.descriptors)) (λ limit. limit.descriptor < 8)
          (λ limit w. let l = w.0 in omega arith) policy.limits v.limits;
    }

limit_in_map : (limits : List ALimit) (limit : ALimit) → Contains (map (λ limit. Limit limit) limits) (Limit limit) → Contains limits limit
limit_in_map [] limit h = absurd (contains_none (Limit limit) h)
limit_in_map (x ∷ xs) limit h =
    ⊎_elim (λ h. here (contains_one (Limit x) (Limit limit) h)) (λ h. Contains-append_right (x ∷ []) xs limit (limit_in_map xs limit h))
    (Contains-append_cases (Limit x ∷ []) (map (λ limit. Limit limit) xs) (Limit limit) h)
  where
    here : Limit x ≡ Limit limit → Contains (x ∷ xs) limit
    here e = let same : x ≡ limit = cc in subst (λ y. Contains (x ∷ xs) y) same (Contains-append_left (x ∷ []) xs x (0, omega arith, refl))

-- a limit among the primitives is one of the policy's
pub limit_of : (policy : PlainPolicy) (limit : ALimit) → Contains (primitives policy true) (Limit limit) → Contains policy.limits limit
limit_of policy limit h = ⊎_elim (λ h. limit_in_map policy.limits limit h) (λ h. absurd (neither h))
    (Contains-append_cases (map (λ limit. Limit limit) policy.limits) (Enter ∷ Split ∷ []) (Limit limit) h)
  where
    neither : Contains (Enter ∷ Split ∷ []) (Limit limit) → ⊥
    neither h =
        ⊎_elim (λ h. let e = contains_one Enter (Limit limit) h in cc) (λ h. let e = contains_one Split (Limit limit) h in cc)
        (Contains-append_cases (Enter ∷ []) (Split ∷ []) (Limit limit) h)

pub below_eight : (policy : PlainPolicy) (a : Primitive) → IsNarrow policy → Contains (primitives policy true) a → IsDescriptorBelow 8 a
below_eight policy (Limit limit) n h = All-contains (λ limit. limit.descriptor < 8) policy.limits limit n.limits (limit_of policy limit h)
below_eight policy Enter n h = tt
below_eight policy Split n h = tt

-- the literals of all rules, counted rule by rule
counted : (rules : List PlainRule) (so_far : ℕ) → fold (λ n (r : PlainRule). n + count r.bad) so_far rules ≡ so_far + count (bad_of rules)
counted [] so_far = omega arith
counted (r ∷ rules) so_far = let rest = counted rules (so_far + count r.bad) in omega arith

pub few_literals : (policy : PlainPolicy) → IsValid policy → count (bad_of policy.rules) + 1 ≤ 64
few_literals policy v = let all = counted policy.rules 0 in let few = v.few_positions in omega arith
