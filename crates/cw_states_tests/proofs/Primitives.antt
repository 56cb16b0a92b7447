-- A limit of a policy is among its primitives.
use Rattle.std.proofs.Common.{◌≡◌, ℕ, [], ◌∷◌, Some, true, map, ap, ◌∙◌, sym, subst, arith}
use Rattle.std.specs.Prelude.{slice_get}
use Rattle.std.specs.List.{Contains}
use Rattle.std.proofs.lemmas.List.{get_or-map, length-map}
use Rattle.std.proofs.lemmas.List.Elements.{Contains-append_left}
use Rattle.std.proofs.lemmas.Option.{slice_get_within, get_or_from_slice_get}
use Rattle.cw_rights.specs.declared.capabilities.Limit.{Limit as ALimit}
use Rattle.cw_rights.specs.declared.capabilities.Primitive.{Primitive}
use Rattle.cw_rights.specs.declared.capabilities.Primitive.TheVariants.{Limit, Enter, Split}
use Rattle.cw_rights.specs.declared.policy.Policy.{Policy}
use Rattle.cw_rights.specs.Policies.{policy_of, primitives}

pub in_primitives : (policy now : Policy) (i : ℕ) (limit : ALimit) → now ≡ policy → slice_get policy.limits.items i ≡ Some limit
    → Contains (primitives (policy_of now) true) (Limit limit)
in_primitives policy now i limit same at =
    let limits = policy.limits.items in
    let f : ALimit → Primitive = λ limit. Limit limit in
    let l = slice_get_within limits i limit at in
    let n = length-map limits f in
    let there : Contains (map f limits) (Limit limit) =
    (i, omega (arith, l, n), get_or-map f limits i limit (Limit limit) l ∙ ap f (get_or_from_slice_get limits i limit limit at)) in
    subst (λ (p : Policy). Contains (primitives (policy_of p) true) (Limit limit)) (sym same)
    (Contains-append_left (map f limits) (Enter ∷ Split ∷ []) (Limit limit) there)
