-- Statements between two places.
use Rattle.std.proofs.Common.{◌≡◌, ℕ, zero, suc, ◌+◌, ◌≤◌, cond, List, [], ◌∷◌, ◌++◌, Some, slice_get, refl, ap, ◌∙◌, arith}
use Rattle.std.specs.Prelude.{find, nat_eq}
use Rattle.std.proofs.lemmas.Bool.{ne_eqb, eq-eqb}
use Rattle.std.proofs.lemmas.Option.{none-some, same_Some}
use Rattle.cw_syntax.specs.Trees.{Statement, Stated}
use Rattle.cw_value.specs.Deeds.{begins_at}
use Rattle.cw_apart.specs.Starts.{start_of, Ascend}

pub wider : (a b c d : ℕ) (ss : List Statement) → c ≤ a → b ≤ d → Ascend a b ss → Ascend c d ss
wider a b c d [] p q h = omega (arith, p, q, h)
wider a b c d (s ∷ ss) p q h = ((let r = h.0 in omega (arith, p, r)), wider (start_of s + 1) b (start_of s + 1) d ss (omega arith) q h.1)

pub both : (from at to : ℕ) (xs ys : List Statement) → Ascend from at xs → Ascend at to ys → Ascend from to (xs ++ ys)
both from at to [] ys h k = wider at to from to ys h (omega arith) k
both from at to (x ∷ xs) ys h k = (h.0, both (start_of x + 1) at to xs ys h.1 k)

behind : (from to i : ℕ) (ss : List Statement) (s : Statement) → Ascend from to ss → slice_get ss i ≡ Some s → from ≤ start_of s
behind from to i [] s h is = absurd (none-some s is)
behind from to zero (x ∷ ss) s h is = let p = h.0 in let e = ap start_of (same_Some x s is) in omega (arith, p, e)
behind from to (suc i) (x ∷ ss) s h is = let p = h.0 in let q = behind (start_of x + 1) to i ss s h.1 is in omega (arith, p, q)

pub begins : (at : ℕ) (s : Statement) → begins_at at s ≡ nat_eq (start_of s) at
begins at (Stated form from to) = refl

-- the first that begins at a place is the one that does
pub found : (from to i : ℕ) (ss : List Statement) (s : Statement) → Ascend from to ss → slice_get ss i ≡ Some s → find (begins_at (start_of s)) ss ≡ Some s
found from to i [] s h is = absurd (none-some s is)
found from to zero (x ∷ ss) s h is =
    let same : x ≡ s = same_Some x s is in
    ap (λ t. cond t (Some x) (find (begins_at (start_of s)) ss)) (begins (start_of s) x ∙ eq-eqb (start_of x) (start_of s) (ap start_of same)) ∙ ap Some same
found from to (suc i) (x ∷ ss) s h is =
    let after = behind (start_of x + 1) to i ss s h.1 is in
    ap (λ t. cond t (Some x) (find (begins_at (start_of s)) ss)) (begins (start_of s) x ∙ ne_eqb (start_of x) (start_of s) (λ e. omega (arith, e, after)))
    ∙ found (start_of x + 1) to i ss s h.1 is
