-- The visits of a seam, put one after the other.
use Rattle.std.proofs.Common.{◌≡◌, ℕ, suc, ◌+◌, ◌<◌, List, [], ◌∷◌, ◌++◌, Bool, true, false, length, map, take, get_or, sym, ap, ◌∙◌, arith}
use Rattle.std.proofs.Common.{append_assoc}
use Rattle.std.proofs.lemmas.List.{length-map, length-take-le, map-append, take_more}
use Rattle.cw_rights.specs.declared.capabilities.Limit.{Limit as ALimit}
use Rattle.cw_rights.specs.declared.capabilities.Primitive.{Primitive}
use Rattle.cw_rights.specs.declared.capabilities.Primitive.TheVariants.{Limit, Enter, Split}
use Rattle.cw_rights.specs.Policies.{PlainPolicy, primitives}
use Rattle.cw_game.specs.declared.spots.Spot.{Spot}
use Rattle.cw_game.specs.declared.spots.Spot.TheVariants.{Visit, Asked}
use Rattle.cw_positions.specs.Positions.{visits}

abbrev pub visit : ℕ → ℕ → Primitive → List Spot
visit j i a = Visit j i a ∷ (Asked j i a ∷ [])

pub visits_two : (j i : ℕ) (a b : List Primitive) → visits j i (a ++ b) ≡ visits j i a ++ visits j (i + length a) b
visits_two j i [] b = let e : i ≡ i + 0 = omega arith in ap (λ n. visits j n b) e
visits_two j i (x ∷ a) b =
    let e : suc i + length a ≡ i + length (x ∷ a) = omega arith in
    ap (λ l. Visit j i x ∷ (Asked j i x ∷ l)) (visits_two j (suc i) a b ∙ ap (λ n. visits j (suc i) a ++ visits j n b) e)

abbrev limits_of : List ALimit → List Primitive
limits_of ls = map (λ limit. Limit limit) ls

-- one limit more
pub limits_more : (before : List Spot) (j i stage : ℕ) (ls : List ALimit) (d : ALimit) (all : List Spot) → i < length ls → stage ≡ i
    → all ≡ before ++ visits j 0 (map (λ limit. Limit limit) (take i ls))
    → all ++ (Visit j stage (Limit (get_or ls i d)) ∷ (Asked j stage (Limit (get_or ls i d)) ∷ [])) ≡ before ++ visits j 0
    (map (λ limit. Limit limit) (take (i + 1) ls))
limits_more before j i stage ls d all h es e =
    let x = get_or ls i d in
    let front = limits_of (take i ls) in
    let n : 0 + length front ≡ i = omega (arith, length-map (take i ls) (λ limit. Limit limit), length-take-le i ls (omega arith)) in
    let one : limits_of (take (i + 1) ls) ≡ front ++ (Limit x ∷ []) =
    ap limits_of (take_more ls i d h) ∙ map-append (λ limit. Limit limit) (take i ls) (x ∷ []) in
    let two : visits j 0 (limits_of (take (i + 1) ls)) ≡ visits j 0 front ++ visit j i (Limit x) =
    ap (visits j 0) one ∙ visits_two j 0 front (Limit x ∷ []) ∙ ap (λ k. visits j 0 front ++ visits j k (Limit x ∷ [])) n in
    ap (λ k. all ++ visit j k (Limit x)) es ∙ ap (λ l. l ++ visit j i (Limit x)) e ∙ append_assoc before (visits j 0 front) (visit j i (Limit x)) ∙
    ap (λ l. before ++ l) (sym two)

-- the limits and enter, and split behind them
pub visits_enter : (policy : PlainPolicy) (ls : List ALimit) → ls ≡ policy.limits → (j n : ℕ) (before a b : List Spot) → n ≡ length ls
    → a ≡ before ++ visits j 0 (map (λ limit. Limit limit) ls)
    → b ≡ a ++ (Visit j n Enter ∷ (Asked j n Enter ∷ [])) → (split : Bool) → split ≡ false → b ≡ before ++ visits j 0 (primitives policy split)
visits_enter policy ls es j n before a b e ea eb split f =
    let front = limits_of ls in
    let k : 0 + length front ≡ n = omega (arith, length-map ls (λ limit. Limit limit), e) in
    let two : visits j 0 (primitives policy split) ≡ visits j 0 front ++ visit j n Enter =
    ap (λ s. visits j 0 (primitives policy s)) f ∙ ap (λ l. visits j 0 (limits_of l ++ Enter ∷ [])) (sym es) ∙ visits_two j 0 front (Enter ∷ []) ∙
    ap (λ i. visits j 0 front ++ visits j i (Enter ∷ [])) k in
    eb ∙ ap (λ l. l ++ visit j n Enter) ea ∙ append_assoc before (visits j 0 front) (visit j n Enter) ∙ ap (λ l. before ++ l) (sym two)

pub visits_split : (policy : PlainPolicy) (ls : List ALimit) → ls ≡ policy.limits → (j n m : ℕ) (before a b c : List Spot) → n ≡ length ls → m ≡ n + 1
    → a ≡ before ++ visits j 0 (map (λ limit. Limit limit) ls) → b ≡ a ++ (Visit j n Enter ∷ (Asked j n Enter ∷ []))
    → c ≡ b ++ (Visit j m Split ∷ (Asked j m Split ∷ [])) → (split : Bool) → split ≡ true → c ≡ before ++ visits j 0 (primitives policy split)
visits_split policy ls es j n m before a b c e em ea eb ec split f =
    let front = limits_of ls in
    let k : 0 + length front ≡ n = omega (arith, length-map ls (λ limit. Limit limit), e) in
    let next : suc n ≡ m = omega arith in
    let two : visits j 0 (primitives policy split) ≡ visits j 0 front ++ (visit j n Enter ++ visit j m Split) =
    ap (λ s. visits j 0 (primitives policy s)) f ∙ ap (λ l. visits j 0 (limits_of l ++ Enter ∷ (Split ∷ []))) (sym es) ∙ visits_two j 0 front
    (Enter ∷ (Split ∷ [])) ∙ ap (λ i. visits j 0 front ++ visits j i (Enter ∷ (Split ∷ []))) k
    ∙ ap (λ i. visits j 0 front ++ (visit j n Enter ++ visit j i Split)) next in
    ec ∙ ap (λ l. l ++ visit j m Split) (eb ∙ ap (λ l. l ++ visit j n Enter) ea) ∙ append_assoc (before ++ visits j 0 front) (visit j n Enter)
    (visit j m Split)
    ∙ append_assoc before (visits j 0 front) (visit j n Enter ++ visit j m Split) ∙ ap (λ l. before ++ l) (sym two)
