-- What is put behind a head, and where nothing is.
use Rattle.std.proofs.Common.{◌≡◌, ℕ, true, false, cond, List, [], ◌∷◌, ◌++◌, map, Option, Some, None, is_some, refl, ap, sym, ◌∙◌, append_assoc, append-nil}
use Rattle.std.specs.Fmt.{decimal}
use Rattle.std.specs.List.{list_any}
use Rattle.cw_core.specs.declared.ids.PointId.{PointId}
use Rattle.cw_listing.specs.Listing.{spaced, headed, successors}

headed_where : (head : List ℕ) (next : List (Option PointId)) → headed head (map decimal (successors next)) ≡ cond (list_any is_some next) (head ++ spaced (map decimal (successors next))) []
headed_where head [] = refl
headed_where head (Some p ∷ next) = refl
headed_where head (None ∷ next) = headed_where head next

pub put_behind : (head : List ℕ) (next : List (Option PointId)) (old with_head new : List ℕ) → true ≡ list_any is_some next → with_head ≡ old ++ head
    → new ≡ with_head ++ spaced (map decimal (successors next)) → new ≡ old ++ headed head (map decimal (successors next))
put_behind head next old with_head new some first then =
    let all = head ++ spaced (map decimal (successors next)) in
    then
    ∙ ap (λ l. l ++ spaced (map decimal (successors next))) first
    ∙ append_assoc old head (spaced (map decimal (successors next)))
    ∙ ap (λ l. old ++ l) (ap (λ b. cond b all []) some ∙ sym (headed_where head next))

pub put_nothing : (head : List ℕ) (next : List (Option PointId)) (old : List ℕ) → false ≡ list_any is_some next → old ≡ old ++ headed head (map decimal (successors next))
put_nothing head next old none =
    let all = head ++ spaced (map decimal (successors next)) in
    sym (ap (λ l. old ++ l) (headed_where head next ∙ sym (ap (λ b. cond b all []) none)) ∙ append-nil old)
