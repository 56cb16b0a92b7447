-- Contexts by the numbers of their aims.
use Rattle.std.proofs.Common.{◌≡◌, ℕ, ◌+◌, ◌<◌, List, [], ◌∷◌, ◌++◌, Some, map, take, length, sym, ap, ◌∙◌, subst}
use Rattle.std.specs.Prelude.{option_map, slice_get, slice_index, Option}
use Rattle.std.proofs.lemmas.List.{map-append, take_more}
use Rattle.std.proofs.lemmas.Option.{slice_get_within, get_or_from_slice_get, slice_get-map, same_Some}
use Rattle.cw_product.specs.Product.{game_of}
use Rattle.cw_product.specs.Routed.{AreRouted}
use Rattle.cw_solve.specs.declared.contexts.Context.{Context}
use Rattle.cw_solve.specs.Contexts.{AreTheNeeded}
use Rattle.cw_solve.specs.Solved.{Held}
use Rattle.cw_solve.proofs.Few as few
use Rattle.cw_solve.proofs.Numbering.{function_there}
use Rattle.cw_least_strategy.specs.Acts.{IsIn}
use Rattle.cw_least_strategy.specs.Heights.{others}
use Rattle.cw_least_strategy.specs.Numbered.{number_for, AreNumbered, HasPosition}
use Rattle.cw_least_strategy.proofs.AllAims.{others_twice}
use Rattle.cw_least_strategy.proofs.Small.{found_at}

-- the numbers of the first contexts, and of one more
pub number_more : (h : Held) (aims : List ℕ) (n : ℕ) (c : Context) (number : ℕ) (old new : List ℕ) → Some c ≡ slice_get h.contexts n → number ≡ number_for h aims c
    → old ≡ map (number_for h aims) (take n h.contexts) → new ≡ old ++ number ∷ [] → new ≡ map (number_for h aims) (take (n + 1) h.contexts)
number_more h aims n c number old new at is before more =
    let lt = slice_get_within h.contexts n c (sym at) in
    let next = take_more h.contexts n c lt ∙ ap (λ (x : Context). take n h.contexts ++ x ∷ []) (get_or_from_slice_get h.contexts n c c (sym at)) in
    more ∙ ap (λ (l : List ℕ). l ++ number ∷ []) before ∙ ap (λ (x : ℕ). map (number_for h aims) (take n h.contexts) ++ x ∷ []) is
    ∙ sym (map-append (number_for h aims) (take n h.contexts) (c ∷ [])) ∙ ap (map (number_for h aims)) (sym next)

module _ (h : Held) (routed : AreRouted (game_of h.game) (length h.game.graph.parts.items)) (are : AreTheNeeded (game_of h.game) h.contexts) where
  -- a context is that of an aim where it has the aim's number
  promise_is : (aims : List ℕ) (number near : ℕ) (c : Context) → near < length aims → slice_get h.contexts number ≡ Some c → number_for h aims c ≡ near
      → c.promise ≡ others (game_of h.game) (slice_index aims near)
  promise_is aims number near c within at is =
      let g = game_of h.game in
      let e = others g c.promise in
      let found : slice_get aims near ≡ Some e =
      subst (λ (n : ℕ). slice_get aims n ≡ Some e) is (found_at aims e (subst (λ (n : ℕ). n < length aims) (sym is) within)) in
      let need = are.some.needed c (number, slice_get_within h.contexts number c at, get_or_from_slice_get h.contexts number c c at) in
      sym (others_twice g c.promise (few.there g (length h.game.graph.parts.items) routed c need).1) ∙ ap (others g) (sym (get_or_from_slice_get aims near e 0 found))

  pub numbered_in : (aims numbers : List ℕ) (number near p q : ℕ) → AreNumbered h aims numbers → near < length aims → q < (game_of h.game).states.count
      → slice_get numbers number ≡ Some near → HasPosition h number p → IsIn h number (slice_index aims near) p q
  numbered_in aims numbers number near p q all within state at is =
      let c = is.0 in
      let same : number_for h aims c ≡ near =
      same_Some (number_for h aims c) near
      (sym (ap (λ (o : Option Context). option_map (number_for h aims) o) is.1) ∙ sym (slice_get-map (number_for h aims) h.contexts number) ∙ ap (λ (l : List ℕ). slice_get l number) (sym all) ∙ at) in
      record {
        context = c;
        at = is.1;
        below = (function_there h (length h.game.graph.parts.items) routed are number c (sym is.1)).below;
        of = is.2;
        state = state;
        promise = promise_is aims number near c within is.1 same;
      }
