-- Where a height is found.
use Rattle.std.proofs.Common.{◌≡◌, ℕ, zero, suc, ◌+◌, ◌<◌, ◌≤◌, List, [], ◌∷◌, ◌++◌, filter_map, Bool, not, ◌&&◌, Option, Some, None, length, sym, ap, ◌∙◌, subst, arith}
use Rattle.std.specs.Prelude.{slice_get, nat_lt, Contains}
use Rattle.std.specs.List.{range_with_len}
use Rattle.std.proofs.lemmas.List.Elements.{filter_map-append}
use Rattle.cw_core.specs.StateSet.{has as has_member}
use Rattle.cw_game.specs.Games.{Game}
use Rattle.cw_game.specs.Pairs.{has}
use Rattle.cw_product.specs.Product.{game_of}
use Rattle.cw_product.specs.Routed.{AreRouted, targets, IsOf}
use Rattle.cw_solve.specs.Contexts.{HeightIs, AreTheNeeded}
use Rattle.cw_solve.specs.Numbering.{IsNumberOf}
use Rattle.cw_solve.proofs.Numbering.{function_there}
use Rattle.cw_least_strategy.specs.declared.key.Key.{Key}
use Rattle.cw_solve.specs.Solved.{Held, IsHeightIn}
use Rattle.cw_rights.specs.declared.capabilities.Primitive.{Primitive}
use Rattle.cw_certs.specs.declared.moves.Move.{Move}
use Rattle.cw_game.specs.declared.spots.Spot.TheVariants.{Visit}
use Rattle.cw_game.specs.Pairs.{Called}
use Rattle.cw_product.specs.Moves.{next_at}
use Rattle.cw_solve.proofs.Calling.{the_call, called}
use Rattle.cw_solve.proofs.Falls.{back_stays}
use Rattle.cw_solve.proofs.Still.{first_of_two, second_of_two}
use Rattle.cw_least_strategy.specs.Strategies.{is_lost_after, aim_at}
use Rattle.cw_least_strategy.proofs.Moving.{moved}
use Rattle.cw_least_strategy.specs.Acts.{IsIn, IsCall}
use Rattle.cw_least_strategy.specs.Heights.{others, height_within}
use Rattle.cw_least_strategy.proofs.Lowest as lowest
use Rattle.cw_game.proofs.Members.{same_set}
use Rattle.cw_solve.proofs.Sets.{has_set}

-- a set that has the other states alone
pub others_is : (g : Game) (set found : ℕ) → ((i : ℕ) → has_member found i ≡ (nat_lt i g.states.count && not (has_member set i))) → found ≡ others g set
unfolding has_member
others_is g set found h = same_set found (others g set) (λ i. h i ∙ sym (has_set (λ x. not (has set x)) g.states.count i))

module _ (h : Held) where
  abbrev g : Game
  g = game_of h.game

  -- what a height says under the context's promise
  pub height_is : (functions : ℕ) → AreRouted g functions → (number aim p q most : ℕ) → IsIn h number aim p q → (o : Option ℕ) → IsHeightIn h number p q o → HeightIs g p q (others g aim) o
  height_is functions routed number aim p q most is o here = subst (λ e. HeightIs g p q e o) is.promise (here is.context is.at)

  pub none_is : (functions : ℕ) → AreRouted g functions → (number aim p q most : ℕ) → IsIn h number aim p q → IsHeightIn h number p q None → 0 ≡ height_within g most p q (has (others g aim))
  none_is functions routed number aim p q most is here = sym (lowest.absent g functions routed p q (others g aim) is.state most (height_is functions routed number aim p q most is None here most))

  pub low_is : (functions : ℕ) → AreRouted g functions → (number aim p q most k : ℕ) → IsIn h number aim p q → IsHeightIn h number p q (Some k) → k ≤ most
      → k ≡ height_within g most p q (has (others g aim))
  low_is functions routed number aim p q most k is here le =
      sym (lowest.is_within g functions routed p q (others g aim) is.state most k (height_is functions routed number aim p q most is (Some k) here) le)

  pub high_is : (functions : ℕ) → AreRouted g functions → (number aim p q most k : ℕ) → IsIn h number aim p q → IsHeightIn h number p q (Some k) → most < k
      → 0 ≡ height_within g most p q (has (others g aim))
  high_is functions routed number aim p q most k is here lt =
      sym (lowest.is_above g functions routed p q (others g aim) is.state most k (height_is functions routed number aim p q most is (Some k) here) lt)

  abbrev functions : ℕ
  functions = length h.game.graph.parts.items

  -- the context that has a position
  pub found_in : AreRouted g functions → AreTheNeeded g h.contexts → (number aim p q : ℕ) → q < g.states.count → IsNumberOf g h.contexts number (others g aim) p → IsIn h number aim p q
  found_in routed are number aim p q s is =
      record {
        context = is.context;
        at = is.at;
        below = (function_there h functions routed are number is.context (sym is.at)).below;
        of = is.of;
        state = s;
        promise = is.promise_is;
      }

  -- in the same context
  pub same_in : (number aim p q r x : ℕ) (is : IsIn h number aim p q) → IsOf g is.context.function r → x < g.states.count → IsIn h number aim r x
  same_in number aim p q r x is of s = record { context = is.context; at = is.at; below = is.below; of = of; state = s; promise = is.promise }

  -- a move stays in the context
  pub move_in : AreRouted g functions → (number aim p q : ℕ) (by : Move) (r : ℕ × ℕ) → IsIn h number aim p q → next_at g p q by ≡ Some r → IsIn h number aim r.0 r.1
  move_in routed number aim p q by r is e =
      let m = moved g routed.closed p q by r is.state e in
      same_in number aim p q r.0 r.1 is (routed.stays is.context.function p r.0 is.below is.of m.3.3) m.3.4

  -- and so does a call's return
  pub back_in : AreRouted g functions → (number aim p q back x : ℕ) (split : Bool) → IsIn h number aim p q → IsCall g p back split → x < g.states.count → IsIn h number aim back x
  back_in routed number aim p q back x split is call s =
      same_in number aim p q back x is (back_stays g functions routed is.context.function p (the_call call.1.0 call.0 back split) is.below is.of
      (called (slice_get g.spots p) split call.1.0 call.0 back call.1.1)) s

  pub visit_in : AreRouted g functions → (number aim p q j i : ℕ) (a : Primitive) → IsIn h number aim p q → slice_get g.spots p ≡ Some (Visit j i a)
      → IsIn h number aim (p + 2) q × IsIn h number aim (p + 1) q
  visit_in routed number aim p q j i a is es = (
    same_in number aim p q (p + 2) q is (routed.stays is.context.function p (p + 2) is.below is.of (subst (λ o. Contains (targets p o) (p + 2)) (sym es) (first_of_two (p + 2) (p + 1)))) is.state,
    same_in number aim p q (p + 1) q is (routed.stays is.context.function p (p + 1) is.below is.of (subst (λ o. Contains (targets p o) (p + 1)) (sym es) (second_of_two (p + 2) (p + 1)))) is.state,
  )

-- the number of the aim
pub aim_is : (g : Game) (k : Key) (c : Called) (aim n : ℕ) → n ≡ g.states.count → ((x : ℕ) → has_member aim x ≡ (nat_lt x n && is_lost_after g k c x)) → aim ≡ aim_at g k c
unfolding has_member
aim_is g k c aim n e h = same_set aim (aim_at g k c) (λ x. h x ∙ ap (λ (n : ℕ). nat_lt x n && is_lost_after g k c x) e ∙ sym (has_set (is_lost_after g k c) g.states.count x))

-- one state more
range_more : (a n : ℕ) → range_with_len a (suc n) ≡ range_with_len a n ++ (a + n) ∷ []
range_more a zero = let z : a ≡ a + 0 = omega arith in ap (λ (x : ℕ). x ∷ []) z
range_more a (suc n) =
    let z : a + 1 + n ≡ a + suc n = omega arith in
    ap (λ (xs : List ℕ). a ∷ xs) (range_more (a + 1) n ∙ ap (λ (x : ℕ). range_with_len (a + 1) n ++ x ∷ []) z)

pub kept_more : {B : Type 0} (f : ℕ → Option B) (n : ℕ) → filter_map f (range_with_len 0 (n + 1)) ≡ filter_map f (range_with_len 0 n) ++ filter_map f (n ∷ [])
kept_more f n =
    let z : n + 1 ≡ suc n = omega arith in
    let y : 0 + n ≡ n = omega arith in
    ap (λ (m : ℕ). filter_map f (range_with_len 0 m)) z ∙ ap (filter_map f) (range_more 0 n) ∙ ap (λ (m : ℕ). filter_map f (range_with_len 0 n ++ m ∷ [])) y
    ∙ filter_map-append f (range_with_len 0 n) (n ∷ [])
