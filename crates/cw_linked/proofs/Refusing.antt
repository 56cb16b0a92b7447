-- What is asked is refused in states that don't grant it, and in the others where it may be refused there.
use Rattle.std.proofs.Common.{◌≡◌, ℕ, ◌+◌, ◌<◌, [], Bool, true, false, ◌&&◌, ◌||◌, not, cond, Option, Some, None, refl, sym, arith}
use Rattle.std.specs.Prelude.{option_map}
use Rattle.std.proofs.lemmas.Bool.{false≢true}
use Rattle.std.proofs.lemmas.Option.{same_Some, none-some}
use Rattle.cw_rights.specs.declared.capabilities.Primitive.TheVariants.{Limit, Enter, Split}
use Rattle.cw_rights.specs.Policies.{is_refusable}
use Rattle.cw_game.specs.declared.spots.Spot.{Spot}
use Rattle.cw_game.specs.declared.spots.Spot.TheVariants.{Asked}
use Rattle.cw_game.specs.Games.{Game, Config, at_pair, past_asked}
use Rattle.cw_positions.specs.Closed.{LeadsWithin}
use Rattle.cw_product.specs.Moves.{pair_of, next_in}
use Rattle.cw_product.specs.MovesAt.{first_move, second_move}
use Rattle.cw_linked.specs.Edges.{refusal}
use Rattle.cw_linked.specs.Waiting.{next_by}

-- where a refusal leads, if a state grants it, or doesn't
abbrev refused : (grants refusable stop : Bool) → Config → Option (ℕ × ℕ)
refused grants refusable stop d = option_map pair_of (cond ((not grants || refusable) && not (stop && (refusable && grants))) (Some d) None)

where_it_may : (grants refusable stop : Bool) (d : Config) → (refusable && not stop) ≡ true → refused grants refusable stop d ≡ Some (pair_of d)
where_it_may true true true d may = absurd (false≢true may)
where_it_may true true false d may = refl
where_it_may true false stop d may = absurd (false≢true may)
where_it_may false true true d may = refl
where_it_may false true false d may = refl
where_it_may false false true d may = refl
where_it_may false false false d may = refl

where_not_granted : (grants refusable stop : Bool) (c d : Config) → option_map pair_of (cond grants (Some c) None) ≡ None → refused grants refusable stop d ≡ Some (pair_of d)
where_not_granted true refusable stop c d none = absurd (none-some (pair_of c) (sym none))
where_not_granted false true true c d none = refl
where_not_granted false true false c d none = refl
where_not_granted false false true c d none = refl
where_not_granted false false false c d none = refl

where_granted : (grants refusable stop : Bool) (c d : Config) (z : ℕ × ℕ) → (refusable && not stop) ≡ false → option_map pair_of (cond grants (Some c) None) ≡ Some z
    → refused grants refusable stop d ≡ None
where_granted true true true c d z may some = refl
where_granted true true false c d z may some = absurd (false≢true (sym may))
where_granted true false true c d z may some = refl
where_granted true false false c d z may some = refl
where_granted false refusable stop c d z may some = absurd (none-some z some)

module _ (g : Game) (p q : ℕ) where
  pub refused_anyway : (o : Option Spot) → refusal g o ≡ Some true → next_by g p q o (second_move o) ≡ Some (p + 1, q)
  refused_anyway (Some (Asked j i a)) may = where_it_may (g.states.may_grant q a) (is_refusable g.policy a) g.policy.stop (at_pair (p + 1) q []) (same_Some (is_refusable g.policy a && not g.policy.stop) true may)
  refused_anyway o may = absurd (none-some true may)

  pub refused_there : (o : Option Spot) (may : Bool) → refusal g o ≡ Some may → next_in g p q o (first_move o) ≡ None → next_by g p q o (second_move o) ≡ Some (p + 1, q)
  refused_there (Some (Asked j i a)) may asked none =
      where_not_granted (g.states.may_grant q a) (is_refusable g.policy a) g.policy.stop (past_asked g p q a []) (at_pair (p + 1) q []) none
  refused_there o may asked none = absurd (none-some may asked)

  pub not_refused : (o : Option Spot) (z : ℕ × ℕ) → refusal g o ≡ Some false → next_in g p q o (first_move o) ≡ Some z → next_by g p q o (second_move o) ≡ None
  not_refused (Some (Asked j i a)) z may some =
      where_granted (g.states.may_grant q a) (is_refusable g.policy a) g.policy.stop (past_asked g p q a []) (at_pair (p + 1) q []) z
      (same_Some (is_refusable g.policy a && not g.policy.stop) false may) some
  not_refused o z may some = absurd (none-some false may)

-- the position behind what is asked is one of the game
pub behind_within : (g : Game) (size functions p : ℕ) (o : Option Spot) (may : Bool) → refusal g o ≡ Some may → ((s : Spot) → o ≡ Some s → LeadsWithin size functions p s) → p + 1 < size
behind_within g size functions p (Some (Asked j i Split)) may asked leads = (let h = leads (Asked j i Split) refl in omega (arith, h))
behind_within g size functions p (Some (Asked j i Enter)) may asked leads = leads (Asked j i Enter) refl
behind_within g size functions p (Some (Asked j i (Limit l))) may asked leads = leads (Asked j i (Limit l)) refl
behind_within g size functions p o may asked leads = absurd (none-some may asked)
