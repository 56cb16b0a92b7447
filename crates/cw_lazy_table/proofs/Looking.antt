-- Where it is found whether a pair is lost.
use Rattle.std.proofs.Common.{◌≡◌, ℕ, ◌<◌, ◌&&◌, Option, sym, ap, ◌∙◌, subst}
use Rattle.std.specs.Prelude.{nat_lt}
use Rattle.cw_core.specs.StateSet.{has as has_member}
use Rattle.cw_core.proofs.Sets.{same_from_members}
use Rattle.cw_game.specs.Games.{Game}
use Rattle.cw_game.specs.Pairs.{Called}
use Rattle.cw_product.specs.Product.{Held as HeldGame, game_of}
use Rattle.cw_solve.specs.Contexts.{HeightIs}
use Rattle.cw_solve.specs.Solved.{Held, IsNumbered, IsHeightIn}
use Rattle.cw_solve.specs.Numbering.{IsUnder, IsNumberOf}
use Rattle.cw_solve.proofs.Sets.{has_set}
use Rattle.cw_lazy_table.specs.Choices.{is_kept_back, promised, IsReady}

module _ (h : HeldGame) (s : Held) (ready : IsReady h s) where
  abbrev g : Game
  g = game_of h

  -- the same position in the same game
  pub under : (p e : ℕ) → IsUnder g p e → IsUnder (game_of s.game) p e
  under p e is = subst (λ (x : HeldGame). IsUnder (game_of x) p e) (sym ready.same) is

  -- its cell, and what the height there says
  pub numbered : (number e p q : ℕ) → IsNumberOf (game_of s.game) s.contexts number e p → q < g.states.count → IsNumbered s number p q
  numbered number e p q is st =
      (is.context, is.at, is.of, subst (λ (x : HeldGame). q < (game_of x).states.count) (sym ready.same) st)

  pub height_is : (number e p q : ℕ) (o : Option ℕ) → IsNumberOf (game_of s.game) s.contexts number e p → IsHeightIn s number p q o → HeightIs g p q e o
  height_is number e p q o is here =
      subst (λ (x : HeldGame). HeightIs (game_of x) p q e o) ready.same (subst (λ (a : ℕ). HeightIs (game_of s.game) p q a o) is.promise_is (here is.context is.at))

-- the set by its members
pub promised_is : (g : Game) (q e : ℕ) (call : Called) (set n : ℕ) → n ≡ g.states.count → ((x : ℕ) → has_member set x ≡ (nat_lt x n && is_kept_back g q e call x)) → set ≡ promised g q e call
unfolding has_member
promised_is g q e call set n same h =
    same_from_members set (promised g q e call) (λ x. h x ∙ ap (λ (n : ℕ). nat_lt x n && is_kept_back g q e call x) same ∙ sym (has_set (is_kept_back g q e call) g.states.count x))
