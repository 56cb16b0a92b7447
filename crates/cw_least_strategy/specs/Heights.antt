-- The heights of pairs for an aim.
use Rattle.std.specs.Prelude.{ℕ, zero, suc, cond, not}
use Rattle.cw_game.specs.Games.{Game, Promise, Holds}
use Rattle.cw_game.specs.Pairs.{has}
use Rattle.cw_solve.specs.Sets.{set_of}

-- all states but those of a set: what is promised where the environment aims at the set
abbrev pub others : Game → ℕ → ℕ
others g set = set_of (λ x. not (has set x)) g.states.count

-- the height of a pair under a promise, the least number of moves for which it doesn't hold, where that is at most n; else 0, which is no height
abbrev pub height_within : Game → ℕ → ℕ → ℕ → Promise → ℕ
height_within g zero p q e = 0
height_within g (suc n) p q e = cond (Holds g n p q e) (cond (Holds g (suc n) p q e) 0 (suc n)) (height_within g n p q e)
