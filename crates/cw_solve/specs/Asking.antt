-- Working definitions: what a pair that isn't bad, a call or an exit asks of the pairs to which its moves lead.
use Rattle.std.specs.Prelude.{ℕ, Bool, true, ◌&&◌, ◌||◌, Option, Some, None}
use Rattle.cw_certs.specs.declared.moves.Move.{Move}
use Rattle.cw_certs.specs.declared.moves.Move.TheVariants.{Skip, Try, Grant, Refuse, On, Left, Right, Opened, Failed}
use Rattle.cw_game.specs.declared.spots.Spot.{Spot}
use Rattle.cw_game.specs.declared.spots.Spot.TheVariants.{Visit, Asked, Branch, Open}
use Rattle.cw_game.specs.Games.{Game, Promise}
use Rattle.cw_product.specs.Moves.{next_in}

-- the pair to which a move leads holds, or the move isn't there
abbrev pub holds_after : (ℕ → ℕ → Promise → Bool) → Promise → Option (ℕ × ℕ) → Bool
holds_after h e None = true
holds_after h e (Some r) = h r.0 r.1 e

abbrev pub after : Game → (ℕ → ℕ → Promise → Bool) → ℕ → ℕ → Promise → Option Spot → Move → Bool
after g h p q e s by = holds_after h e (next_in g p q s by)

-- one of two moves at a visit, both where there are two, the one move elsewhere
abbrev pub holds_by_moves : Game → (ℕ → ℕ → Promise → Bool) → ℕ → ℕ → Promise → Option Spot → Bool
holds_by_moves g h p q e (Some (Visit j i a)) = after g h p q e (Some (Visit j i a)) Skip || after g h p q e (Some (Visit j i a)) Try
holds_by_moves g h p q e (Some (Asked j i a)) = after g h p q e (Some (Asked j i a)) Grant && after g h p q e (Some (Asked j i a)) Refuse
holds_by_moves g h p q e (Some (Branch m n)) = after g h p q e (Some (Branch m n)) Left && after g h p q e (Some (Branch m n)) Right
holds_by_moves g h p q e (Some (Open j d n)) = after g h p q e (Some (Open j d n)) Opened && after g h p q e (Some (Open j d n)) Failed
holds_by_moves g h p q e s = after g h p q e s On
