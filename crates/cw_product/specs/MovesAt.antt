-- Which moves there are.
use Rattle.std.specs.Prelude.{Option, Some, None}
use Rattle.cw_certs.specs.declared.moves.Move.{Move}
use Rattle.cw_certs.specs.declared.moves.Move.TheVariants.{Skip, Try, Grant, Refuse, On, Left, Right, Opened, Failed}
use Rattle.cw_game.specs.declared.spots.Spot.{Spot}
use Rattle.cw_game.specs.declared.spots.Spot.TheVariants.{Visit, Asked, Branch, Open}

-- the moves that there are where this stands, one or two
abbrev pub first_move : Option Spot → Move
first_move (Some (Visit j i a)) = Skip
first_move (Some (Asked j i a)) = Grant
first_move (Some (Branch m n)) = Left
first_move (Some (Open j d n)) = Opened
first_move _ = On

abbrev pub second_move : Option Spot → Option Move
second_move (Some (Visit j i a)) = Some Try
second_move (Some (Asked j i a)) = Some Refuse
second_move (Some (Branch m n)) = Some Right
second_move (Some (Open j d n)) = Some Failed
second_move _ = None
