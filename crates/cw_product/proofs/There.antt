-- Only the moves that there are where something stands lead anywhere.
use Rattle.std.proofs.Common.{◌≡◌, ℕ, Bool, true, false, Option, Some, None, refl}
use Rattle.cw_lemmas.proofs.Options.{cond_none}
use Rattle.cw_certs.specs.declared.moves.Move.{Move}
use Rattle.cw_certs.specs.declared.moves.Move.TheVariants.{Skip, Try, Grant, Refuse, On, Left, Right, Opened, Failed}
use Rattle.cw_game.specs.declared.spots.Spot.{Spot}
use Rattle.cw_game.specs.declared.spots.Spot.TheVariants.{Visit, Asked, Step, Branch, Label, Open, Close, Call, SplitCall, Exit}
use Rattle.cw_game.specs.Games.{Game}
use Rattle.cw_product.specs.Moves.{next_in, is_left_in}

abbrev pub is_move : Option Spot → Move → Bool
is_move (Some (Visit j i a)) Skip = true
is_move (Some (Visit j i a)) Try = true
is_move (Some (Visit j i a)) by = false
is_move (Some (Asked j i a)) Grant = true
is_move (Some (Asked j i a)) Refuse = true
is_move (Some (Asked j i a)) by = false
is_move (Some (Branch m n)) Left = true
is_move (Some (Branch m n)) Right = true
is_move (Some (Branch m n)) by = false
is_move (Some (Open j d n)) Opened = true
is_move (Some (Open j d n)) Failed = true
is_move (Some (Open j d n)) by = false
is_move s On = true
is_move s by = false

pub no_move : (g : Game) (p q : ℕ) (s : Option Spot) (by : Move) → is_move s by ≡ false → next_in g p q s by ≡ None
no_move g p q (Some (Visit j i a)) Skip out = cc
no_move g p q (Some (Visit j i a)) Try out = cc
no_move g p q (Some (Asked j i a)) Grant out = cc
no_move g p q (Some (Asked j i a)) Refuse out = cc
no_move g p q (Some (Branch m n)) Left out = cc
no_move g p q (Some (Branch m n)) Right out = cc
no_move g p q (Some (Open j d n)) Opened out = cc
no_move g p q (Some (Open j d n)) Failed out = cc
no_move g p q (Some (Step n)) On out = cc
no_move g p q (Some (Label j l n)) On out = cc
no_move g p q (Some (Close j d n)) On out = cc
no_move g p q (Some (Call j f n)) On out = cc
no_move g p q (Some (SplitCall j f n)) On out = cc
no_move g p q (Some (Exit f)) On out = cc
no_move g p q None On out = cc
no_move g p q s by out = cond_none (is_left_in g q s) None refl
