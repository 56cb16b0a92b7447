-- Working definitions: a run that is walked move by move, at rest behind the skips.
use Rattle.std.specs.Prelude.{◌≡◌, List, Bool, true, false, cond, not, ◌||◌, Option, Some, None, map, reverse, option_map}
use Rattle.std.specs.List.{All}
use Rattle.cw_certs.specs.declared.moves.Move.{Move}
use Rattle.cw_game.specs.Games.{Game, Ret, Config, at_pair, leads_to}
use Rattle.cw_game.specs.Pairs.{kept_at}
use Rattle.cw_game.specs.Linked.{is_bad_at}
use Rattle.cw_audit_table.specs.Runs.{is_step, skipped}
use Rattle.cw_product.specs.Moves.{IsPosition, IsState}
use Rattle.cw_audit_check.specs.declared.walk.Wait.{Wait}
use Rattle.cw_audit_check.specs.declared.walk.Walk.{Walk}

-- the returns that wait, the innermost first
abbrev pub ret_of : Wait → Ret
ret_of w = record { back = w.back.0; kept = kept_at w.split w.state.0 }

abbrev pub rets_of : List Wait → List Ret
rets_of waits = map ret_of (reverse waits)

abbrev pub config_of : Walk → Config
config_of w = at_pair w.pos.0 w.state.0 (rets_of w.waits.items)

-- behind the skips
abbrev pub rested : Game → Config → Config
rested g c = at_pair (skipped g c.pos) c.state c.rets

-- where a move of the program leads from a pair that isn't bad
abbrev pub stepped : Game → Config → Move → Option Config
stepped g c by = cond (is_bad_at g c || not (is_step by)) None (leads_to g c by)

-- a wait's numbers are in range; a walk's
abbrev pub IsWait : Game → Wait → Type 0
IsWait g w = IsPosition g w.back.0 × IsState g w.state.0

pub record IsWalk (g : Game) (w : Walk) : Type 0 where
  pub pos : IsPosition g w.pos.0
  pub state : IsState g w.state.0
  pub waits : All (IsWait g) w.waits.items

-- whether the move was made, and where it led, behind the skips
abbrev pub Went : Game → Config → Move → Config → Bool → Type 0
Went g c by d true = option_map (rested g) (stepped g c by) ≡ Some d
Went g c by d false = stepped g c by ≡ None
