-- The laws, from what rows give.
use Rattle.cw_certs.specs.Strategies.{Strategy}
use Rattle.cw_game.specs.Games.{Game}
use Rattle.cw_game.specs.Conditions.{IsGoodStrategy}
use Rattle.cw_game.specs.Reached.{Reached}
use Rattle.cw_game.proofs.Standing.{lost_start}
use Rattle.cw_echeck.specs.Beating.{BeatsAll, GoodStrategiesStart, GoodStrategiesBeat, GoodStrategiesLose, GoodStrategiesForce, ClosedStrategiesBeat, ClosedStrategiesLose, ClosedStrategiesForce}
use Rattle.cw_echeck.proofs.Wins.{as_problem, closed_beats}
use Rattle.cw_echeck.proofs.Rows.{closed_loses}
use Rattle.cw_game.proofs.Goods.{good_strategy_closed}
use Rattle.cw_echeck.proofs.Starts.{good_start}

pub closed_beat : ClosedStrategiesBeat
closed_beat p g s row game start = closed_beats p g game s row start.closed start.start

pub closed_lose : ClosedStrategiesLose
closed_lose p g s row game start = closed_loses p.plan g (as_problem p g game) s start.closed row start.start

pub closed_force : ClosedStrategiesForce
closed_force p g s row game start = lost_start (Reached g.policy g.spots g.states) g p game.policy game.states game.laid game.routines (closed_lose p g s row game start)

pub good_starts : GoodStrategiesStart
good_starts g s good = good_start g s good

pub good_beat : GoodStrategiesBeat
good_beat p g s row game good start = closed_beat p g s row game (record { closed = good_strategy_closed g s good; start = start.stands })

pub good_lose : GoodStrategiesLose
good_lose p g s game good = let start = good_start g s good in closed_lose p g s start.0 game (record { closed = good_strategy_closed g s good; start = start.1.stands })

pub good_force : GoodStrategiesForce
good_force p g s game good = let start = good_start g s good in closed_force p g s start.0 game (record { closed = good_strategy_closed g s good; start = start.1.stands })

pub all_beat : (g : Game) (s : Strategy) → IsGoodStrategy g s → BeatsAll g s
all_beat g s good p game = let start = good_start g s good in (start.0, start.1, good_beat p g s start.0 game good start.1)
