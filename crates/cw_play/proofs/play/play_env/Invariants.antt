use Rattle.std.proofs.Common.{◌≡◌, ◌≤◌, length, drop, reverse}
use Rattle.std.specs.Prelude.{vec_capacity}
use Rattle.cw_certs.specs.Strategies.{strategy_of}
use Rattle.cw_states.specs.States.{lists_of}
use Rattle.cw_io.specs.Written.{Follows}
use Rattle.cw_product.specs.Product.{game_of}
use Rattle.cw_trace.specs.Labels.{name_lists}
use Rattle.cw_play.specs.Rows.{moves_left}
use Rattle.cw_play.proofs.Held.{Kept}
use Rattle.cw_play.proofs.Nested.{AreNested}
use Rattle.cw_play.proofs.play.play_env.Given as goal

abbrev pub invariant-rows : goal.invariant-rows
invariant-rows g l = record {
  entries : l.taken ≤ length l.tape;
  kept : Kept (game_of l.game) (lists_of l.game.states) (name_lists l.names) (strategy_of l.cert) l.initial.at l.tape l.fn.writer.text l.writer.text l.at (reverse l.calls.items) (drop l.taken l.tape);
  nested : AreNested (length l.cert.rows.items) l.at (reverse l.calls.items);
  room : length l.cert.rows.items ≤ vec_capacity l.calls;
  begun : l.writer.begun ≡ l.fn.writer.begun;
  follows : Follows g.S.Sink.taken g.S.Sink.faults g.S.Sink.refused l.writer l.out;
}

abbrev pub decreases-rows : goal.decreases-rows
decreases-rows g l = moves_left l.at (reverse l.calls.items)
