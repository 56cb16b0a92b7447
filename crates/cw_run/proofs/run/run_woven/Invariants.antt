use Rattle.std.proofs.Common.{◌≡◌, ◌≤◌, take}
use Rattle.std.specs.Prelude.{vec_len, vec_capacity}
use Rattle.cw_syntax.specs.Trees.{file_of}
use Rattle.cw_io.specs.Written.{Follows}
use Rattle.cw_trace.specs.Labels.{name_lists}
use Rattle.cw_run.specs.Walks.{entries}
use Rattle.cw_run.proofs.Looping.{plan_here, LoopKeeps}
use Rattle.cw_run.proofs.run.run_woven.Given as goal

-- an entry enters one function at most, and only `on` does, so that there is room for each call
abbrev pub invariant-loop-i : goal.invariant-loop-i
invariant-loop-i g l = record {
  run : LoopKeeps (name_lists l.names) l.game l.table (plan_here l.game l.checked.source.now (file_of l.checked.program)) (take l.i l.tape) l.landing l.waits.items l.fn.writer.text l.writer.text;
  few : vec_len l.waits ≤ entries (take l.i l.tape);
  room : entries l.tape ≤ vec_capacity l.waits;
  begun : l.writer.begun ≡ l.fn.writer.begun;
  follows : Follows g.S.Sink.taken g.S.Sink.faults g.S.Sink.refused l.writer l.out;
}
