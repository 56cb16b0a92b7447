use Rattle.std.proofs.Common.{◌≡◌, ◌+◌, ◌≤◌, map, take}
use Rattle.std.specs.Prelude.{vec_len, vec_capacity}
use Rattle.std.specs.List.{All}
use Rattle.cw_syntax.specs.Trees.{file_of}
use Rattle.cw_io.specs.Written.{Follows}
use Rattle.cw_product.specs.Product.{game_of}
use Rattle.cw_trace.specs.Labels.{name_lists}
use Rattle.cw_run.specs.Walks.{wait_of, landing_in, IsWait, IsLanding}
use Rattle.cw_worlds.specs.Forks.{fork_places}
use Rattle.cw_procs.specs.Played.{entry_of}
use Rattle.cw_procs.specs.Walks.{links_of, process_of, forks_in, entries_in}
use Rattle.cw_procs.proofs.Keeping.{Keeps}
use Rattle.cw_procs.proofs.Looping.{plan_here}
use Rattle.cw_procs.proofs.world.run_world.Given as goal

-- only `on` enters a function, and only a fork makes a process: so there is room for each
abbrev pub invariant-loop-i : goal.invariant-loop-i
invariant-loop-i g l = record {
  kept : Keeps (name_lists l.names) (game_of l.game) l.table (plan_here l.game l.checked.source.now (file_of l.checked.program)) (fork_places l.checked.source.now (file_of l.checked.program))
      (map entry_of (take l.i l.steps)) (map process_of l.processes.items) (links_of l.links.items) l.fn.writer.text l.writer.text;
  links : All (λ k. IsWait (game_of l.game) (wait_of k.wait)) l.links.items;
  processes : All (λ p. IsLanding (game_of l.game) (landing_in p.landing)) l.processes.items;
  few_links : vec_len l.links ≤ 0 + entries_in (take l.i l.steps);
  link_room : 0 + entries_in l.steps ≤ vec_capacity l.links;
  few_processes : vec_len l.processes ≤ 1 + forks_in (take l.i l.steps);
  process_room : 1 + forks_in l.steps ≤ vec_capacity l.processes;
  begun : l.writer.begun ≡ l.fn.writer.begun;
  follows : Follows g.S.Sink.taken g.S.Sink.faults g.S.Sink.refused l.writer l.out;
}
