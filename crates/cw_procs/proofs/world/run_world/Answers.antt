use Rattle.std.proofs.Common.{◌≡◌, List, [], ◌∷◌, ◌++◌, None, length, map, refl, sym, ap, ◌∙◌, subst, arith}
use Rattle.std.proofs.lemmas.List.{get_or_default, length-map}
use Rattle.std.proofs.lemmas.List.Elements.{All-nil, All-same, All-push}
use Rattle.cw_rights.specs.Policies.{policy_of}
use Rattle.cw_resolve.specs.Scenes.{names_of}
use Rattle.cw_syntax.specs.Trees.{file_of}
use Rattle.cw_points.specs.Graphs.{IsGraph}
use Rattle.cw_product.specs.Product.{game_of}
use Rattle.cw_trace.specs.Labels.{name_lists}
use Rattle.cw_run.specs.Walks.{here_of, wait_of, landing_in, IsWait, IsLanding}
use Rattle.cw_procs.specs.declared.stacks.Link.{Link as LinkData}
use Rattle.cw_procs.specs.declared.world.Process.{Process as ProcessData}
use Rattle.cw_procs.specs.Walks.{links_of, process_of, is_entry, is_fork, entries_in, forks_in}
use Rattle.cw_run.specs.declared.run.Landing.TheVariants.{At}
use Rattle.cw_procs.proofs.Looping.{room_for, few_after, covers, loop_begun, loop_went, loop_bad, loop_done}
use Rattle.cw_procs.proofs.world.run_world.Goals as goal

pub loop-i-init : goal.loop-i-init
loop-i-init g c =
    let q = c.requires in
    let P = λ (p : ProcessData). IsLanding (game_of c.args.game.now) (landing_in p.landing) in
    let L = λ (k : LinkData). IsWait (game_of c.args.game.now) (wait_of k.wait) in
    let v : ProcessData = record { landing = At c.begin.result; calls = None } in
    let pushed : c.push_reserved.new.self.items ≡ v ∷ [] = c.push_reserved.ensures.items ∙ ap (λ (l : List ProcessData). l ++ v ∷ []) c.in_ok-processes.ensures.items in
    record {
      kept = loop_begun c.args.game.now c.args.checked.now.source.now (file_of c.args.checked.now.program) c.args.table.now (name_lists c.in_ok-names.names) c.in_ok-flags.flags.items
          q.valid q.lists q.drawn q.runnable q.assigns q.good (c.in_ok-flags.ensures.forks (names_of (policy_of c.args.game.now.states.policy)))
          (here_of c.begin.result) (map process_of c.push_reserved.new.self.items) (links_of c.in_ok-links.links.items) _ _ c.begin.ensures.arrives
          (ap (map process_of) pushed) (ap links_of c.in_ok-links.ensures.items);
      links = All-same L c.in_ok-links.links.items [] c.in_ok-links.ensures.items (All-nil L);
      processes = All-same P c.push_reserved.new.self.items (v ∷ []) pushed (All-push P [] v (All-nil P) c.begin.ensures.range);
      few_links = omega (arith, c.in_ok-links.ensures.len);
      link_room = omega (arith, c.in_ok-links.ensures.capacity, c.entries.ensures);
      few_processes = omega (arith, c.in_ok-processes.ensures.len, c.push_reserved.ensures.len);
      process_room = omega (arith, c.in_ok-processes.ensures.capacity, c.push_reserved.ensures.capacity, c.forks.ensures);
      begun = c.begin.ensures.begun;
      follows = c.begin.ensures.follows;
    }

pub act-requires-clause-flags : goal.act-requires-clause-flags
act-requires-clause-flags g c =
    let q = c.requires in
    covers c.args.game.now c.args.checked.now.source.now (file_of c.args.checked.now.program) c.args.table.now (name_lists c.in_ok-names.names) c.deref.result.now
    q.valid q.lists q.drawn q.runnable q.assigns q.good (c.deref.ensures.value ∙ c.in_ok-flags.ensures.forks (names_of (policy_of c.args.game.now.states.policy)))

pub act-requires-clause-entries : goal.act-requires-clause-entries
act-requires-clause-entries g c =
    room_for is_entry c.args.steps.now c.loop-i.i _ _ _ 0 (entries_in c.args.steps.now) c.loop-i-test.true (get_or_default c.args.steps.now c.loop-i.i _ _ c.loop-i-test.true) refl
    c.loop-i.invariant.few_links c.loop-i.invariant.link_room

pub act-requires-clause-forks : goal.act-requires-clause-forks
act-requires-clause-forks g c =
    room_for is_fork c.args.steps.now c.loop-i.i _ _ _ 1 (forks_in c.args.steps.now) c.loop-i-test.true (get_or_default c.args.steps.now c.loop-i.i _ _ c.loop-i-test.true) refl
    c.loop-i.invariant.few_processes c.loop-i.invariant.process_room

pub returns-then-not-act-clause-world : goal.returns-then-not-act-clause-world
returns-then-not-act-clause-world g c =
    let q = c.requires in
    let e =
    c.in_ok-names.ensures.names (names_of (policy_of c.args.game.now.states.policy))
    (subst (λ gr. IsGraph (names_of (policy_of c.args.game.now.states.policy)) c.args.checked.now.source.now (file_of c.args.checked.now.program) gr) (sym c.graph.ensures) q.drawn) in
    loop_bad c.args.game.now c.args.checked.now.source.now (file_of c.args.checked.now.program) c.args.table.now (name_lists c.in_ok-names.names) c.deref.result.now
    q.valid q.lists q.drawn q.runnable q.assigns q.good (c.deref.ensures.value ∙ c.in_ok-flags.ensures.forks (names_of (policy_of c.args.game.now.states.policy)))
    c.args.steps.now c.loop-i.i _ (map process_of c.loop-i.processes.items) (map process_of c.act.new.processes.items) (links_of c.loop-i.links.items) (links_of c.act.new.links.items) _ _ _
    c.act.result e c.loop-i-test.true (get_or_default c.args.steps.now c.loop-i.i _ _ c.loop-i-test.true) c.if-not-act.true c.loop-i.invariant.kept c.act.ensures.acted

pub loop-i-preserved : goal.loop-i-preserved
loop-i-preserved g c =
    let q = c.requires in
    let is = get_or_default c.args.steps.now c.loop-i.i _ _ c.loop-i-test.true in
    record {
      kept = loop_went c.args.game.now c.args.checked.now.source.now (file_of c.args.checked.now.program) c.args.table.now (name_lists c.in_ok-names.names) c.deref.result.now
          q.valid q.lists q.drawn q.runnable q.assigns q.good (c.deref.ensures.value ∙ c.in_ok-flags.ensures.forks (names_of (policy_of c.args.game.now.states.policy)))
          c.args.steps.now c.loop-i.i _ (map process_of c.loop-i.processes.items) (map process_of c.act.new.processes.items) (links_of c.loop-i.links.items) (links_of c.act.new.links.items) _ _ _
          c.act.result c.loop-i-test.true is c.if-not-act.false c.loop-i.invariant.kept c.act.ensures.acted;
      links = c.act.ensures.links;
      processes = c.act.ensures.processes;
      few_links = few_after is_entry c.args.steps.now c.loop-i.i _ _ _ 0 c.loop-i-test.true is c.loop-i.invariant.few_links c.act.ensures.entries;
      link_room = omega (arith, c.loop-i.invariant.link_room, c.act.ensures.link_room);
      few_processes = few_after is_fork c.args.steps.now c.loop-i.i _ _ _ 1 c.loop-i-test.true is c.loop-i.invariant.few_processes c.act.ensures.forks;
      process_room = omega (arith, c.loop-i.invariant.process_room, c.act.ensures.process_room);
      begun = c.act.ensures.begun ∙ c.loop-i.invariant.begun;
      follows = c.act.ensures.follows;
    }

pub returns-clause-world : goal.returns-clause-world
returns-clause-world g c =
    let q = c.requires in
    let e =
    c.in_ok-names.ensures.names (names_of (policy_of c.args.game.now.states.policy))
    (subst (λ gr. IsGraph (names_of (policy_of c.args.game.now.states.policy)) c.args.checked.now.source.now (file_of c.args.checked.now.program) gr) (sym c.graph.ensures) q.drawn) in
    let f = c.loop-i-test.false in
    loop_done c.args.game.now c.args.checked.now.source.now (file_of c.args.checked.now.program) c.args.table.now (name_lists c.in_ok-names.names) c.in_ok-flags.flags.items
    q.valid q.lists q.drawn q.runnable q.assigns q.good (c.in_ok-flags.ensures.forks (names_of (policy_of c.args.game.now.states.policy)))
    c.args.steps.now c.loop-i.i (map process_of c.loop-i.processes.items) (links_of c.loop-i.links.items) _ _ _ e (omega (arith, f))
    (ap (λ (l : List ProcessData). length l) c.as_slice.ensures.value ∙ sym (length-map c.loop-i.processes.items process_of)) c.loop-i.invariant.kept
