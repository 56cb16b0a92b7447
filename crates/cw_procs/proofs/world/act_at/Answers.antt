use Rattle.std.proofs.Common.{List, length, map, refl, sym, ap, ◌∙◌}
use Rattle.std.proofs.lemmas.List.{length-map}
use Rattle.std.proofs.lemmas.Bool.{not-false}
use Rattle.cw_product.specs.Product.{game_of}
use Rattle.cw_states.specs.States.{lists_of, caps_at}
use Rattle.cw_trace.specs.Labels.{name_lists}
use Rattle.cw_run.specs.Walks.{here_of, landing_in, IsLanding}
use Rattle.cw_procs.specs.declared.world.Process.{Process as ProcessData}
use Rattle.cw_procs.specs.Walks.{process_of, links_of, IsFlag, stuck, unforked}
use Rattle.cw_procs.proofs.Acting.{map_set, mapped_get, is_other, has_moved, has_forked, flag_not, not_of, parted, all_parted}
use Rattle.cw_procs.proofs.world.act_at.Goals as goal

pub returns-then-not-step-clause-acted : goal.returns-then-not-step-clause-acted
returns-then-not-step-clause-acted g c =
    let there = mapped_get process_of c.args.processes.now.items c.args.step.process c.args.process c.requires.process in (
      is_other (name_lists c.args.names.now) (game_of c.args.game.now) c.args.table.now (caps_at (lists_of c.args.game.now.states)) (IsFlag c.args.game.now c.args.flags.now) c.args.step.process
          c.args.step.fork c.args.step.by (map process_of c.args.processes.now.items) (links_of c.args.links.now.items) (process_of c.args.process) (here_of c.args.here) there c.requires.landing
          _ c.if-forks_at.ensures.flag (flag_not c.args.step.fork c.if-not-step.true),
      refl,
    )

pub returns-then-step-clause-acted : goal.returns-then-step-clause-acted
returns-then-step-clause-acted g c =
    let there = mapped_get process_of c.args.processes.now.items c.args.step.process c.args.process c.requires.process in (
      is_other (name_lists c.args.names.now) (game_of c.args.game.now) c.args.table.now (caps_at (lists_of c.args.game.now.states)) (IsFlag c.args.game.now c.args.flags.now) c.args.step.process
          c.args.step.fork c.args.step.by (map process_of c.args.processes.now.items) (links_of c.args.links.now.items) (process_of c.args.process) (here_of c.args.here) there c.requires.landing
          _ c.if-forks_at.ensures.flag (not_of c.args.step.fork c.if-step.true),
      refl,
    )

pub returns-in-None-clause-acted : goal.returns-in-None-clause-acted
returns-in-None-clause-acted g c =
    let there = mapped_get process_of c.args.processes.now.items c.args.step.process c.args.process c.requires.process in
    let h = c.in-None.ensures.forks in
    (unforked (process_of c.args.process) (here_of c.args.here) there c.requires.landing (not-false c.args.step.fork c.if-not-step.false) h.0, h.1)

pub returns-in-None-move_one-clause-acted : goal.returns-in-None-move_one-clause-acted
returns-in-None-move_one-clause-acted g c =
    let there = mapped_get process_of c.args.processes.now.items c.args.step.process c.args.process c.requires.process in
    let h = c.in-None-move_one.ensures.moves in
    (stuck (process_of c.args.process) (here_of c.args.here) there c.requires.landing c.if-step.false h.0, h.1)

pub returns-in-Some-clause-acted : goal.returns-in-Some-clause-acted
returns-in-Some-clause-acted g c =
    let items = c.args.processes.now.items in
    let there = mapped_get process_of items c.args.step.process c.args.process c.requires.process in
    has_forked (name_lists c.args.names.now) (game_of c.args.game.now) c.args.table.now (caps_at (lists_of c.args.game.now.states)) (IsFlag c.args.game.now c.args.flags.now) c.args.step.process
    c.args.step.fork c.args.step.by (map process_of items) (links_of c.args.links.now.items) (process_of c.args.process) (here_of c.args.here) there c.requires.landing
    (map process_of c.push_reserved.new.self.items) _ _ _ (process_of c.in-Some.parent) (process_of c.in-Some.forked) _ c.if-forks_at.ensures.flag (not-false c.args.step.fork c.if-not-step.false)
    (ap (λ (l : List ProcessData). length l) c.as_slice.ensures.value ∙ sym (length-map items process_of)) c.in-Some.ensures.forks
    (parted process_of items c.push_reserved.new.self.items c.args.step.process c.in-Some.parent c.in-Some.forked c.push_reserved.ensures.items)

pub returns-in-Some-clause-processes : goal.returns-in-Some-clause-processes
returns-in-Some-clause-processes g c =
    all_parted (λ (p : ProcessData). IsLanding (game_of c.args.game.now) (landing_in p.landing)) c.args.processes.now.items c.push_reserved.new.self.items c.args.step.process c.in-Some.parent
    c.in-Some.forked c.push_reserved.ensures.items c.requires.processes c.in-Some.ensures.parent c.in-Some.ensures.child

pub returns-in-Some-move_one-clause-acted : goal.returns-in-Some-move_one-clause-acted
returns-in-Some-move_one-clause-acted g c =
    let items = c.args.processes.now.items in
    let there = mapped_get process_of items c.args.step.process c.args.process c.requires.process in
    has_moved (name_lists c.args.names.now) (game_of c.args.game.now) c.args.table.now (caps_at (lists_of c.args.game.now.states)) (IsFlag c.args.game.now c.args.flags.now) c.args.step.process
    c.args.step.fork c.args.step.by (map process_of items) (links_of c.args.links.now.items) (process_of c.args.process) (here_of c.args.here) there c.requires.landing
    _ _ _ _ (process_of c.in-Some-move_one.after) c.if-forks_at.ensures.flag c.if-step.false c.in-Some-move_one.ensures.moves
    (map_set process_of items c.args.step.process c.in-Some-move_one.after)
