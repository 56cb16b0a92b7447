use Rattle.std.proofs.Common.{◌∙◌, sym, subst, arith, get_or}
use Rattle.std.proofs.lemmas.List.{get_or_default}
use Rattle.cw_certs.specs.declared.moves.Move.TheVariants.{On}
use Rattle.cw_rights.specs.Policies.{policy_of}
use Rattle.cw_resolve.specs.Scenes.{names_of}
use Rattle.cw_syntax.specs.Trees.{file_of}
use Rattle.cw_points.specs.Graphs.{IsGraph}
use Rattle.cw_trace.specs.Labels.{name_lists}
use Rattle.std.specs.Prelude.{IfSome}
use Rattle.cw_product.specs.Product.{game_of}
use Rattle.cw_run.specs.Walks.{IsLanding, landing_in}
use Rattle.cw_run.proofs.Entries.{few_after, room_for}
use Rattle.cw_run.proofs.Looping.{loop_begun, loop_went, loop_bad, loop_past, loop_spent, loop_over}
use Rattle.cw_run.proofs.run.run_woven.Goals as goal

pub loop-i-init : goal.loop-i-init
loop-i-init g c =
    let q = c.requires in
    record {
      run = loop_begun c.args.game.now c.args.checked.now.source.now (file_of c.args.checked.now.program) c.args.table.now (name_lists c.in_ok-names.names) q.valid q.lists q.drawn q.runnable q.assigns q.good
          c.begin.result c.in_ok-waits.waits.items _ _ c.begin.ensures.arrives c.begin.ensures.range c.in_ok-waits.ensures.items;
      few = omega (arith, c.in_ok-waits.ensures.len);
      room = omega (arith, c.in_ok-waits.ensures.capacity, c.entries.ensures);
      begun = c.begin.ensures.begun;
      follows = c.begin.ensures.follows;
    }

pub answer-requires-clause-room : goal.answer-requires-clause-room
answer-requires-clause-room g c =
    room_for c.args.tape.now c.loop-i.i _ _ _ c.loop-i-test.true (get_or_default c.args.tape.now c.loop-i.i _ _ c.loop-i-test.true) c.loop-i.invariant.few c.loop-i.invariant.room

pub returns-in-Over-clause-run : goal.returns-in-Over-clause-run
returns-in-Over-clause-run g c =
    let q = c.requires in
    let e =
    c.in_ok-names.ensures.names (names_of (policy_of c.args.game.now.states.policy))
    (subst (λ gr. IsGraph (names_of (policy_of c.args.game.now.states.policy)) c.args.checked.now.source.now (file_of c.args.checked.now.program) gr) (sym c.graph.ensures) q.drawn) in
    loop_past c.args.game.now c.args.checked.now.source.now (file_of c.args.checked.now.program) c.args.table.now (name_lists c.in_ok-names.names) q.valid q.lists q.drawn q.runnable q.assigns q.good
    c.args.tape.now c.loop-i.i (get_or c.args.tape.now c.loop-i.i On) _ _ _ _ e c.loop-i-test.true (get_or_default c.args.tape.now c.loop-i.i _ _ c.loop-i-test.true) c.in-Over.is
    c.loop-i.invariant.run

pub returns-in-None-clause-run : goal.returns-in-None-clause-run
returns-in-None-clause-run g c =
    let q = c.requires in
    let e =
    c.in_ok-names.ensures.names (names_of (policy_of c.args.game.now.states.policy))
    (subst (λ gr. IsGraph (names_of (policy_of c.args.game.now.states.policy)) c.args.checked.now.source.now (file_of c.args.checked.now.program) gr) (sym c.graph.ensures) q.drawn) in
    loop_bad c.args.game.now c.args.checked.now.source.now (file_of c.args.checked.now.program) c.args.table.now (name_lists c.in_ok-names.names) q.valid q.lists q.drawn q.runnable q.assigns q.good
    c.args.tape.now c.loop-i.i _ c.in-At.here _ _ _ c.answer.new.waits.items _ _ _ e c.loop-i-test.true (get_or_default c.args.tape.now c.loop-i.i _ _ c.loop-i-test.true)
    c.in-At.is c.in-None.is
    c.loop-i.invariant.run c.answer.ensures.answered

pub loop-i-preserved : goal.loop-i-preserved
loop-i-preserved g c =
    let q = c.requires in
    record {
      run = loop_went c.args.game.now c.args.checked.now.source.now (file_of c.args.checked.now.program) c.args.table.now (name_lists c.in_ok-names.names) q.valid q.lists q.drawn q.runnable q.assigns q.good
          c.args.tape.now c.loop-i.i _ c.in-At.here _ c.in-Some.next _ _ _ _ _ _ c.loop-i-test.true (get_or_default c.args.tape.now c.loop-i.i _ _ c.loop-i-test.true) c.in-At.is c.in-Some.is
          c.loop-i.invariant.run c.answer.ensures.answered
          (subst (λ o. IfSome o (λ landing. IsLanding (game_of c.args.game.now) (landing_in landing))) c.in-Some.is c.answer.ensures.range)
          c.answer.ensures.waits;
      few = few_after c.args.tape.now c.loop-i.i _ _ _ c.loop-i-test.true (get_or_default c.args.tape.now c.loop-i.i _ _ c.loop-i-test.true)
          c.loop-i.invariant.few c.answer.ensures.length;
      room = omega (arith, c.loop-i.invariant.room, c.answer.ensures.capacity);
      begun = c.answer.ensures.begun ∙ c.loop-i.invariant.begun;
      follows = c.answer.ensures.follows;
    }

pub returns-in-At-landing-clause-run : goal.returns-in-At-landing-clause-run
returns-in-At-landing-clause-run g c =
    let q = c.requires in
    let e =
    c.in_ok-names.ensures.names (names_of (policy_of c.args.game.now.states.policy))
    (subst (λ gr. IsGraph (names_of (policy_of c.args.game.now.states.policy)) c.args.checked.now.source.now (file_of c.args.checked.now.program) gr) (sym c.graph.ensures) q.drawn) in
    let f = c.loop-i-test.false in
    loop_spent c.args.game.now c.args.checked.now.source.now (file_of c.args.checked.now.program) c.args.table.now (name_lists c.in_ok-names.names) q.valid q.lists q.drawn q.runnable q.assigns q.good
    c.args.tape.now c.loop-i.i c.in-At-landing.field-0 _ _ _ _ e (omega (arith, f)) c.in-At-landing.is c.loop-i.invariant.run

pub returns-clause-run : goal.returns-clause-run
returns-clause-run g c =
    let q = c.requires in
    let e =
    c.in_ok-names.ensures.names (names_of (policy_of c.args.game.now.states.policy))
    (subst (λ gr. IsGraph (names_of (policy_of c.args.game.now.states.policy)) c.args.checked.now.source.now (file_of c.args.checked.now.program) gr) (sym c.graph.ensures) q.drawn) in
    let f = c.loop-i-test.false in
    loop_over c.args.game.now c.args.checked.now.source.now (file_of c.args.checked.now.program) c.args.table.now (name_lists c.in_ok-names.names) q.valid q.lists q.drawn q.runnable q.assigns q.good
    c.args.tape.now c.loop-i.i _ _ _ _ e (omega (arith, f)) c.in-Over-landing.is c.loop-i.invariant.run
