use Rattle.std.proofs.Common.{◌≡◌, ◌<◌, ◌+◌, ◌∙◌, ℕ, Bool, List, Option, length, subst, sym, arith}
use Rattle.std.specs.Prelude.{slice_get, IfSome}
use Rattle.cw_links.specs.Lists.{list_at}
use Rattle.cw_links.specs.Flags.{number}
use Rattle.cw_product.specs.Product.{game_of}
use Rattle.cw_solve.proofs.Keeping.{few}
use Rattle.cw_linked.specs.Calls.{CallsLeft}
use Rattle.cw_linked.specs.Founds.{AllCalled}
use Rattle.cw_linked.specs.Queues.{found_of}
use Rattle.cw_linked.specs.Walks.{rest_of}
use Rattle.cw_linked.proofs.Alike.{alike}
use Rattle.cw_linked.proofs.Callers.{all_calls}
use Rattle.cw_linked.proofs.Finishing.{next_right}
use Rattle.cw_linked.proofs.Returning.{asked_call_left, no_calls_left}
use Rattle.cw_linked.proofs.Takings.{few_number}
use Rattle.cw_linked.proofs.Telling.{nothing, two_steps}
use Rattle.cw_linked.proofs.Walking.{walk_begins, walk_goes_on}
use Rattle.cw_linked.proofs.calls.ask_callers.Goals as goal

pub overflow_cast-number : goal.overflow_cast-number
overflow_cast-number c =
    let w = c.args.work.now in
    let at = c.args.cell.now.at in
    let most = few (game_of c.args.game.now) (length c.args.game.now.graph.parts.items) c.requires.routed w.blocks c.requires.known.blocks in
    omega (arith, most, c.number.ensures, few_number w.blocks.contexts.items at.number at.context c.requires.cell.at)

pub overflow_add-number : goal.overflow_add-number
overflow_add-number c =
    let w = c.args.work.now in
    let at = c.args.cell.now.at in
    let most = few (game_of c.args.game.now) (length c.args.game.now.graph.parts.items) c.requires.routed w.blocks c.requires.known.blocks in
    omega (arith, most, c.number.ensures, few_number w.blocks.contexts.items at.number at.context c.requires.cell.at)

pub walk-init : goal.walk-init
walk-init c =
    let g = game_of c.args.game.now in
    let w = c.args.work.now in
    let cell = c.args.cell.now in
    let begins = walk_begins (list_at w.store.lists (cell.at.number + 1)) c.first-next.result
    (subst (λ (n : ℕ). c.first-next.result ≡ slice_get (list_at w.store.lists (n + 1)) 0) c.number.ensures c.first-next.ensures.first) in
    record {
      known = c.first-next.ensures.known;
      step = nothing g w c.requires.long c.requires.high c.requires.right;
      at = begins.1;
      left = subst (λ (ys : List ℕ). AllCalled g w.blocks.contexts.items (found_of g w) (CallsLeft g w.blocks.contexts.items w.store.flags (found_of g w) ys cell.at.number cell.pos.0 cell.state.0))
          (sym begins.0)
          (all_calls g (length c.args.game.now.graph.parts.items) c.requires.routed (alike c.args.game.now) w c.requires.known
          c.requires.flagged c.first-next.ensures.there cell.at.number cell.pos.0 cell.state.0 c.requires.called);
    }

pub next-next-requires : goal.next-next-requires
next-next-requires c =
    subst (λ (ms : List Bool). c.in-Some.link < number ms) (sym c.in_ok-ask_caller.ensures.step.others.flags)
    (subst (λ (o : Option ℕ). IfSome o (λ link. link < number c.walk.work.store.flags)) c.in-Some.is c.walk.invariant.known)

pub ask_caller-requires-clause-right : goal.ask_caller-requires-clause-right
ask_caller-requires-clause-right c =
    next_right (game_of c.args.game.now) (length c.args.game.now.graph.parts.items) c.requires.routed (alike c.args.game.now) c.args.work.now c.walk.work c.requires.known c.walk.invariant.step

pub walk-smaller : goal.walk-smaller
walk-smaller c =
    (walk_goes_on c.ask_caller.new.work.store.lists c.args.work.now.store.lists (c.in_ok-ask_caller.ensures.step.others.lists ∙ c.walk.invariant.step.others.lists)
    (number c.ask_caller.new.work.store.flags) (c.args.cell.now.at.number + 1) c.in-Some.link c.walk.next c.next-next.result
    c.in-Some.is c.walk.invariant.at c.next-next.ensures.apart c.next-next.ensures.within).fewer

pub walk-preserved : goal.walk-preserved
walk-preserved c =
    let g = game_of c.args.game.now in
    let functions = length c.args.game.now.graph.parts.items in
    let w = c.args.work.now in
    let cell = c.args.cell.now in
    let l = cell.at.number + 1 in
    let link = c.in-Some.link in
    let s = walk_goes_on c.ask_caller.new.work.store.lists c.args.work.now.store.lists (c.in_ok-ask_caller.ensures.step.others.lists ∙ c.walk.invariant.step.others.lists)
    (number c.ask_caller.new.work.store.flags) l c.in-Some.link c.walk.next c.next-next.result
    c.in-Some.is c.walk.invariant.at c.next-next.ensures.apart c.next-next.ensures.within in
    record {
      known = c.next-next.ensures.known;
      step = two_steps g w c.walk.work c.ask_caller.new.work c.walk.invariant.step c.in_ok-ask_caller.ensures.step;
      at = s.at;
      left = subst (λ (ys : List ℕ). AllCalled g w.blocks.contexts.items (found_of g c.ask_caller.new.work)
          (CallsLeft g w.blocks.contexts.items w.store.flags (found_of g w) ys cell.at.number cell.pos.0 cell.state.0)) (sym s.left)
          (asked_call_left g functions c.requires.routed (alike c.args.game.now) w c.walk.work c.ask_caller.new.work c.requires.known c.walk.invariant.step link c.linked-told.result.index s.back cell
          c.requires.flagged c.linked-told.ensures.flagged c.linked-told.ensures.rank c.in_ok-ask_caller.ensures
          (subst (λ (ys : List ℕ). AllCalled g w.blocks.contexts.items (found_of g c.walk.work)
          (CallsLeft g w.blocks.contexts.items w.store.flags (found_of g w) ys cell.at.number cell.pos.0 cell.state.0)) s.rest c.walk.invariant.left));
    }

pub returns : goal.returns
returns c =
    let g = game_of c.args.game.now in
    let w = c.args.work.now in
    let cell = c.args.cell.now in
    let l = cell.at.number + 1 in
    record {
      step = c.walk.invariant.step;
      called = no_calls_left g w.blocks.contexts.items w.store.flags (found_of g c.walk.work) (found_of g w) cell.at.number cell.pos.0 cell.state.0
          (subst (λ (o : Option ℕ). AllCalled g w.blocks.contexts.items (found_of g c.walk.work)
          (CallsLeft g w.blocks.contexts.items w.store.flags (found_of g w) (rest_of (list_at w.store.lists l) o) cell.at.number cell.pos.0 cell.state.0)) c.in_default.is c.walk.invariant.left);
    }
