use Rattle.std.proofs.Common.{◌≡◌, ◌<◌, ◌∙◌, ℕ, List, Option, length, subst, sym, ap, arith}
use Rattle.std.specs.Prelude.{slice_get, IfSome}
use Rattle.std.proofs.lemmas.Option.{same_Some}
use Rattle.cw_links.specs.Lists.{list_at}
use Rattle.cw_product.specs.Product.{game_of}
use Rattle.cw_linked.specs.declared.edges.Pair.{Pair}
use Rattle.cw_linked.specs.Blocks.{IsBlock}
use Rattle.cw_solve.proofs.Calling.{cell_within}
use Rattle.cw_linked.specs.Founds.{Nothing, AllClosed}
use Rattle.cw_linked.specs.Queues.{found_of}
use Rattle.cw_linked.specs.Waiting.{list_of, IsSoleTo}
use Rattle.cw_linked.specs.Walks.{rest_of}
use Rattle.cw_linked.specs.Works.{Known, heights_of}
use Rattle.cw_linked.proofs.Alike.{alike}
use Rattle.cw_linked.proofs.Telling.{nothing, two_steps}
use Rattle.cw_linked.proofs.Waits.{AreLeft, change_pairs, changes_left, unmarked_left, asked_left, none_left}
use Rattle.cw_linked.proofs.Walking.{walk_begins, walk_in, walk_steps}
use Rattle.cw_linked.proofs.waiting.ask_changes.Goals as goal

pub is_flagged-requires : goal.is_flagged-requires
is_flagged-requires c =
    let g = game_of c.args.game.now in
    let cell = c.args.cell.now in
    let lt = cell_within g (length c.args.game.now.graph.parts.items) c.requires.routed c.args.work.now.blocks c.requires.known.blocks cell.at cell.pos.0 cell.state.0 c.requires.cell in
    omega (arith, lt, c.requires.changes.flags)

pub returns-then-not-is_flagged : goal.returns-then-not-is_flagged
returns-then-not-is_flagged c =
    let g = game_of c.args.game.now in
    let w = c.args.work.now in
    let cell = c.args.cell.now in
    record {
      step = nothing g w c.requires.long c.requires.high c.requires.right;
      closed = unmarked_left g w.blocks.contexts.items c.args.changes.now (found_of g w) c.requires.changes cell.at.number cell.pos.0 cell.state.0
          (λ i d p q is. cell_within g (length c.args.game.now.graph.parts.items) c.requires.routed w.blocks c.requires.known.blocks (record { number = i; context = d }) p q is)
          (sym c.if-not-is_flagged.ensures) c.requires.closed;
    }

pub list_of-list-requires-clause-flagged : goal.list_of-list-requires-clause-flagged
list_of-list-requires-clause-flagged c = sym c.if-not-is_flagged.ensures

pub walk-init : goal.walk-init
walk-init c =
    let g = game_of c.args.game.now in
    let w = c.args.work.now in
    let cell = c.args.cell.now in
    let changes = c.args.changes.now in
    let list = list_at changes.pairs.lists (list_of g changes.flags cell.pos.0 cell.state.0) in
    let first : c.first-next.result ≡ slice_get list 0 = c.first-next.ensures.first ∙ ap (λ (y : ℕ). slice_get (list_at changes.pairs.lists y) 0) c.list_of-list.ensures.is in
    let begins = walk_begins list c.first-next.result first in
    record {
      known = c.first-next.ensures.known;
      step = nothing g w c.requires.long c.requires.high c.requires.right;
      at = begins.1;
      left = subst (λ (ys : List ℕ). AllClosed g w.blocks.contexts.items (found_of g w) (AreLeft g (change_pairs changes) Nothing cell.at.number ys)) (sym begins.0)
          (changes_left g w.blocks.contexts.items changes (found_of g w) c.requires.changes cell.at.number cell.pos.0 cell.state.0
          (λ i d p q is. cell_within g (length c.args.game.now.graph.parts.items) c.requires.routed w.blocks c.requires.known.blocks (record { number = i; context = d }) p q is) c.requires.closed);
    }

pub get-requires : goal.get-requires
get-requires c = subst (λ o. IfSome o (λ edge. edge < length c.args.changes.now.pairs.values)) c.in-Some.is c.walk.invariant.known

pub ask_pair-requires-clause-sole : goal.ask_pair-requires-clause-sole
ask_pair-requires-clause-sole c =
    let g = game_of c.args.game.now in
    let cell = c.args.cell.now in
    let changes = c.args.changes.now in
    let list = list_at changes.pairs.lists (list_of g changes.flags cell.pos.0 cell.state.0) in
    let s = c.requires.changes.soles cell.pos.0 cell.state.0 c.in-Some.edge (sym c.if-not-is_flagged.ensures) c.requires.cell.state
    (walk_in list c.in-Some.edge c.walk.next c.in-Some.is c.walk.invariant.at) in
    let same : s.0 ≡ c.get.result.now = same_Some s.0 c.get.result.now (sym s.1 ∙ c.get.ensures) in
    subst (λ (pair : Pair). IsSoleTo g pair cell.pos.0 cell.state.0) same s.2

pub ask_pair-requires-clause-taken : goal.ask_pair-requires-clause-taken
ask_pair-requires-clause-taken c =
    subst (λ (t : Known). heights_of (game_of c.args.game.now) t c.args.cell.now.at.number c.args.cell.now.pos.0 c.args.cell.now.state.0 ≡ c.args.height)
    (sym c.walk.invariant.step.others.known) c.requires.taken

pub ask_pair-requires-clause-block : goal.ask_pair-requires-clause-block
ask_pair-requires-clause-block c =
    subst (λ (t : Known). IsBlock (game_of c.args.game.now) t.blocks c.args.cell.now.at c.args.block.now) (sym c.walk.invariant.step.others.known) c.requires.block

pub next-next-requires : goal.next-next-requires
next-next-requires c = subst (λ o. IfSome o (λ edge. edge < length c.args.changes.now.pairs.values)) c.in-Some.is c.walk.invariant.known

pub walk-smaller : goal.walk-smaller
walk-smaller c =
    let cell = c.args.cell.now in
    let changes = c.args.changes.now in
    (walk_steps changes.pairs.lists (length changes.pairs.values) (list_of (game_of c.args.game.now) changes.flags cell.pos.0 cell.state.0) c.in-Some.edge c.walk.next c.next-next.result
    c.in-Some.is c.walk.invariant.at c.next-next.ensures.apart c.next-next.ensures.within).fewer

pub walk-preserved : goal.walk-preserved
walk-preserved c =
    let g = game_of c.args.game.now in
    let functions = length c.args.game.now.graph.parts.items in
    let w = c.args.work.now in
    let cell = c.args.cell.now in
    let changes = c.args.changes.now in
    let l = list_of g changes.flags cell.pos.0 cell.state.0 in
    let s = walk_steps changes.pairs.lists (length changes.pairs.values) l c.in-Some.edge c.walk.next c.next-next.result
    c.in-Some.is c.walk.invariant.at c.next-next.ensures.apart c.next-next.ensures.within in
    record {
      known = c.next-next.ensures.known;
      step = two_steps g w c.walk.work c.ask_pair.new.work c.walk.invariant.step c.in_ok-ask_pair.ensures.step;
      at = s.at;
      left = subst (λ (ys : List ℕ). AllClosed g w.blocks.contexts.items (found_of g c.ask_pair.new.work) (AreLeft g (change_pairs changes) Nothing cell.at.number ys)) (sym s.left)
          (asked_left g functions c.requires.routed (alike c.args.game.now) w c.walk.work c.ask_pair.new.work c.requires.known c.walk.invariant.step (change_pairs changes) Nothing cell
          c.requires.cell.at c.in-Some.edge s.back c.get.result.now
          c.get.ensures c.in_ok-ask_pair.ensures
          (subst (λ (ys : List ℕ). AllClosed g w.blocks.contexts.items (found_of g c.walk.work) (AreLeft g (change_pairs changes) Nothing cell.at.number ys)) s.rest c.walk.invariant.left));
    }

pub returns : goal.returns
returns c =
    let g = game_of c.args.game.now in
    let w = c.args.work.now in
    let cell = c.args.cell.now in
    let changes = c.args.changes.now in
    let l = list_of g changes.flags cell.pos.0 cell.state.0 in
    record {
      step = c.walk.invariant.step;
      closed = none_left g w.blocks.contexts.items (change_pairs changes) Nothing (found_of g c.walk.work) cell.at.number
          (subst (λ (o : Option ℕ). AllClosed g w.blocks.contexts.items (found_of g c.walk.work) (AreLeft g (change_pairs changes) Nothing cell.at.number (rest_of (list_at changes.pairs.lists l) o)))
          c.in_default.is c.walk.invariant.left);
    }
