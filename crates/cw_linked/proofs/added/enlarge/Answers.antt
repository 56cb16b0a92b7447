use Rattle.std.proofs.Common.{length, refl, ap, arith}
use Rattle.cw_product.specs.Product.{game_of}
use Rattle.cw_links.specs.Stores.{Stored}
use Rattle.cw_linked.proofs.Widening.{last_there, few_contexts, few_cells, pushes_then}
use Rattle.cw_linked.proofs.added.enlarge.Goals as goal

pub overflow_cast-lists : goal.overflow_cast-lists
overflow_cast-lists c =
    let few = few_contexts (game_of c.args.game.now) (length c.args.game.now.graph.parts.items) c.requires.routed c.args.work.now.blocks.contexts.items c.args.context.now c.requires.contexts in
    omega (arith, few, c.len.ensures, c.args.work.now.blocks.contexts.ok.0)

pub overflow_add-lists : goal.overflow_add-lists
overflow_add-lists c =
    let few = few_contexts (game_of c.args.game.now) (length c.args.game.now.graph.parts.items) c.requires.routed c.args.work.now.blocks.contexts.items c.args.context.now c.requires.contexts in
    omega (arith, few, c.len.ensures, c.args.work.now.blocks.contexts.ok.0)

pub reach-requires : goal.reach-requires
reach-requires c =
    let few = few_contexts (game_of c.args.game.now) (length c.args.game.now.graph.parts.items) c.requires.routed c.args.work.now.blocks.contexts.items c.args.context.now c.requires.contexts in
    record { few = omega (arith, few, c.len.ensures, c.args.work.now.blocks.contexts.ok.0) }

pub push_indices-requires-clause-there : goal.push_indices-requires-clause-there
push_indices-requires-clause-there c =
    last_there (game_of c.args.game.now) (length c.args.game.now.graph.parts.items) c.requires.routed c.args.work.now.blocks.contexts.items c.args.context.now c.requires.contexts

pub push_indices-requires-clause-few : goal.push_indices-requires-clause-few
push_indices-requires-clause-few c =
    let few = few_cells (game_of c.args.game.now) c.args.work.now c.args.context.now c.requires.kept c.requires.contexts in
    let flags = ap (λ (s : Stored). length s.flags) c.reach.ensures.rest in
    omega (arith, few, c.requires.kept.long.flags, flags)

pub overflow_cast-base : goal.overflow_cast-base
overflow_cast-base c =
    let few = few_cells (game_of c.args.game.now) c.args.work.now c.args.context.now c.requires.kept c.requires.contexts in
    omega (arith, few, c.requires.kept.long.flags, c.indices-base.ensures)

pub returns : goal.returns
returns c =
    let w = c.args.work.now in
    let lists = c.in_ok-reach.ensures.enough in
    pushes_then (game_of c.args.game.now) w _ c.args.context.now c.reach.new.self c.indices-base.result c.reach.ensures.rest c.reach.ensures.more
    (omega (arith, lists, c.len.ensures, w.blocks.contexts.ok.0)) c.in_ok-push_indices.ensures.indices c.in_ok-push_indices.ensures.flagged c.in_ok-push.ensures
    (omega (arith, c.requires.kept.long.flags, c.indices-base.ensures)) refl
