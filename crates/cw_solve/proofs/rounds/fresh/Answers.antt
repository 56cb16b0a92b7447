use Rattle.std.proofs.Common.{◌≡◌, ◌<◌, ◌+◌, ℕ, List, get_or, take, length, replicate, ap, ◌∙◌, arith, refl}
use Rattle.std.specs.Prelude.{slice_index}
use Rattle.std.proofs.lemmas.List.{length_push, take_all}
use Rattle.cw_product.specs.Product.{game_of}
use Rattle.cw_solve.specs.declared.contexts.Context.{Context}
use Rattle.cw_solve.specs.declared.table.Table.{Table}
use Rattle.cw_solve.specs.Contexts.{cells_of}
use Rattle.cw_solve.proofs.Fresh.{is_table, is_at_start, there_in, cells_more, cells_few, values_more}
use Rattle.cw_solve.proofs.rounds.fresh.Goals as goal

pub loop-context-init : goal.loop-context-init
loop-context-init c = record { bases = ap length c.new-bases.ensures.items; begins = λ i lt. absurd (omega (arith, lt)); cells = refl }

pub size-cells-requires-clause-there : goal.size-cells-requires-clause-there
size-cells-requires-clause-there c =
    let g = game_of c.args.game.now in
    let value = ap length c.deref-context-items.ensures.value in
    there_in g (length c.args.game.now.graph.parts.items) c.requires.routed c.args.contexts.items c.requires.contexts c.loop-context.context-index c.context-item.result
    (omega (arith, c.loop-context-test.true, value)) (c.context-item.is ∙ ap (λ (xs : List Context). get_or xs c.loop-context.context-index c.context-item.result) c.deref-context-items.ensures.value)

pub overflow_add-cells : goal.overflow_add-cells
overflow_add-cells c =
    let g = game_of c.args.game.now in
    let few = cells_few g (length c.args.game.now.graph.parts.items) c.requires.routed c.args.contexts.items c.requires.contexts c.loop-context.context-index in
    omega (arith, few, c.loop-context.invariant.cells, c.size-cells.ensures.few)

pub loop-context-preserved : goal.loop-context-preserved
loop-context-preserved c =
    let g = game_of c.args.game.now in
    let contexts = c.args.contexts.items in
    let i = c.loop-context.context-index in
    let value = ap length c.deref-context-items.ensures.value in
    let lt : i < length contexts = omega (arith, c.loop-context-test.true, value) in
    let more = cells_more g (length c.args.game.now.graph.parts.items) c.requires.routed contexts i c.context-item.result lt
    (c.context-item.is ∙ ap (λ (xs : List Context). get_or xs i c.context-item.result) c.deref-context-items.ensures.value) in
    let pushed = c.in_ok-push.ensures.items in
    record {
      bases = ap length pushed ∙ length_push c.loop-context.bases.items c.loop-context.cells ∙ ap (λ (n : ℕ). n + 1) c.loop-context.invariant.bases;
      begins = λ k below. ap (λ (xs : List ℕ). slice_index xs k) pushed
          ∙ values_more (λ n. cells_of g (take n contexts)) c.loop-context.bases.items i c.loop-context.cells c.loop-context.invariant.bases c.loop-context.invariant.begins
          c.loop-context.invariant.cells k below;
      cells = omega (arith, more, c.loop-context.invariant.cells, c.size-cells.ensures.is);
    }

pub returns-clause-table : goal.returns-clause-table
returns-clause-table c =
    let g = game_of c.args.game.now in
    let contexts = c.args.contexts.items in
    let t : Table = record { blocks = record { contexts = c.args.contexts; bases = c.loop-context.bases }; heights = c.in_ok-heights.heights; written = 0 } in
    let value = ap length c.deref-context-items.ensures.value in
    let e : c.loop-context.context-index ≡ length contexts = omega (arith, c.loop-context-test.false, c.loop-context.auto.context-index-end, value) in
    let all : c.loop-context.cells ≡ cells_of g contexts
    = c.loop-context.invariant.cells ∙ ap (λ (n : ℕ). cells_of g (take n contexts)) e ∙ ap (λ (xs : List Context). cells_of g xs) (take_all (length contexts) contexts (omega arith)) in
    is_table g (length c.args.game.now.graph.parts.items) c.requires.routed t c.requires.contexts (c.loop-context.invariant.bases ∙ e)
    (λ i lt. c.loop-context.invariant.begins i (omega (arith, lt, e))) (c.in_ok-heights.ensures.items_if_clones_equal (λ y e. e) ∙ ap (λ (n : ℕ). replicate {A = ℕ} n 0) all) refl

pub returns-clause-start : goal.returns-clause-start
returns-clause-start c =
    let g = game_of c.args.game.now in
    let contexts = c.args.contexts.items in
    let t : Table = record { blocks = record { contexts = c.args.contexts; bases = c.loop-context.bases }; heights = c.in_ok-heights.heights; written = 0 } in
    let value = ap length c.deref-context-items.ensures.value in
    let e : c.loop-context.context-index ≡ length contexts = omega (arith, c.loop-context-test.false, c.loop-context.auto.context-index-end, value) in
    let all : c.loop-context.cells ≡ cells_of g contexts
    = c.loop-context.invariant.cells ∙ ap (λ (n : ℕ). cells_of g (take n contexts)) e ∙ ap (λ (xs : List Context). cells_of g xs) (take_all (length contexts) contexts (omega arith)) in
    is_at_start g (length c.args.game.now.graph.parts.items) c.requires.routed t (c.in_ok-heights.ensures.items_if_clones_equal (λ y e. e) ∙ ap (λ (n : ℕ). replicate {A = ℕ} n 0) all)
