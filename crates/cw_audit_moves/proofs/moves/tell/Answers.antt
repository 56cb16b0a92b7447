use Rattle.std.proofs.Common.{length, ◌∷◌, ◌++◌, sym, ap, ◌∙◌, option_map, append-nil}
use Rattle.std.proofs.lemmas.List.{nil_from_length}
use Rattle.cw_product.specs.Product.{game_of}
use Rattle.cw_audit_store.specs.declared.row_key.Hit.{Hit}
use Rattle.cw_audit_store.specs.Finding.{found_of, ways_of, way_of, bad_way_of}
use Rattle.cw_audit_search.specs.Ways.{unfold_way}
use Rattle.cw_audit_moves.specs.declared.todo.Todo.TheVariants.{Reach}
use Rattle.cw_audit_moves.specs.Writing.{stack_of, todo_of}
use Rattle.cw_audit_moves.proofs.Steps.{hit_callee, none_written, all_written}
use Rattle.cw_audit_moves.proofs.Stacks.{pushed, popped, lighter}
use Rattle.cw_audit_moves.proofs.moves.tell.Goals as goal

pub put_way-requires : goal.put_way-requires
put_way-requires c = hit_callee (game_of c.args.game.now) (length c.args.game.now.graph.parts.items) c.args.store.now c.requires.ready c.args.hit c.requires.hit

pub todo-init : goal.todo-init
todo-init c =
    let g = game_of c.args.game.now in
    let h = c.args.hit in
    let way = unfold_way g h.entrance.function h.entrance.state.0 (way_of h.way) in
    none_written g (length c.args.game.now.graph.parts.items) (found_of c.args.store.now) (ways_of c.args.store.now) c.requires.ready h.distance c.new-moves.result.items
    (stack_of c.push.new.self.items) (bad_way_of h) (ap (option_map (λ (h : Hit). h.distance)) c.requires.hit) c.requires.few c.requires.least (ap (option_map bad_way_of) c.requires.hit)
    c.new-moves.ensures.items
    (pushed c.put_way.new.todo.items c.push.new.self.items (Reach h.entrance) c.in_ok-push.ensures.items
    ∙ ap (λ t. todo_of (Reach h.entrance) ∷ t) (c.in_ok-put_way.ensures ∙ ap (λ items. way ++ stack_of items) c.new-todo.ensures.items ∙ append-nil way))

pub todo-smaller : goal.todo-smaller
todo-smaller c =
    let g = game_of c.args.game.now in
    let s = found_of c.args.store.now in
    let w = ways_of c.args.store.now in
    let n = c.args.hit.distance in
    let h = popped g s w n c.todo.moves.items c.todo.todo.items c.pop.new.self.items c.in-Some.next c.in-Some.ensures.items c.todo.invariant in
    lighter g s w n c.todo.todo.items c.pop.new.self.items c.in-Some.next (stack_of c.write.new.todo.items) c.in-Some.ensures.items (c.in_ok-write.ensures n h).less

pub todo-preserved : goal.todo-preserved
todo-preserved c =
    let g = game_of c.args.game.now in
    let s = found_of c.args.store.now in
    let w = ways_of c.args.store.now in
    let n = c.args.hit.distance in
    (c.in_ok-write.ensures n (popped g s w n c.todo.moves.items c.todo.todo.items c.pop.new.self.items c.in-Some.next c.in-Some.ensures.items c.todo.invariant)).writing

pub returns : goal.returns
returns c =
    let none = c.in_default.ensures.cases in
    record {
      run = all_written (game_of c.args.game.now) (length c.args.game.now.graph.parts.items) (found_of c.args.store.now) (ways_of c.args.store.now) c.requires.ready c.args.hit.distance
          c.todo.moves.items (stack_of c.todo.todo.items) (ap stack_of (nil_from_length c.todo.todo.items (sym c.todo.todo.ok.0 ∙ none.0))) c.todo.invariant;
    }
