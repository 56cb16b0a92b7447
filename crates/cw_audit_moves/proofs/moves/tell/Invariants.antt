use Rattle.cw_product.specs.Product.{game_of}
use Rattle.cw_audit_store.specs.Finding.{found_of, ways_of}
use Rattle.cw_audit_search.specs.Ways.{weight}
use Rattle.cw_audit_moves.specs.Writing.{stack_of, IsWriting}
use Rattle.cw_audit_moves.proofs.moves.tell.Given as goal

abbrev pub invariant-todo : goal.invariant-todo
invariant-todo l = IsWriting (game_of l.game) (found_of l.store) (ways_of l.store) l.fn.hit.distance l.moves.items (stack_of l.todo.items)

abbrev pub decreases-todo : goal.decreases-todo
decreases-todo l = weight (found_of l.store) (stack_of l.todo.items)
