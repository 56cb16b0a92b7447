-- A stack by its last.
use Rattle.std.proofs.Common.{◌≡◌, ℕ, ◌<◌, List, [], ◌∷◌, ◌++◌, map, reverse, sym, ap, ◌∙◌, subst}
use Rattle.std.proofs.lemmas.List.{map-append, reverse-append}
use Rattle.cw_certs.specs.declared.moves.Move.{Move}
use Rattle.cw_game.specs.Games.{Game}
use Rattle.cw_audit_search.specs.Searches.{Found}
use Rattle.cw_audit_search.specs.Ways as way
use Rattle.cw_audit_search.specs.Ways.{Ways, weight}
use Rattle.cw_audit_moves.specs.declared.todo.Todo.{Todo}
use Rattle.cw_audit_moves.specs.Writing.{todo_of, stack_of, IsWriting}

pub pushed : (items after : List Todo) (x : Todo) → after ≡ items ++ x ∷ [] → stack_of after ≡ todo_of x ∷ stack_of items
pushed items after x e = ap stack_of e ∙ ap reverse (map-append todo_of items (x ∷ [])) ∙ reverse-append (map todo_of items) (todo_of x ∷ [])

module _ (g : Game) (s : Found) (w : Ways) (n : ℕ) where
  -- what was taken from the stack stood first
  pub popped : (written : List Move) (items rest : List Todo) (next : Todo) → items ≡ rest ++ next ∷ [] → IsWriting g s w n written (stack_of items)
      → IsWriting g s w n written (todo_of next ∷ stack_of rest)
  popped written items rest next e h = subst (IsWriting g s w n written) (pushed rest items next e) h

  pub lighter : (items rest : List Todo) (next : Todo) (left : List way.Todo) → items ≡ rest ++ next ∷ [] → weight s left < weight s (todo_of next ∷ stack_of rest)
      → weight s left < weight s (stack_of items)
  lighter items rest next left e l = subst (λ t. weight s left < weight s t) (sym (pushed rest items next e)) l
