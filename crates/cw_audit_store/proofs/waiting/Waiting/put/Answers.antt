use Rattle.std.proofs.Common.{ℕ, List, ◌∷◌, map, subst, heap_items}
use Rattle.std.specs.List.Sorted.{IsPermutation}
use Rattle.std.proofs.lemmas.List.Sorted.{IsPermutation-map}
use Rattle.cw_audit_store.specs.Nearest.{keyed}
use Rattle.cw_audit_store.proofs.waiting.Waiting.put.Goals as goal

pub invariant_of-self-2 : goal.invariant_of-self-2
invariant_of-self-2 c = c.in_ok-push.ensures.heap_order c.self.invariant

pub returns-clause-put : goal.returns-clause-put
returns-clause-put c =
    subst (λ (ws : List (ℕ × ℕ)). IsPermutation ((c.args.key, c.args.number) ∷ ws) (map keyed (heap_items c.push.new.self))) c.self.view_is
    (IsPermutation-map keyed (record { 0 = (c.args.key, c.args.number) } ∷ heap_items c.self.inside.rows) (heap_items c.push.new.self) c.in_ok-push.ensures.permutation)
