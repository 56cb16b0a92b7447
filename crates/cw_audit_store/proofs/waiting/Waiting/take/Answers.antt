use Rattle.std.proofs.Common.{ℕ, List, ◌∷◌, map, subst, heap_items}
use Rattle.std.specs.List.Sorted.{IsPermutation}
use Rattle.std.proofs.lemmas.List.Sorted.{IsPermutation-map}
use Rattle.cw_audit_store.specs.Nearest.{keyed}
use Rattle.cw_audit_store.proofs.Nearest.{first_of}
use Rattle.cw_audit_store.proofs.waiting.Waiting.take.Goals as goal

pub returns-clause-taken : goal.returns-clause-taken
returns-clause-taken c =
    subst (λ (ws : List (ℕ × ℕ)). IsPermutation ws (keyed c.in-Some.first ∷ map keyed (heap_items c.pop.new.self))) c.self.view_is
    (IsPermutation-map keyed (heap_items c.self.inside.rows) (c.in-Some.first ∷ heap_items c.pop.new.self) c.in-Some.ensures.permutation)

pub returns-clause-first : goal.returns-clause-first
returns-clause-first c = first_of c.in-Some.first (heap_items c.pop.new.self) (c.in-Some.ensures.below_top c.self.invariant)
