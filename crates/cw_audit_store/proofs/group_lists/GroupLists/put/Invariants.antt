use Rattle.std.proofs.Common.{◌≡◌, ℕ, ◌+◌, ◌-◌, length}
use Rattle.cw_audit_store.specs.Listed.{numbers_of}
use Rattle.cw_audit_store.proofs.group_lists.GroupLists.put.Given as goal

abbrev pub invariant-loop-self : goal.invariant-loop-self
invariant-loop-self l = (q : ℕ) → numbers_of l.self q ≡ numbers_of l.fn.self q

abbrev pub decreases-loop-self : goal.decreases-loop-self
decreases-loop-self l = 1 + l.group-2 - length l.self.lists.items
