use Rattle.std.proofs.Common.{◌≡◌, ℕ, ◌++◌, drop, reverse}
use Rattle.cw_links.specs.Lists.{list_at}
use Rattle.cw_links.proofs.nearest.put_all.Given as goal

abbrev pub invariant-loop-index : goal.invariant-loop-index
invariant-loop-index l =
    record {
      here : reverse (drop l.index l.elements) ++ list_at l.later l.key ≡ reverse l.elements ++ list_at l.fn.later l.key;
      others : (k : ℕ) → (k ≡ l.key → ⊥) → list_at l.later k ≡ list_at l.fn.later k;
    }
