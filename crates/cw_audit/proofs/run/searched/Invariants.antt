use Rattle.cw_product.specs.Product.{game_of}
use Rattle.cw_audit_visits.specs.Searching.{IsKept, functions_of, left}
use Rattle.cw_audit.proofs.run.searched.Given as goal

abbrev pub invariant-search : goal.invariant-search
invariant-search l = IsKept (game_of l.game) (functions_of l.game) l.search

abbrev pub decreases-search : goal.decreases-search
decreases-search l = left l.search
