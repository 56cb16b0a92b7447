-- Working definitions: the lists by functions have the contexts that are there.
use Rattle.std.specs.Prelude.{◌≡◌, List, length}
use Rattle.cw_solve.specs.declared.contexts.Context.{Context}
use Rattle.cw_solve.specs.declared.indices.Indices.{Indices}
use Rattle.cw_solve.specs.Indexed.{AreListed}

-- the lists have these contexts, each by its number, and no others
pub record HasListed (s : Indices) (contexts : List Context) : Type 0 where
  pub count : s.count ≡ length contexts
  pub listed : AreListed s contexts
