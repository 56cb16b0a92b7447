-- A context of a table, with its number.
use Rattle.std.specs.Prelude.{ℕ}
use Rattle.cw_solve.specs.declared.contexts.Context.{Context}

pub record Tabled : Type 0 where
  pub number : ℕ
  pub context : Context
