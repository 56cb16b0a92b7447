-- What lists keep that grow at their front alone.
use Rattle.std.specs.Prelude.{ℕ, List}
use Rattle.cw_links.specs.Rows.{lists_of, AreLinks}

-- they are links, of which what is before each cell could be told: no cell is taken out, so it isn't kept
pub record AreTrails (first next : List ℕ) : Type 0 where
  pub before : List ℕ
  pub links : AreLinks first next before (lists_of first next)
