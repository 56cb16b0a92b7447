-- Links by number: where each goes, and the list of those that go there.
use Rattle.std.specs.Prelude.{◌≡◌, ℕ, ◌<◌, ◌≤◌, List, length, slice_index, Contains}
use Rattle.cw_core.specs.Quantities.{limit_of}
use Rattle.cw_core.specs.declared.quantity.Quantity.TheVariants.{Cells}
use Rattle.cw_links.specs.Lists.{Chained, list_at}

-- the number of the list of each link, the links of each list, and how many more links have their memory already
pub record Calling : Type 0 where
  pub to : List ℕ
  pub lists : List (List ℕ)
  pub spare : ℕ

-- so many of the links stand in their lists
pub record AreLinkedBy (to : List ℕ) (chains : Chained ℕ) (lists many : ℕ) : Type 0 where
  pub long : length chains.lists ≡ lists
  pub values : length chains.values ≡ many
  pub there : (k : ℕ) → k < many → Contains (list_at chains.lists (slice_index to k)) k

-- all do, and there are few
pub record AreLinked (to : List ℕ) (chains : Chained ℕ) (lists : ℕ) : Type 0 where
  pub few : length to ≤ limit_of Cells
  pub some : 0 < lists
  pub within : (k : ℕ) → slice_index to k < lists
  pub linked : AreLinkedBy to chains lists (length to)
