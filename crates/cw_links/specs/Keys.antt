-- Heights and keys of cells and keys of links, by number, and the queue in which they wait.
use Rattle.std.specs.Prelude.{◌≡◌, ℕ, ◌/◌, ◌%◌, ◌<◌, ◌≤◌, ◌||◌, if◌then◌else◌, nat_eq, nat_lt, List, length, slice_index, slice_set, Contains}
use Rattle.cw_core.specs.Quantities.{limit_of}
use Rattle.cw_core.specs.declared.quantity.Quantity.TheVariants.{Cells}
use Rattle.cw_links.specs.Cells.{may_wait}
use Rattle.cw_links.specs.Lists.{list_at}
use Rattle.cw_links.specs.declared.popped.Popped.{Popped}
use Rattle.cw_links.specs.declared.popped.Popped.TheVariants.{Nothing as Empty, Cell as OfCell, Link as OfLink}

-- the height of each cell, the key of each cell and of each link, 0 where it has none, and how many more of each have their memory already
pub record Keyed : Type 0 where
  pub heights : List ℕ
  pub asked : List ℕ
  pub due : List ℕ
  pub spare_cells : ℕ
  pub spare_links : ℕ

-- the key of an element of the queue: the even ones are those of cells, and the odd ones those of links
abbrev pub key_of : (asked due : List ℕ) (element : ℕ) → ℕ
key_of asked due element = if nat_eq (element % 2) 0 then slice_index asked (element / 2) else slice_index due (element / 2)

-- the element is that of a cell or of a link
abbrev pub IsElement : (asked due : List ℕ) (element : ℕ) → Type 0
IsElement asked due element = element / 2 < (if nat_eq (element % 2) 0 then length asked else length due)

-- each element that has a key is under it, and maybe under others too
pub record AreWaiting (asked due : List ℕ) (stacks : List (List ℕ)) : Type 0 where
  pub waits : (element : ℕ) → 0 < key_of asked due element → Contains (list_at stacks (key_of asked due element)) element
  pub known : (key element : ℕ) → Contains (list_at stacks key) element → IsElement asked due element

-- these are few, and the queue has their elements
pub record AreQueued (asked due : List ℕ) (stacks : List (List ℕ)) : Type 0 where
  pub few_cells : length asked ≤ limit_of Cells
  pub few_links : length due ≤ limit_of Cells
  pub waiting : AreWaiting asked due stacks

-- the keys with this one at an index, unless a lower one stands there
abbrev pub lowered : (keys : List ℕ) (index key : ℕ) → List ℕ
lowered keys index key = if nat_eq (slice_index keys index) 0 || nat_lt key (slice_index keys index) then slice_set keys index key else keys

-- the keys with this one at an index, unless the cell has a height or a lower key stands there
abbrev pub asked_with : (heights asked : List ℕ) (index key : ℕ) → List ℕ
asked_with heights asked index key = if may_wait (slice_index heights index) (slice_index asked index) key then slice_set asked index key else asked

-- no key of a cell or a link is below this one, but for those that don't wait
pub record AreFrom (asked due : List ℕ) (key : ℕ) : Type 0 where
  pub cells : (k : ℕ) → 0 < slice_index asked k → key ≤ slice_index asked k
  pub links : (k : ℕ) → 0 < slice_index due k → key ≤ slice_index due k

-- nothing waits
pub record AreEmpty (asked due : List ℕ) : Type 0 where
  pub cells : (k : ℕ) → slice_index asked k ≡ 0
  pub links : (k : ℕ) → slice_index due k ≡ 0

-- the least key is that of this number, which doesn't wait any more
pub record Takes (old new : List ℕ) (number key : ℕ) : Type 0 where
  pub within : number < length old
  pub is : slice_index old number ≡ key
  pub some : 0 < key
  pub taken : new ≡ slice_set old number 0

-- an element was taken under its key, the least one, and the others that have a key are still under it
pub record IsNext (asked due : List ℕ) (stacks : List (List ℕ)) (element key : ℕ) : Type 0 where
  pub some : 0 < key
  pub is : key_of asked due element ≡ key
  pub is_element : IsElement asked due element
  pub from : AreFrom asked due key
  pub others : (e : ℕ) → (e ≡ element → ⊥) → 0 < key_of asked due e → Contains (list_at stacks (key_of asked due e)) e
  pub known : (k e : ℕ) → Contains (list_at stacks k) e → IsElement asked due e

-- what is taken from under the least key; a cell has half that as its height from then on
abbrev pub Pops : (old new : Keyed) → Popped → Type 0
Pops old new Empty = AreEmpty old.asked old.due × (new ≡ old)
Pops old new (OfCell number key) = AreFrom old.asked old.due key × Takes old.asked new.asked number key × (new.due ≡ old.due) × (new.heights ≡ slice_set old.heights number (key / 2))
Pops old new (OfLink number key) = AreFrom old.asked old.due key × Takes old.due new.due number key × (new.asked ≡ old.asked) × (new.heights ≡ old.heights)
