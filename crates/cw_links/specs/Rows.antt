-- What the vectors of links stand for. A node is a cell, or the head of a list; the nodes stand in one row, each head before the cells of its list.
use Rattle.std.specs.Prelude.{◌≡◌, ℕ, suc, zero, ◌+◌, ◌-◌, ◌<◌, ◌≤◌, min, Bool, true, false, if◌then◌else◌, ◌==◌, nat_lt, ◌⊎◌, List, [], ◌∷◌, ◌++◌, length, map, slice_get, slice_index, Option, None, Some}

-- the cells of each list, how many cells there are, and how many more have their memory already
pub record Linked : Type 0 where
  pub lists : List (List ℕ)
  pub cells : ℕ
  pub spare : ℕ

-- the cells that are read from this one on: each, and what is kept as the next of it, up to the number that says that none follows
abbrev pub spelled : List ℕ → ℕ → ℕ → List ℕ
spelled next zero cell = []
spelled next (suc left) cell = if cell == 4294967295 then [] else cell ∷ spelled next left (slice_index next cell)

-- the lists that are read from their first cells
abbrev pub lists_of : List ℕ → List ℕ → List (List ℕ)
lists_of first next = map (spelled next (length next)) first

-- whether y stands in the row
abbrev pub has : List ℕ → ℕ → Bool
has [] y = false
has (x ∷ xs) y = if x == y then true else has xs y

-- what comes right after y in the row
abbrev pub after : List ℕ → ℕ → Option ℕ
after [] y = None
after (x ∷ xs) y = if x == y then slice_get xs 0 else after xs y

-- each node stands once in the row
abbrev pub Once : List ℕ → Type 0
Once [] = Unit {0}
Once (x ∷ xs) = (has xs x ≡ false) × Once xs

-- the node that is the head of a list
abbrev pub head_of : ℕ → ℕ
head_of list = 4294967296 + list

-- the row of the lists, whose numbers begin with k
abbrev pub row_from : ℕ → List (List ℕ) → List ℕ
row_from k [] = []
row_from k (cells ∷ lists) = head_of k ∷ (cells ++ row_from (suc k) lists)

-- each cell of the lists is below n
abbrev pub Below : ℕ → List (List ℕ) → Type 0
Below n [] = Unit {0}
Below n (cells ∷ lists) = ((y : ℕ) → has cells y ≡ true → y < n) × Below n lists

-- y is one of n cells, or one of m heads
abbrev pub IsNode : ℕ → ℕ → ℕ → Type 0
IsNode n m y = (y < n) ⊎ ((4294967296 ≤ y) × (y < 4294967296 + m))

-- the number that is kept for what follows: the cell, or the largest where nothing or a head does
abbrev pub link_to : Option ℕ → ℕ
link_to None = 4294967295
link_to (Some y) = min y 4294967295

-- the number that is kept behind a node
abbrev pub next_at : List ℕ → List ℕ → ℕ → ℕ
next_at first next y = if nat_lt y 4294967296 then slice_index next y else slice_index first (y - 4294967296)

-- what is kept behind each node, and before each cell, is what the row says
pub record Threads (n m : ℕ) (next before : ℕ → ℕ) (row : List ℕ) : Type 0 where
  pub nexts : (y : ℕ) → IsNode n m y → next y ≡ link_to (after row y)
  pub backs : (p y : ℕ) → after row p ≡ Some y → y < n → before y ≡ p
  pub outs : (y : ℕ) → y < n → has row y ≡ false → before y ≡ 18446744073709551615

-- the vectors are the links of these lists
pub record AreLinks (first next before : List ℕ) (lists : List (List ℕ)) : Type 0 where
  pub heads : length first ≡ length lists
  pub long : length before ≡ length next
  pub few_cells : length next ≤ 4294967295
  pub few_lists : length first ≤ 4294967296
  pub once : Once (row_from 0 lists)
  pub below : Below (length next) lists
  pub threads : Threads (length next) (length first) (next_at first next) (λ y. slice_index before y) (row_from 0 lists)
