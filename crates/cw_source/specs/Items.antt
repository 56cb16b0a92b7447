-- What names an item that a step passes: its kind and its place.
-- Public source: ISO/IEC 9899:2011, 6.8 (statements), 6.8.5 (loops), 6.9.1 (functions).
use Rattle.std.specs.Prelude.{ℕ, List, [], ◌∷◌, ◌++◌}
use Rattle.cw_syntax.specs.Plans.{Stm, Plain, Break, Continue, Return, Open, Close, Call, Group, Label, If, While, Do, For, Plan}
use Rattle.cw_syntax.specs.Frames.{Item, Entry, Todo, Test, After, LoopEnd, End, Path}

pub data ItemKind : Type 0 where
  AtEntry : ItemKind
  AtStatement : ItemKind
  AtTest : ItemKind
  AtStep : ItemKind
  AtLoopEnd : ItemKind
  AtEnd : ItemKind

abbrev pub item_kind : Item → ItemKind
item_kind (Entry f j) = AtEntry
item_kind (Todo s) = AtStatement
item_kind (Test at decided stepped s) = AtTest
item_kind (After at) = AtStep
item_kind LoopEnd = AtLoopEnd
item_kind (End f) = AtEnd

-- where a statement begins; a block isn't passed, and has no place of its own
abbrev pub place_of : Stm → ℕ
place_of (Plain at) = at
place_of (Break at) = at
place_of (Continue at) = at
place_of (Return at) = at
place_of (Open at j d) = at
place_of (Close at j d) = at
place_of (Call at j callee) = at
place_of (Group ss) = 0
place_of (Label at mark j l s) = at
place_of (If at s t) = at
place_of (While at s) = at
place_of (Do at s) = at
place_of (For at init decided stepped s) = at

-- An entry and an end stand at their function, by its number; a test and a step stand where their loop begins.
abbrev pub item_place : Item → ℕ
item_place (Entry f j) = f
item_place (Todo s) = place_of s
item_place (Test at decided stepped s) = at
item_place (After at) = at
item_place LoopEnd = 0
item_place (End f) = f

-- some path of the program passes the item
abbrev pub IsPassed : Plan → Item → Type 0
IsPassed plan i = (before : List Item) × Path plan (before ++ i ∷ [])
