-- Values computed from the definitions, each beside what the standard or a C compiler says of it.
use Rattle.std.proofs.Common.{◌≡◌, ℕ, pos, negsuc, ◌^◌, ◌-◌, [], ◌∷◌, Some, None, refl}
use Rattle.std.specs.Prelude.{codes}
use Rattle.cw_syntax.specs.declared.program.Op.TheVariants.{Name as NameOp, Number, Index as IndexOp, Prefix, Suffix, Binary, Assign}
use Rattle.cw_syntax.specs.Trees.{Tree, Node, none, more}
use Rattle.cw_value.specs.declared.values.Stop.TheVariants.{Form, Unset, Unknown, Overflow, Division, Index}
use Rattle.cw_value.specs.Expressions.{Scope, Memory, gives, stops, value}

-- the names `x` (own, unset), `y` (handed in as 7), `arr` (own, of 5 and an unset element)
abbrev s : Scope
s = record { source = codes "x y arr z"; own = record { plain = codes "x" ∷ []; arrays = codes "arr" ∷ [] }; shared = record { plain = []; arrays = [] }; given = (codes "y", pos 7) ∷ [] }

abbrev m : Memory
m = record { own = record { cells = None ∷ []; arrays = (Some (pos 5) ∷ None ∷ []) ∷ [] }; shared = record { cells = []; arrays = [] }; calls = []; made = [] }

abbrev n : ℕ → ℕ → Tree
n at v = Node (Number v) none at at

abbrev two : ℕ → Tree → Tree → Tree
two o a b = Node (Binary o) (more a (more b none)) 20 30

abbrev minus : Tree → Tree
minus a = Node (Prefix 1) (more a none) 19 30

abbrev x : Tree
x = Node NameOp none 0 1

abbrev y : Tree
y = Node NameOp none 2 3

abbrev z : Tree
z = Node NameOp none 8 9

abbrev arr : Tree
arr = Node NameOp none 4 7

abbrev at : Tree → Tree
at i = Node IndexOp (more arr (more i none)) 4 12

-- -2^63
abbrev least : Tree
least = two 14 (minus (n 20 (2 ^ 63 - 1))) (n 24 1)

-- 1 / 0
by_zero : value s (two 16 (n 20 1) (n 22 0)) m ≡ stops (Division 20) m
by_zero = refl

-- -7 / 2 and -7 % 2, cut towards zero
towards_zero : value s (two 16 (minus (n 20 7)) (n 22 2)) m ≡ gives (negsuc 2) m
towards_zero = refl

rest_of : value s (two 17 (minus (n 20 7)) (n 22 2)) m ≡ gives (negsuc 0) m
rest_of = refl

-- -2^63 / -1 doesn't fit, -2^63 % -1 is 0
least_divided : value s (two 16 least (minus (n 26 1))) m ≡ stops (Overflow 20) m
least_divided = refl

least_rest : value s (two 17 least (minus (n 26 1))) m ≡ gives (pos 0) m
least_rest = refl

-- -7 >> 1, rounded down; 1 << 63 doesn't fit, -1 << 63 does; 5 >> 64
down : value s (two 12 (minus (n 20 7)) (n 22 1)) m ≡ gives (negsuc 3) m
down = refl

too_far : value s (two 11 (n 20 1) (n 22 63)) m ≡ stops (Overflow 20) m
too_far = refl

far : value s (two 11 (minus (n 20 1)) (n 22 63)) m ≡ gives (negsuc (2 ^ 63 - 1)) m
far = refl

no_count : value s (two 12 (n 20 5) (n 22 64)) m ≡ stops (Overflow 20) m
no_count = refl

-- 2^63 - 1 + 1, and 2^63 as it is written
too_large : value s (two 13 (n 20 (2 ^ 63 - 1)) (n 22 1)) m ≡ stops (Overflow 20) m
too_large = refl

written : value s (minus (n 20 (2 ^ 63))) m ≡ stops (Overflow 20) m
written = refl

-- -1 & 255
bits : value s (two 4 (minus (n 20 1)) (n 22 255)) m ≡ gives (pos 255) m
bits = refl

-- 0 && 1 / 0, 1 || 1 / 0
early : value s (two 1 (n 20 0) (two 16 (n 20 1) (n 22 0))) m ≡ gives (pos 0) m
early = refl

early_or : value s (two 0 (n 20 1) (two 16 (n 20 1) (n 22 0))) m ≡ gives (pos 1) m
early_or = refl

-- names
unset : value s x m ≡ stops (Unset 0) m
unset = refl

handed_in : value s y m ≡ gives (pos 7) m
handed_in = refl

unknown : value s z m ≡ stops (Unknown 8) m
unknown = refl

bare : value s arr m ≡ stops (Form 4) m
bare = refl

-- arr[0], arr[1], arr[2]
element : value s (at (n 8 0)) m ≡ gives (pos 5) m
element = refl

unset_element : value s (at (n 8 1)) m ≡ stops (Unset 4) m
unset_element = refl

outside : value s (at (n 8 2)) m ≡ stops (Index 4) m
outside = refl

-- arr[2] = 1 / 0: the index comes first; x += 1 / 0: so does the old value
target_first : value s (Node (Assign 0) (more (at (n 8 2)) (more (two 16 (n 20 1) (n 22 0)) none)) 4 30) m ≡ stops (Index 4) m
target_first = refl

old_first : value s (Node (Assign 1) (more x (more (two 16 (n 20 1) (n 22 0)) none)) 0 30) m ≡ stops (Unset 0) m
old_first = refl

-- arr[0]++: the value before the change, and after it a 6 is stored
counted : value s (Node (Suffix 0) (more (at (n 8 0)) none) 4 12) m
    ≡ gives (pos 5) (record m { own = record { cells = None ∷ []; arrays = (Some (pos 6) ∷ None ∷ []) ∷ [] } })
counted = refl

-- y = 1: y isn't declared
undeclared : value s (Node (Assign 0) (more y (more (n 20 1) none)) 2 21) m ≡ stops (Form 2) m
undeclared = refl
