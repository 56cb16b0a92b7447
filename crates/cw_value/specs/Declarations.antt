-- What declarations do: they make arrays, and give names their first values.
-- Public source: ISO/IEC 9899:2011, sections 6.7.6.2 and 6.7.9.
use Rattle.std.specs.Prelude.{ℕ, ◌+◌, ◌-◌, ℤ, pos, negsuc, List, [], ◌∷◌, ◌++◌, take, replicate, min, Bool, true, false, cond, nat_lt, nat_le, Option, Some, None}
use Rattle.cw_syntax.specs.Names.{text}
use Rattle.cw_syntax.specs.Trees.{Tree, Trees, none, more, Declared, Declaration, count}
use Rattle.cw_value.specs.declared.values.Stop.TheVariants.{Form}
use Rattle.cw_value.specs.Stores.{Cell, Plain, Element, array_of, with_array, with_cell}
use Rattle.cw_value.specs.Expressions.{Scope, Memory, Outcome, gives, stops, ◌and◌, Location, Own, OwnArray, Shared, SharedArray, location_of, Target, OwnSpot, SharedSpot, Nothing, stored, from_of, value}

abbrev pub most_elements : ℕ
most_elements = 65536

-- nothing but a changed memory
pub data Done : Type 0 where
  done : Done

abbrev pub array_at : Memory → Location → List Cell
array_at m (OwnArray n) = array_of m.own n
array_at m (SharedArray n) = array_of m.shared n
array_at m _ = []

abbrev pub made_array : Memory → Location → List Cell → Memory
made_array m (OwnArray n) cells = record m { own = with_array m.own n cells }
made_array m (SharedArray n) cells = record m { shared = with_array m.shared n cells }
made_array m _ cells = m

abbrev pub made_plain : Memory → Location → Cell → Memory
made_plain m (Own n) c = record m { own = with_cell m.own (Plain n) c }
made_plain m (Shared n) c = record m { shared = with_cell m.shared (Plain n) c }
made_plain m _ c = m

abbrev pub element_target : Location → ℕ → Target
element_target (OwnArray n) i = OwnSpot (Element n i)
element_target (SharedArray n) i = SharedSpot (Element n i)
element_target _ i = Nothing

-- how many elements an array gets: by its size, or, in empty brackets, by its list
abbrev pub size_if : ℕ → ℤ → Memory → Outcome ℕ
size_if at (pos n) m = cond (nat_le n most_elements) (gives n m) (stops (Form at) m)
size_if at (negsuc n) m = stops (Form at) m

abbrev pub listed : Bool → Trees → ℕ
listed true init = min (count init) most_elements
listed false init = 0

-- the size that stands in the brackets, if any do
abbrev pub size_in : Option (Option Tree) → Option Tree
size_in (Some size) = size
size_in None = None

module _ (s : Scope) where
  abbrev pub sized : Option Tree → Bool → Trees → Memory → Outcome ℕ
  sized None braces init m = gives (listed braces init) m
  sized (Some e) braces init m = value s e m and size_if (from_of e)

  abbrev pub listed_one : Bool → ℕ → Location → ℕ → (Memory → Outcome ℤ) → Memory → Outcome Done
  listed_one true at p i one m = one m and (λ z k. gives done (stored k (element_target p i) z))
  listed_one false at p i one m = stops (Form at) m

  -- the expressions of a braced list are stored one after the other; one past the last element isn't evaluated
  abbrev pub filled : Location → (size i : ℕ) → Trees → Memory → Outcome Done
  filled p size i none m = gives done m
  filled p size i (more e es) m = listed_one (nat_lt i size) (from_of e) p i (value s e) m and (λ d k. filled p size (i + 1) es k)

  -- and the elements past it are 0 then
  abbrev pub with_zeros : Location → (size listed : ℕ) → Memory → Memory
  with_zeros p size n m = made_array m p (take n (array_at m p) ++ replicate (size - n) (Some (pos 0)))

  abbrev pub listed_array : Location → Trees → ℕ → Memory → Outcome Done
  listed_array p init size m =
      filled p size 0 init (made_array m p (replicate size None)) and (λ d k. gives done (with_zeros p size (count init) k))

  -- an array's initialiser without braces isn't evaluated
  abbrev pub with_list : Location → Bool → Trees → ℕ → Memory → Outcome Done
  with_list p true init size m = listed_array p init size m
  with_list p false none size m = gives done (made_array m p (replicate size None))
  with_list p false (more e es) size m = stops (Form (from_of e)) m

  abbrev pub new_array : Location → Option Tree → Bool → Trees → Memory → Outcome Done
  new_array p size braces init m = sized size braces init m and with_list p braces init

  -- A name that is no array takes the value of its initialiser; of a braced list a second expression is past the last element.
  abbrev pub rest_stops : Trees → Memory → Outcome Done
  rest_stops none m = gives done m
  rest_stops (more e es) m = stops (Form (from_of e)) m

  abbrev pub new_plain : Location → Trees → Memory → Outcome Done
  new_plain p none m = gives done (made_plain m p None)
  new_plain p (more e es) m = value s e m and (λ z k. rest_stops es (made_plain k p (Some z)))

  abbrev pub by_location : Location → Declared → Memory → Outcome Done
  by_location (OwnArray n) i m = new_array (OwnArray n) (size_in i.array) i.braces i.init m
  by_location (Own n) i m = new_plain (Own n) i.init m
  by_location _ i m = gives done m

  -- a declaration in a function, as often as it is passed
  abbrev pub declares_all : List Declared → Memory → Outcome Done
  declares_all [] m = gives done m
  declares_all (i ∷ is) m = by_location (location_of s (text s.source i.name)) i m and (λ d k. declares_all is k)

  abbrev pub declares : Declaration → Memory → Outcome Done
  declares d m = declares_all d.items m
