-- Names by their bytes, and the numbers that stand for them.
use Rattle.std.specs.Prelude.{ℕ, ◌-◌, List, [], ◌∷◌, Option, map, take, drop, position}
use Rattle.std.specs.List.{position_or_len}
use Rattle.std.specs.Str.{bytes_eq}
use Rattle.cw_syntax.specs.declared.program.Name.{Name}

-- the bytes of the source from one place up to another
abbrev pub slice : List ℕ → ℕ → ℕ → List ℕ
slice source from to = take (to - from) (drop from source)

abbrev pub text : List ℕ → Name → List ℕ
text source name = slice source name.from name.to

-- the number of a name in a list of names is its place there, from 0
abbrev pub number_in : List (List ℕ) → List ℕ → Option ℕ
number_in names name = position (bytes_eq name) names

-- and, where a name that isn't there has a number too, that is the list's length
abbrev pub number_or_other : List (List ℕ) → List ℕ → ℕ
number_or_other names name = position_or_len (bytes_eq name) names

-- The names that a policy has: of its descriptors (a variable's name, or a digit), of its labels, and of the functions that it lets run
-- in a process of their own.
pub record Names : Type 0 where
  pub descriptors : List (List ℕ)
  pub labels : List (List ℕ)
  pub splits : List (List ℕ)
