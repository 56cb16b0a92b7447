-- Hexadecimal digits of a number, zeros in front too.
use Rattle.std.specs.Prelude.{ℕ, zero, suc, ◌*◌, ◌/◌, ◌%◌, ◌^◌, List, [], ◌∷◌}

-- the lowest digits, so many of them, the highest of them first
unfoldable pub lowest_digits : (count number : ℕ) → List ℕ
lowest_digits zero number = []
lowest_digits (suc count) number = number / 2 ^ (4 * count) % 2 ^ 4 ∷ lowest_digits count number
