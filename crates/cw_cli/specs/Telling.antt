-- How the lines of a sample are told.
use Rattle.std.specs.Prelude.{ℕ, List, [], ◌∷◌, ◌++◌, codes}
use Rattle.std.specs.Fmt.{decimal}
use Rattle.cw_commands.specs.declared.outcome.Reply.{Reply}
use Rattle.cw_commands.specs.declared.outcome.Reply.TheVariants.{Yes, No}
use Rattle.cw_stages.specs.declared.numbers.Numbers.{Numbers}

-- a line of a name and a number
abbrev pub number_line : (name : List ℕ) → (number : ℕ) → List ℕ
number_line name number = name ++ (codes " " ++ (decimal number ++ (10 ∷ [])))

-- the line that tells the verdict
abbrev pub reply_line : Reply → List ℕ
reply_line Yes = codes "woven" ++ (10 ∷ [])
reply_line No = codes "refuted" ++ (10 ∷ [])

-- the eight lines of a sample
abbrev pub summary : (number : ℕ) → Numbers → Reply → List ℕ
summary number numbers reply =
    number_line (codes "sample") number
    ++ (number_line (codes "points") numbers.points
    ++ (number_line (codes "positions") numbers.positions
    ++ (number_line (codes "states") numbers.states
    ++ (number_line (codes "contexts") numbers.contexts
    ++ (number_line (codes "cells") numbers.cells
    ++ (number_line (codes "rows") numbers.rows
    ++ reply_line reply))))))
