-- A list of cells as it is kept: entries of turns, of which those of the present one count.
use Rattle.std.specs.Prelude.{ℕ, ℤ, ◌<◌, ◌≤◌, ◌==◌, if◌then◌else◌, List, ◌++◌, map, take, replicate, Option}
use Rattle.std.specs.List.{All}
use Rattle.cw_cells.specs.declared.cells.Entry.{Entry}

-- what a cell holds: what was written in this turn, and else what all others hold
abbrev pub held : ℕ → Option ℤ → Entry → Option ℤ
held turn rest entry = if entry.turn == turn then entry.cell else rest

-- the cells, of which only the first have entries
abbrev pub shown : ℕ → ℕ → Option ℤ → List Entry → List (Option ℤ)
shown turn size rest entries = take size (map (held turn rest) entries ++ replicate size rest)

-- no entry is of a turn to come
abbrev pub AreUpTo : ℕ → List Entry → Type 0
AreUpTo turn entries = All (λ entry. entry.turn ≤ turn) entries

-- each is of an earlier turn
abbrev pub AreBefore : ℕ → List Entry → Type 0
AreBefore turn entries = All (λ entry. entry.turn < turn) entries
