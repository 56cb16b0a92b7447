-- Each needed pair has its height, or none, below 2^32.
use Rattle.std.proofs.Common.{ℕ, zero, suc, ◌<◌}
use Rattle.std.specs.Prelude.{slice_index}
use Rattle.cw_product.specs.Product.{Held as HeldGame, game_of}
use Rattle.cw_solve.specs.declared.table.Table.{Table}
use Rattle.cw_solve.specs.Contexts.{context}
use Rattle.cw_solve.specs.Low.{IsLow, HeightsAreLow}
use Rattle.cw_solve.specs.Rounds.{slot, height_by}
use Rattle.cw_solve.specs.Solved.{IsKept}
use Rattle.cw_solve.proofs.Still.{number_of}

low : (k : ℕ) → k < 4294967296 → IsLow (height_by k)
low zero lt = tt
low (suc k) lt = lt

pub kept_low : (h : HeldGame) (t : Table) → IsKept h t → ((k : ℕ) → slice_index t.heights.items k < 4294967296) → HeightsAreLow (game_of h)
kept_low h t kept fits f p q e needed of s =
    let c = context f e in
    let at = number_of t.blocks.contexts.items c (kept.done.all c needed) in
    let k = slice_index t.heights.items (slot (game_of h) t.blocks.contexts.items at.0 f p q) in
    (height_by k, kept.done.heights at.0 c p q (record { at = at.1; of = of; state = s }), low k (fits (slot (game_of h) t.blocks.contexts.items at.0 f p q)))
