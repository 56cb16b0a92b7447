-- Where the lazy table can begin: in a game that was made and solved, whose start has no height.
use Rattle.std.proofs.Common.{◌≡◌, None, length, subst}
use Rattle.cw_certs.specs.Tables.{Table}
use Rattle.cw_game.specs.Conditions.{IsGoodTable}
use Rattle.cw_game.specs.Games.{Game}
use Rattle.cw_game.specs.Necessity.{TriesOnlyLost}
use Rattle.cw_game.specs.Pairs.{all_states}
use Rattle.cw_product.specs.Product.{Held as HeldGame, game_of}
use Rattle.cw_solve.specs.Contexts.{HeightIs, AreTheNeeded}
use Rattle.cw_solve.specs.Low.{HeightsAreLow}
use Rattle.cw_product.specs.Made.{IsMade}
use Rattle.cw_solve.specs.Solved.{Held}
use Rattle.cw_lazy_table.specs.Choices.{IsReady}
use Rattle.cw_lazy_table.specs.Lazy.{IsLazyTable}
use Rattle.cw_lazy_table.specs.Staged.{IsKnown}
use Rattle.cw_lazy_table.proofs.Lawful.{tables_are_good, tables_try_only_lost}
use Rattle.cw_lazy_table.proofs.Made.{known_of, can_begin}

-- its start has no height
abbrev pub StartIsKept : Game → Type 0
StartIsKept g = HeightIs g (g.entry g.main) g.states.start (all_states g) None

pub is_ready : (h : HeldGame) (s : Held) → IsMade h → s.game ≡ h → StartIsKept (game_of h) → AreTheNeeded (game_of s.game) s.contexts → HeightsAreLow (game_of s.game) → IsReady h s
is_ready h s made same kept needed low = record {
  same = same;
  begins = can_begin h made kept;
  needed = subst (λ (x : HeldGame). AreTheNeeded (game_of x) s.contexts) same needed;
  low = subst (λ (x : HeldGame). HeightsAreLow (game_of x)) same low;
}

is_known : (g : Game) → HeightsAreLow g → IsKnown g
is_known g low = known_of g (λ f p q e needed of s. let k = low f p q e needed of s in (k.0, k.1))

pub ready_good : (h : HeldGame) (s : Held) → IsReady h s → (t : Table) → IsLazyTable (game_of h) t → IsGoodTable (game_of h) t
ready_good h s ready t lazy = tables_are_good (game_of h) (length h.graph.parts.items) ready.begins (is_known (game_of h) ready.low) t lazy

pub ready_lost : (h : HeldGame) (s : Held) → IsReady h s → (t : Table) → IsLazyTable (game_of h) t → TriesOnlyLost (game_of h) t
ready_lost h s ready t lazy = tables_try_only_lost (game_of h) (length h.graph.parts.items) ready.begins t lazy
