-- What holds of lazy tables: they are good, they try only what is lost to skip, and each game has one at most.
use Rattle.std.specs.Prelude.{◌≡◌, ℕ, ◌<◌}
use Rattle.cw_certs.specs.Tables.{Table}
use Rattle.cw_game.specs.Games.{Game, IsLost}
use Rattle.cw_game.specs.Pairs.{has, all_states}
use Rattle.cw_game.specs.Conditions.{IsGoodTable}
use Rattle.cw_game.specs.Necessity.{TriesOnlyLost}
use Rattle.cw_product.specs.Routed.{AreRouted, IsOf}
use Rattle.cw_solve.specs.Contexts.{context, IsNeeded}
use Rattle.cw_lazy_table.specs.Lazy.{IsLazyTable}
use Rattle.cw_lazy_table.specs.Live.{IsLive}
use Rattle.cw_lazy_table.specs.Staged.{AreStaged, IsKnown}

-- A game in which the lazy table can begin: its positions are as those of a program's graph, and its start isn't lost.
pub record CanBegin (g : Game) (functions : ℕ) : Type 0 where
  pub routed : AreRouted g functions
  pub staged : AreStaged g
  pub first : g.states.start < g.states.count
  pub kept : IsLost g (g.entry g.main) g.states.start (has (all_states g)) → ⊥

-- A live pair: a state at a position of a function under a promise that the game needs, not lost under it.
pub record IsKeptPair (g : Game) (p q e : ℕ) : Type 0 where
  pub function : ℕ
  pub state : q < g.states.count
  pub of : IsOf g function p
  pub needed : IsNeeded g (context function e)
  pub kept : IsLost g p q (has e) → ⊥

abbrev pub LiveIsKept : Type 0
LiveIsKept = (g : Game) (functions : ℕ) → CanBegin g functions → (p q e : ℕ) → IsLive g p q e → IsKeptPair g p q e

abbrev pub LazyTablesAreGood : Type 0
LazyTablesAreGood = (g : Game) (functions : ℕ) → CanBegin g functions → IsKnown g → (t : Table) → IsLazyTable g t → IsGoodTable g t

abbrev pub LazyTablesTryOnlyLost : Type 0
LazyTablesTryOnlyLost = (g : Game) (functions : ℕ) → CanBegin g functions → (t : Table) → IsLazyTable g t → TriesOnlyLost g t

-- A game has one lazy table at most; so if one has more than so many rows, each does.
abbrev pub LazyTableIsOne : Type 0
LazyTableIsOne = (g : Game) (s t : Table) → IsLazyTable g s → IsLazyTable g t → s ≡ t
