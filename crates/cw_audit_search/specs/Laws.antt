-- What follows of a search that is settled: the laws of this crate.
use Rattle.std.specs.Prelude.{◌≡◌, ◌⊎◌, ℕ, ◌+◌, ◌<◌, ◌≤◌, List, true, Option, Some, length, slice_get}
use Rattle.std.specs.List.{IsDistinct}
use Rattle.cw_core.specs.Quantities.{limit_of}
use Rattle.cw_core.specs.declared.quantity.Quantity.TheVariants.{AuditMoves}
use Rattle.cw_certs.specs.declared.moves.Move.{Move}
use Rattle.cw_model.specs.Boards.{Problem}
use Rattle.cw_game.specs.declared.spots.Spot.{Spot}
use Rattle.cw_game.specs.Games.{Game, Config}
use Rattle.cw_game.specs.Linked.{is_bad_at}
use Rattle.cw_game.specs.Standing.{IsGameOf}
use Rattle.cw_positions.specs.Closed.{LeadsWithin}
use Rattle.cw_states.specs.Below.{StayBelow}
use Rattle.cw_product.specs.Routes.{IsRoute}
use Rattle.cw_audit_table.specs.Runs.{Goes, start_at, IsHit}
use Rattle.cw_audit_table.specs.Tables.{Audit}
use Rattle.cw_audit_table.specs.Conditions.{is_before, IsGoodAudit, EndAlone}
use Rattle.cw_audit_table.specs.Stated.{IsStated}
use Rattle.cw_audit_search.specs.Searches.{Found}
use Rattle.cw_audit_search.specs.Sound.{IsFair, IsSound}
use Rattle.cw_audit_search.specs.Settled.{IsSettled, IsBound}
use Rattle.cw_audit_search.specs.Counted.{row_count, RowKey, is_row_key}
use Rattle.cw_audit_search.specs.Ways.{BadWay, Ways, AreWays, unfold_hit, Unfolds}
use Rattle.cw_audit_search.specs.Listing.{IsListing}
use Rattle.cw_audit_search.specs.Ordered.{AreInOrder}

-- The game of a program, laid out as its code promises, is fair.
abbrev pub GamesAreFair : Type 0
GamesAreFair = (p : Problem) (g : Game) (functions : ℕ) → IsGameOf p g → ((n : ℕ) (s : Spot) → slice_get g.spots n ≡ Some s → LeadsWithin (length g.spots) functions n s)
    → g.main < functions → ((f : ℕ) → f < functions → IsRoute g f) → StayBelow g.states → IsFair g functions

-- a search that is sound, and settled as far as a distance
pub record IsDone (g : Game) (functions : ℕ) (s : Found) (bound : ℕ) (D : Option ℕ) : Type 0 where
  pub fair : IsFair g functions
  pub sound : IsSound g functions s
  pub far : IsBound s bound D
  pub settled : IsSettled g s bound

-- The table that lists it, where the distance is the nearest violation's and wasn't cut, meets the conditions and is the game's table.
abbrev pub ListingsAreStated : Type 0
ListingsAreStated = (g : Game) (functions : ℕ) (s : Found) (bound : ℕ) (D : Option ℕ) (t : Audit) → IsDone g functions s bound D → IsListing g s D t
    → s.best ≡ D → ((d : ℕ) → D ≡ Some d → d ≤ limit_of AuditMoves) → IsGoodAudit g functions t × IsStated g t

-- a row that is below the distance, or any row where that was cut
abbrev pub IsCounted : Found → Option ℕ → (f q p x : ℕ) → Type 0
IsCounted s D f q p x = (r : ℕ) × (a : ℕ) × (s.reach f q ≡ Some r) × (s.number f q p x ≡ Some a) × ((is_before D (r + a) ≡ true) ⊎ (D ≡ Some 65537))

-- Each table of the game has at least as many rows as the search has that count.
abbrev pub CountedRowsAreStated : Type 0
CountedRowsAreStated = (g : Game) (functions : ℕ) (s : Found) (bound : ℕ) (D : Option ℕ) (row_keys : List RowKey) → IsDone g functions s bound D → IsDistinct is_row_key row_keys
    → ((i : ℕ) (k : RowKey) → slice_get row_keys i ≡ Some k → IsCounted s D k.0 k.1 k.2 k.3) → (t : Audit) → IsStated g t → length row_keys ≤ row_count t

-- Where all is settled each table of the game that is in order has at most as many rows as the search.
abbrev pub StatedRowsAreFound : Type 0
StatedRowsAreFound = (g : Game) (functions : ℕ) (s : Found) (row_keys : List RowKey) → IsFair g functions → IsSound g functions s → IsSettled g s 65538
    → ((f q p x a : ℕ) → s.number f q p x ≡ Some a → (i : ℕ) × (slice_get row_keys i ≡ Some (f, q, p, x))) → (t : Audit) → AreInOrder t.groups → IsStated g t
    → row_count t ≤ length row_keys

-- Where all is settled and the nearest violation was cut some run hits, and each by more than 65,536 moves.
abbrev pub CutHitsAreFar : Type 0
CutHitsAreFar = (g : Game) (functions : ℕ) (s : Found) → IsFair g functions → IsSound g functions s → IsSettled g s 65538 → s.best ≡ Some 65537
    → ((n : ℕ) × IsHit g n) × ((n : ℕ) → IsHit g n → limit_of AuditMoves < n)

-- What the ways stand for is a run to a bad pair, of as many moves as the distance, where no run is shorter.
abbrev pub WaysAreShown : Type 0
WaysAreShown = (g : Game) (functions : ℕ) (s : Found) (w : Ways) (T : ℕ) → IsFair g functions → IsSound g functions s → AreWays g s w → s.best ≡ Some T → T ≤ limit_of AuditMoves
    → ((n : ℕ) → IsHit g n → T ≤ n)
    → (h : BadWay) × (w.hit ≡ Some h) × ((ms : List Move) × Unfolds g w (unfold_hit g h) ms × (length ms ≡ T) × ((c : Config) × Goes g (start_at g) ms c × (is_bad_at g c ≡ true)))

-- A game has one table that meets the conditions, but for its moves.
abbrev pub TablesAreOne : Type 0
TablesAreOne = (g : Game) (functions : ℕ) (t u : Audit) → EndAlone g functions → IsGoodAudit g functions t → IsStated g t → IsGoodAudit g functions u → IsStated g u
    → (t.states ≡ u.states) × (t.distance ≡ u.distance) × (t.groups ≡ u.groups)
