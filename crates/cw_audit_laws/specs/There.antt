-- A game whose nearest violation can be told, or that has none, has a table.
use Rattle.std.specs.Prelude.{◌⊎◌, ℕ, ◌<◌}
use Rattle.cw_core.specs.Quantities.{limit_of}
use Rattle.cw_core.specs.declared.quantity.Quantity.TheVariants.{AuditMoves}
use Rattle.cw_game.specs.Games.{Game}
use Rattle.cw_audit_table.specs.Conditions.{IsGoodAudit}
use Rattle.cw_audit_table.specs.Runs.{IsHit}
use Rattle.cw_audit_table.specs.Stated.{IsStated}
use Rattle.cw_audit_table.specs.Tables.{Audit}
use Rattle.cw_audit_search.specs.Sound.{IsFair}

-- some run comes to a bad pair, and each by more moves than are told
abbrev pub IsFar : Game → Type 0
IsFar g = ((n : ℕ) × IsHit g n) × ((n : ℕ) → IsHit g n → limit_of AuditMoves < n)

-- However many rows that is, a game has a table that is its own and meets the conditions, unless its nearest violation is further than is told.
abbrev pub TableIsThere : Type 0
TableIsThere = (g : Game) (functions : ℕ) → IsFair g functions → ((t : Audit) × IsGoodAudit g functions t × IsStated g t) ⊎ IsFar g
