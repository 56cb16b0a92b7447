-- Blocks of indices that follow one another.
use Rattle.std.specs.Prelude.{◌≡◌, ℕ, ◌+◌, ◌<◌, true, false, List, Bool}
use Rattle.cw_links.specs.Flags.{is_flagged}

-- so many blocks have an index or more each; the first index of each is flagged, and no other index of it
pub record AreFirsts (flags : List Bool) (base : ℕ → ℕ) (blocks : ℕ) : Type 0 where
  pub begins : base 0 ≡ 0
  pub ascends : (i : ℕ) → i < blocks → base i < base (i + 1)
  pub first : (i : ℕ) → i < blocks → is_flagged flags (base i) ≡ true
  pub others : (i index : ℕ) → i < blocks → base i < index → index < base (i + 1) → is_flagged flags index ≡ false
