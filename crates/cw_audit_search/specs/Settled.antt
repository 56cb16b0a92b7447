-- A search is settled below a bound where nothing that its rows lead to would lower a number.
use Rattle.std.specs.Prelude.{◌≡◌, ℕ, ◌+◌, ◌<◌, ◌≤◌, [], true, false, Option, Some, None, slice_get}
use Rattle.cw_certs.specs.declared.moves.Move.{Move}
use Rattle.cw_game.specs.declared.spots.Spot.TheVariants.{Call}
use Rattle.cw_game.specs.Games.{Game, Config, leads_in, bad_in}
use Rattle.cw_audit_table.specs.Runs.{skipped, cut, is_step}
use Rattle.cw_audit_table.specs.Conditions.{is_inner, is_before}
use Rattle.cw_audit_search.specs.Searches.{Found}

-- In the group of f and q, entered at r, n moves to the pair of p and x, with skips behind them, are noted: the pair behind the skips is bad, and the nearest violation
-- isn't later, or it has a row that isn't greater.
pub record IsCovered (g : Game) (s : Found) (f q r p x n : ℕ) : Type 0 where
  pub bad : bad_in g x (slice_get g.spots (skipped g p)) ≡ true → (k : ℕ) × (s.best ≡ Some k) × (k ≤ cut (r + n))
  pub good : bad_in g x (slice_get g.spots (skipped g p)) ≡ false → (b : ℕ) × (s.number f q (skipped g p) x ≡ Some b) × (b ≤ n)

-- All that the row of p and x leads to is covered, where the group is entered at r and the row has a: within the function by one move more; at a call the callee's group and
-- its entry, and behind the return each exit of the callee's group.
pub record IsClosedAt (g : Game) (s : Found) (f q r p x a : ℕ) : Type 0 where
  pub steps : (by : Move) (c : Config) → is_inner (slice_get g.spots p) ≡ true → is_step by ≡ true → leads_in g p x [] (slice_get g.spots p) by ≡ Some c
      → IsCovered g s f q r c.pos c.state (cut (a + 1))
  pub calls : (j h k : ℕ) → slice_get g.spots p ≡ Some (Call j h k) → (r2 : ℕ) × (s.reach h x ≡ Some r2) × (r2 ≤ cut (r + a + 1)) × IsCovered g s h x r2 (g.entry h) x 0
  pub returns : (j h k y e : ℕ) → slice_get g.spots p ≡ Some (Call j h k) → s.number h x (g.exit h) y ≡ Some e → IsCovered g s f q r k y (cut (a + e + 2))

-- The start is covered, and so is all that a row leads to whose sum, cut, is below the bound. With 65,538 that is each row.
pub record IsSettled (g : Game) (s : Found) (bound : ℕ) : Type 0 where
  pub begins : IsCovered g s g.main g.states.start 0 (g.entry g.main) g.states.start 0
  pub closed : (f q r p x a : ℕ) → s.reach f q ≡ Some r → s.number f q p x ≡ Some a → cut (r + a) < bound → IsClosedAt g s f q r p x a

-- The distance that a settled search stands for: none where there is no violation and all is settled; else it is at most the bound, at most 65,537 and no later than
-- the nearest violation.
abbrev pub IsBound : Found → (bound : ℕ) → Option ℕ → Type 0
IsBound s bound None = (s.best ≡ None) × (65538 ≤ bound)
IsBound s bound (Some d) = (0 < d) × (d ≤ bound) × (d ≤ 65537) × ((k : ℕ) → s.best ≡ Some k → d ≤ k)

-- the rows below a distance
abbrev pub IsRowBelow : Found → Option ℕ → (f q r p x a : ℕ) → Type 0
IsRowBelow s D f q r p x a = (s.reach f q ≡ Some r) × (s.number f q p x ≡ Some a) × (is_before D (r + a) ≡ true)
