-- A search is sound where each of its numbers is that of some run.
use Rattle.std.specs.Prelude.{◌≡◌, ◌⊎◌, ℕ, ◌<◌, ◌≤◌, List, [], true, false, Some, length, slice_get}
use Rattle.cw_certs.specs.declared.moves.Move.{Move}
use Rattle.cw_game.specs.declared.spots.Spot.TheVariants.{Call, Exit}
use Rattle.cw_game.specs.Games.{Game, Config, at_pair, leads_in, bad_in, weavers_in}
use Rattle.cw_audit_table.specs.Runs.{skipped, cut, is_step, Goes, start_at, IsEntered, IsWithin, IsHit}
use Rattle.cw_audit_table.specs.Conditions.{is_free, is_inner}
use Rattle.cw_product.specs.Routed.{IsOf}
use Rattle.cw_audit_search.specs.Searches.{Found}

-- `main`, or a function that some call names
abbrev pub IsFunction : Game → ℕ → Type 0
IsFunction g f = (f ≡ g.main) ⊎ ((p : ℕ) × (j : ℕ) × (k : ℕ) × (slice_get g.spots p ≡ Some (Call j f k)))

-- What is asked of a game: its functions keep to their own positions and end at an exit, which stands nowhere else in them; `main` begins at a pair that isn't bad; its
-- states stay below their number; and where a run from the start comes to rest nothing is tried, asked or split. The game of each program is so.
pub record IsFair (g : Game) (functions : ℕ) : Type 0 where
  pub below : (f : ℕ) → IsFunction g f → f < functions
  pub short : (f : ℕ) → IsFunction g f → g.exit f < length g.spots
  pub begins : (f : ℕ) → IsFunction g f → IsOf g f (skipped g (g.entry f))
  pub start : g.states.start < g.states.count
  pub good : bad_in g g.states.start (slice_get g.spots (skipped g (g.entry g.main))) ≡ false
  pub alone : (f p k : ℕ) → f < functions → IsOf g f p → slice_get g.spots p ≡ Some (Exit k) → p ≡ g.exit f
  pub moves : (f p x : ℕ) (by : Move) (c : Config) → IsFunction g f → IsOf g f p → x < g.states.count → is_inner (slice_get g.spots p) ≡ true
      → bad_in g x (slice_get g.spots p) ≡ false → is_step by ≡ true → leads_in g p x [] (slice_get g.spots p) by ≡ Some c → IsOf g f (skipped g c.pos) × (c.state < g.states.count)
  pub returns : (f p j h k : ℕ) → IsFunction g f → IsOf g f p → slice_get g.spots p ≡ Some (Call j h k) → IsOf g f (skipped g k)
  pub ends : (f : ℕ) → IsFunction g f → (k : ℕ) × (slice_get g.spots (g.exit f) ≡ Some (Exit k))
  pub free : (ms : List Move) (c : Config) → Goes g (start_at g) ms c → weavers_in (slice_get g.spots c.pos) ≡ false → is_free (slice_get g.spots c.pos) ≡ true

-- In the activation of f that is entered in q, a run of n moves leads from the entry to the pair of p and x, whatever stands there.
abbrev pub IsRun : Game → (f q p x n : ℕ) → Type 0
IsRun g f q p x n = (ms : List Move) × (length ms ≡ n) × Goes g (at_pair (g.entry f) q []) ms (at_pair p x [])

-- The row key of a row: a function and a state in which it is entered, a position of that function and a state, and nothing is skipped, tried, asked or split there.
pub record IsRowKey (g : Game) (functions f q p x : ℕ) : Type 0 where
  pub below : f < functions
  pub function : IsFunction g f
  pub entered : q < g.states.count
  pub position : IsOf g f p
  pub state : x < g.states.count
  pub free : is_free (slice_get g.spots p) ≡ true

-- The function is entered in the state by a run of so many moves from the start, cut.
pub record IsArrival (g : Game) (f q r : ℕ) : Type 0 where
  pub function : IsFunction g f
  pub state : q < g.states.count
  pub moves : ℕ
  pub run : IsEntered g f q moves
  pub number : r ≡ cut moves

-- a run of so many moves, cut, hits
abbrev pub IsHitCut : Game → ℕ → Type 0
IsHitCut g k = (n : ℕ) × IsHit g n × (k ≡ cut n)

-- Each number is that of some run, cut. A group with a row has that of its entry, with 0.
pub record IsSound (g : Game) (functions : ℕ) (s : Found) : Type 0 where
  pub main : s.reach g.main g.states.start ≡ Some 0
  pub entered : (f q r : ℕ) → s.reach f q ≡ Some r → IsArrival g f q r
  pub known : (f q p x a : ℕ) → s.number f q p x ≡ Some a → (r : ℕ) × (s.reach f q ≡ Some r)
  pub inside : (f q p x a : ℕ) → s.number f q p x ≡ Some a → (n : ℕ) × IsWithin g f q p x n × (a ≡ cut n)
  pub keyed : (f q p x a : ℕ) → s.number f q p x ≡ Some a → IsRowKey g functions f q p x
  pub begun : (f q p x a : ℕ) → s.number f q p x ≡ Some a → s.number f q (skipped g (g.entry f)) q ≡ Some 0
  pub violated : (k : ℕ) → s.best ≡ Some k → IsHitCut g k

-- What may be set: in the group of f and q a run leads to the pair of p and x by so many moves, cut, with skips behind it that lead to a position of the function. The group
-- was entered, and has the row of its entry, or this is it.
pub record IsProposal (g : Game) (s : Found) (f q p x n : ℕ) : Type 0 where
  pub known : (r : ℕ) × (s.reach f q ≡ Some r)
  pub moves : ℕ
  pub run : IsRun g f q p x moves
  pub number : n ≡ cut moves
  pub position : IsOf g f (skipped g p)
  pub state : x < g.states.count
  pub begun : (s.number f q (skipped g (g.entry f)) q ≡ Some 0) ⊎ ((skipped g p ≡ skipped g (g.entry f)) × (x ≡ q) × (n ≡ 0))

-- the second has all that the first has, by numbers that aren't greater
pub record HasFallen (s s2 : Found) : Type 0 where
  pub reach : (f q r : ℕ) → s.reach f q ≡ Some r → (r2 : ℕ) × (s2.reach f q ≡ Some r2) × (r2 ≤ r)
  pub number : (f q p x a : ℕ) → s.number f q p x ≡ Some a → (b : ℕ) × (s2.number f q p x ≡ Some b) × (b ≤ a)
  pub best : (k : ℕ) → s.best ≡ Some k → (k2 : ℕ) × (s2.best ≡ Some k2) × (k2 ≤ k)
