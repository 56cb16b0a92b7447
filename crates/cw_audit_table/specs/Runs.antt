-- Runs over the pairs of a game in which the weaver always skips, with the returns that wait. What counts are the program's own moves.
use Rattle.std.specs.Prelude.{◌≡◌, ℕ, zero, suc, ◌+◌, ◌≤◌, List, [], ◌∷◌, ◌++◌, Bool, true, false, cond, Option, Some, None, length, slice_get, min}
use Rattle.cw_certs.specs.declared.moves.Move.{Move}
use Rattle.cw_certs.specs.declared.moves.Move.TheVariants.{Skip, On, Left, Right, Opened, Failed}
use Rattle.cw_game.specs.declared.spots.Spot.TheVariants.{Call}
use Rattle.cw_game.specs.Games.{Game, Config, at_pair, leads_to, bad_in, weavers_in}
use Rattle.cw_game.specs.Linked.{is_bad_at}

-- the moves that are the program's own
abbrev pub is_step : Move → Bool
is_step On = true
is_step Left = true
is_step Right = true
is_step Opened = true
is_step Failed = true
is_step _ = false

-- the position behind all that is skipped from p on
abbrev pub skip_by : ℕ → Game → ℕ → ℕ
skip_by zero g p = p
skip_by (suc n) g p = cond (weavers_in (slice_get g.spots p)) (skip_by n g (p + 2)) p

abbrev pub skipped : Game → ℕ → ℕ
skipped g p = skip_by (length g.spots) g p

-- These moves of the program lead from c to d, with skips between them. No move leads on from a bad pair.
pub data Goes (g : Game) (c : Config) : List Move → Config → Type 0 where
  here : Goes g c [] c
  skips : (ms : List Move) (d e : Config) → Goes g c ms d → leads_to g d Skip ≡ Some e → Goes g c ms e
  goes : (ms : List Move) (d e : Config) (by : Move) → Goes g c ms d → is_bad_at g d ≡ false → is_step by ≡ true → leads_to g d by ≡ Some e → Goes g c (ms ++ by ∷ []) e

abbrev pub start_at : Game → Config
start_at g = at_pair (g.entry g.main) g.states.start []

-- From the start n moves lead to the entry of the function f in the state q: it is `main` at the start, or it is called.
pub data IsEntered (g : Game) : (f q n : ℕ) → Type 0 where
  at_start : IsEntered g g.main g.states.start 0
  by_call : (ms : List Move) (c : Config) (j f k : ℕ) → Goes g (start_at g) ms c → slice_get g.spots c.pos ≡ Some (Call j f k) → IsEntered g f c.state (length ms + 1)

-- From the entry of f in the state q n moves lead to the pair of p and x in the same frame; it is no visit and isn't bad.
-- An exit over no returns has no move, so a run that begins over none ends over none in the frame in which it began.
abbrev pub IsWithin : Game → (f q p x n : ℕ) → Type 0
IsWithin g f q p x n =
    (ms : List Move) × (length ms ≡ n) × Goes g (at_pair (g.entry f) q []) ms (at_pair p x []) × (weavers_in (slice_get g.spots p) ≡ false) × (bad_in g x (slice_get g.spots p) ≡ false)

-- From the start n moves lead to a bad pair.
abbrev pub IsHit : Game → ℕ → Type 0
IsHit g n = (ms : List Move) × (length ms ≡ n) × ((c : Config) × Goes g (start_at g) ms c × (is_bad_at g c ≡ true))

-- Numbers are cut at 65,537: what is greater isn't told apart.
abbrev pub cut : ℕ → ℕ
cut n = min n 65537

-- the least number with the property, cut
abbrev pub IsCutLeast : (ℕ → Type 0) → ℕ → Type 0
IsCutLeast P v = ((n : ℕ) × P n × (v ≡ cut n)) × ((n : ℕ) → P n → v ≤ n)

-- the least number of moves to a bad pair, or none where no run comes to one
abbrev pub IsShortest : Game → Option ℕ → Type 0
IsShortest g None = (n : ℕ) → IsHit g n → ⊥
IsShortest g (Some T) = IsHit g T × ((n : ℕ) → IsHit g n → T ≤ n)
