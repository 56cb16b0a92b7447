-- How each row, each group and the nearest violation were come to, and the moves that this stands for.
use Rattle.std.specs.Prelude.{◌≡◌, ℕ, ◌+◌, ◌*◌, ◌≤◌, List, [], ◌∷◌, ◌++◌, true, cond, Option, Some, None, unwrap_or, slice_get}
use Rattle.cw_core.specs.Quantities.{limit_of}
use Rattle.cw_core.specs.declared.quantity.Quantity.TheVariants.{AuditMoves}
use Rattle.cw_certs.specs.declared.moves.Move.{Move}
use Rattle.cw_certs.specs.declared.moves.Move.TheVariants.{On}
use Rattle.cw_game.specs.declared.spots.Spot.TheVariants.{Call}
use Rattle.cw_game.specs.Games.{Game, Config, leads_in, bad_in}
use Rattle.cw_audit_table.specs.Runs.{skipped, cut, is_step}
use Rattle.cw_audit_table.specs.Conditions.{is_inner}
use Rattle.cw_audit_search.specs.Searches.{Found, is_group, is_row}

-- Where a pair was come to from: it is the entry of its group; by a move from another pair of the group; or from a call at a pair of the group, of this function, which ended in
-- this state.
pub data Way : Type 0 where
  Begun : Way
  Moved : (pos state : ℕ) → Move → Way
  Returned : (pos state function ended : ℕ) → Way

-- the row of a call, in its group; its state is that in which the callee is entered
pub record Caller : Type 0 where
  pub function : ℕ
  pub entered : ℕ
  pub pos : ℕ

pub record BadWay : Type 0 where
  pub function : ℕ
  pub entered : ℕ
  pub way : Way

-- the way of each row, the call of each group, which `main`'s at the start hasn't, and the way of the nearest violation with its group
pub record Ways : Type 0 where
  pub row : (f q p x : ℕ) → Option Way
  pub call : (f q : ℕ) → Option (Option Caller)
  pub hit : Option BadWay

-- The way leads to the pair of p and x, and what it comes from is nearer, so that n is no less than by this way.
abbrev pub IsWay : Game → Found → (f q p x n : ℕ) → Way → Type 0
IsWay g s f q p x n Begun = (p ≡ skipped g (g.entry f)) × (x ≡ q)
IsWay g s f q p x n (Moved p0 x0 by) =
    (a : ℕ) × (s.number f q p0 x0 ≡ Some a) × (cut (a + 1) ≤ n) × (is_inner (slice_get g.spots p0) ≡ true) × (is_step by ≡ true)
    × ((c : Config) × (leads_in g p0 x0 [] (slice_get g.spots p0) by ≡ Some c) × (p ≡ skipped g c.pos) × (x ≡ c.state))
IsWay g s f q p x n (Returned p0 x0 h y) =
    (a : ℕ) × (e : ℕ) × (s.number f q p0 x0 ≡ Some a) × (s.number h x0 (g.exit h) y ≡ Some e) × (cut (a + e + 2) ≤ n)
    × ((j : ℕ) × (k : ℕ) × (slice_get g.spots p0 ≡ Some (Call j h k)) × (p ≡ skipped g k)) × (x ≡ y)

abbrev pub IsCaller : Game → Found → (f q r : ℕ) → Option Caller → Type 0
IsCaller g s f q r None = (f ≡ g.main) × (q ≡ g.states.start)
IsCaller g s f q r (Some c) =
    (r0 : ℕ) × (a : ℕ) × (s.reach c.function c.entered ≡ Some r0) × (s.number c.function c.entered c.pos q ≡ Some a) × (cut (r0 + a + 1) ≤ r)
    × ((j : ℕ) × (k : ℕ) × (slice_get g.spots c.pos ≡ Some (Call j f k)))

-- the way leads to a bad pair of its group, which by it is no further than k moves from the start, cut
pub record IsBadWay (g : Game) (s : Found) (k : ℕ) (h : BadWay) : Type 0 where
  pub reach : ℕ
  pub inside : ℕ
  pub pos : ℕ
  pub state : ℕ
  pub group : s.reach h.function h.entered ≡ Some reach
  pub leads : IsWay g s h.function h.entered pos state inside h.way
  pub bad : bad_in g state (slice_get g.spots pos) ≡ true
  pub sum : cut (reach + inside) ≤ k

pub record AreWays (g : Game) (s : Found) (w : Ways) : Type 0 where
  pub rows : (f q p x a : ℕ) → s.number f q p x ≡ Some a → (way : Way) × (w.row f q p x ≡ Some way) × IsWay g s f q p x a way
  pub calls : (f q r : ℕ) → s.reach f q ≡ Some r → (c : Option Caller) × (w.call f q ≡ Some c) × IsCaller g s f q r c
  pub hit : (k : ℕ) → s.best ≡ Some k → (h : BadWay) × (w.hit ≡ Some h) × IsBadWay g s k h

-- one of them is set, the others are as before
pub record IsWaySet (w w2 : Ways) (f q p x : ℕ) (way : Way) : Type 0 where
  pub row : (f2 q2 p2 x2 : ℕ) → w2.row f2 q2 p2 x2 ≡ cond (is_row f q p x f2 q2 p2 x2) (Some way) (w.row f2 q2 p2 x2)
  pub call : (f2 q2 : ℕ) → w2.call f2 q2 ≡ w.call f2 q2
  pub hit : w2.hit ≡ w.hit

pub record IsCallSet (w w2 : Ways) (f q : ℕ) (c : Option Caller) : Type 0 where
  pub row : (f2 q2 p2 x2 : ℕ) → w2.row f2 q2 p2 x2 ≡ w.row f2 q2 p2 x2
  pub call : (f2 q2 : ℕ) → w2.call f2 q2 ≡ cond (is_group f q f2 q2) (Some c) (w.call f2 q2)
  pub hit : w2.hit ≡ w.hit

pub record IsHitSet (w w2 : Ways) (h : BadWay) : Type 0 where
  pub row : (f2 q2 p2 x2 : ℕ) → w2.row f2 q2 p2 x2 ≡ w.row f2 q2 p2 x2
  pub call : (f2 q2 : ℕ) → w2.call f2 q2 ≡ w.call f2 q2
  pub hit : w2.hit ≡ Some h

-- What is to be written: the moves to a group's entry from the start, those to a row from its group's entry, a move.
pub data Todo : Type 0 where
  Reach : (function entered : ℕ) → Todo
  Row : (function entered pos state : ℕ) → Todo
  Step : Move → Todo

abbrev pub unfold_way : Game → (f q : ℕ) → Way → List Todo
unfold_way g f q Begun = []
unfold_way g f q (Moved p x by) = Row f q p x ∷ Step by ∷ []
unfold_way g f q (Returned p x h y) = Row f q p x ∷ Step On ∷ Row h x (g.exit h) y ∷ Step On ∷ []

abbrev pub unfold_call : (q : ℕ) → Option Caller → List Todo
unfold_call q None = []
unfold_call q (Some c) = Reach c.function c.entered ∷ Row c.function c.entered c.pos q ∷ Step On ∷ []

-- What is to be written stands for these moves, each row and group for what its way or its call stands for.
pub data Unfolds (g : Game) (w : Ways) : List Todo → List Move → Type 0 where
  done : Unfolds g w [] []
  step : (by : Move) (todo : List Todo) (ms : List Move) → Unfolds g w todo ms → Unfolds g w (Step by ∷ todo) (by ∷ ms)
  row : (f q p x : ℕ) (way : Way) (todo : List Todo) (ms : List Move) → w.row f q p x ≡ Some way → Unfolds g w (unfold_way g f q way ++ todo) ms
      → Unfolds g w (Row f q p x ∷ todo) ms
  reach : (f q : ℕ) (c : Option Caller) (todo : List Todo) (ms : List Move) → w.call f q ≡ Some c → Unfolds g w (unfold_call q c ++ todo) ms
      → Unfolds g w (Reach f q ∷ todo) ms

-- the moves to the nearest violation
abbrev pub unfold_hit : Game → BadWay → List Todo
unfold_hit g h = Reach h.function h.entered ∷ unfold_way g h.function h.entered h.way

-- What is left to write: what replaces a row or a group weighs less.
abbrev pub weight_of : Found → Todo → ℕ
weight_of s (Reach f q) = 3 * unwrap_or (s.reach f q) 0 + 1
weight_of s (Row f q p x) = 3 * unwrap_or (s.number f q p x) 0 + 1
weight_of s (Step by) = 1

abbrev pub weight : Found → List Todo → ℕ
weight s [] = 0
weight s (todo ∷ todos) = weight_of s todo + weight s todos

-- each row and group that is to be written is there, with a number that wasn't cut
abbrev pub IsLow : Found → Todo → Type 0
IsLow s (Reach f q) = (r : ℕ) × (s.reach f q ≡ Some r) × (r ≤ limit_of AuditMoves)
IsLow s (Row f q p x) = (a : ℕ) × (s.number f q p x ≡ Some a) × (a ≤ limit_of AuditMoves)
IsLow s (Step by) = Unit {0}

abbrev pub AreLow : Found → List Todo → Type 0
AreLow s [] = Unit {0}
AreLow s (todo ∷ todos) = IsLow s todo × AreLow s todos
