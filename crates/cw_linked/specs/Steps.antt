-- Working definitions: what a step of the solver changes, and what it leaves to do.
use Rattle.std.specs.Prelude.{◌≡◌, ◌⊎◌, ℕ, suc, ◌<◌, List, [], ◌∷◌, ◌++◌, Bool, true, false, Option, Some, length, slice_get}
use Rattle.cw_certs.specs.declared.moves.Move.{Move}
use Rattle.cw_game.specs.declared.spots.Spot.{Spot}
use Rattle.cw_game.specs.Games.{Game, returned, holds_in, Holds}
use Rattle.cw_game.specs.Pairs.{has, Called, call_in, kept_at}
use Rattle.cw_product.specs.Moves.{next_at}
use Rattle.cw_product.specs.MovesAt.{first_move, second_move}
use Rattle.cw_solve.specs.declared.contexts.Context.{Context}
use Rattle.cw_solve.specs.Contexts.{promise_at, IsSetOf}
use Rattle.cw_solve.specs.Rounds.{IsCell, IsAsked, holds_by}
use Rattle.cw_linked.specs.Founds.{Found, class_of, IsLink, IsFresh, IsStanding, implied, Waits}

-- two triples of a context, a position and a state
abbrev pub IsSame : (i p q j r x : ℕ) → Type 0
IsSame i p q j r x = (i ≡ j) × (p ≡ r) × (q ≡ x)

abbrev pub IsOther : (i p q j r x : ℕ) → Type 0
IsOther i p q j r x = IsSame i p q j r x → ⊥

-- A cell is taken.

-- what is found, with these heights and keys of cells
abbrev pub with_heights : Found → (height asked : ℕ → ℕ → ℕ → ℕ) → Found
with_heights s height asked = record { height = height; asked = asked; to = s.to; wave = s.wave; due = s.due; tied = s.tied }

-- this cell has this height and waits no more, and the others are as before
pub record Takes (g : Game) (contexts : List Context) (s : Found) (height asked : ℕ → ℕ → ℕ → ℕ) (j r x n : ℕ) : Type 0 where
  pub here : height j r x ≡ n
  pub done : asked j r x ≡ 0
  pub heights : (i : ℕ) (c : Context) (p q : ℕ) → IsCell g contexts i c p q → IsOther i p q j r x → height i p q ≡ s.height i p q
  pub askeds : (i : ℕ) (c : Context) (p q : ℕ) → IsCell g contexts i c p q → IsOther i p q j r x → asked i p q ≡ s.asked i p q

abbrev pub IsMoveIn : Option Spot → Move → Type 0
IsMoveIn s by = (first_move s ≡ by) ⊎ (second_move s ≡ Some by)

-- what is left to do then: the pairs of the context from which a move leads there ..
abbrev pub Leads : Game → (p q r x : ℕ) → Type 0
Leads g p q r x = (by : Move) × IsMoveIn (slice_get g.spots p) by × (next_at g p q by ≡ Some (r, x))

abbrev pub WaitsFor : Game → (j r x : ℕ) → ℕ → ℕ → ℕ → Type 0
WaitsFor g j r x i p q = (i ≡ j) × Leads g p q r x

-- .. the calls whose link goes there ..
abbrev pub CallsThere : Game → Found → (j r x : ℕ) → ℕ → ℕ → ℕ → Type 0
CallsThere g s j r x i p q = (call : Called) × (call_in (slice_get g.spots p) ≡ Some call) × IsSame (s.to i p (class_of g call.split q)) (g.entry call.function) q j r x

-- .. and the links that return there, each of which stands but for the states that do
abbrev pub ReturnsThere : Game → List Context → Found → (j r x : ℕ) → ℕ → ℕ → ℕ → Type 0
ReturnsThere g contexts s j r x i p k =
    (call : Called) × (call_in (slice_get g.spots p) ≡ Some call) × (i ≡ j) × (call.back ≡ r) × IsFresh s i p k
    × ((y : ℕ) → y < g.states.count → (returned g.states (kept_at call.split k) y ≡ x → ⊥) → IsStanding g contexts s i p k call y)

-- Keys become lower.

abbrev pub with_keys : Found → (asked due : ℕ → ℕ → ℕ → ℕ) → Found
with_keys s asked due = record { height = s.height; asked = asked; to = s.to; wave = s.wave; due = due; tied = s.tied }

-- what waits waits under no more
pub record Lowers (g : Game) (contexts : List Context) (s : Found) (asked due : ℕ → ℕ → ℕ → ℕ) : Type 0 where
  pub cells : (i : ℕ) (c : Context) (p q : ℕ) → IsCell g contexts i c p q → 0 < s.asked i p q → Waits (asked i p q) (s.asked i p q)
  pub links : (i : ℕ) (c : Context) (p k : ℕ) (call : Called) → IsLink g contexts i c p k call → 0 < s.due i p k → Waits (due i p k) (s.due i p k)

-- the cell waits under this key or a lower one, unless it is taken, and the others as before
pub record AsksCell (g : Game) (contexts : List Context) (s : Found) (asked : ℕ → ℕ → ℕ → ℕ) (j r x key : ℕ) : Type 0 where
  pub here : s.height j r x ≡ 0 → Waits (asked j r x) key
  pub is : ((s.height j r x ≡ 0) × (asked j r x ≡ key)) ⊎ (asked j r x ≡ s.asked j r x)
  pub lower : 0 < s.asked j r x → Waits (asked j r x) (s.asked j r x)
  pub others : (i : ℕ) (c : Context) (p q : ℕ) → IsCell g contexts i c p q → IsOther i p q j r x → asked i p q ≡ s.asked i p q

-- the same of a link
pub record AsksLink (g : Game) (contexts : List Context) (s : Found) (due : ℕ → ℕ → ℕ → ℕ) (j r x key : ℕ) : Type 0 where
  pub here : Waits (due j r x) key
  pub is : (due j r x ≡ key) ⊎ (due j r x ≡ s.due j r x)
  pub lower : 0 < s.due j r x → Waits (due j r x) (s.due j r x)
  pub others : (i : ℕ) (c : Context) (p k : ℕ) (call : Called) → IsLink g contexts i c p k call → IsOther i p k j r x → due i p k ≡ s.due i p k

-- A link is taken.

-- it waits no more, and the others as before
pub record Frees (g : Game) (contexts : List Context) (s : Found) (due : ℕ → ℕ → ℕ → ℕ) (j r x : ℕ) : Type 0 where
  pub done : due j r x ≡ 0
  pub others : (i : ℕ) (c : Context) (p k : ℕ) (call : Called) → IsLink g contexts i c p k call → IsOther i p k j r x → due i p k ≡ s.due i p k

-- This set is what the link's call promises for n moves; the calls of the link that have no height hold for as many, and what the link's call promises
-- for fewer is tabled.
pub record IsReady (g : Game) (contexts : List Context) (s : Found) (j : ℕ) (d : Context) (r x : ℕ) (call : Called) (n set : ℕ) : Type 0 where
  pub promise : IsSetOf g set (promise_at g n call.back (kept_at call.split x) d.promise)
  pub later : (q : ℕ) → q < g.states.count → class_of g call.split q ≡ x → s.height j r q ≡ 0 → Holds g n r q (has d.promise) ≡ true
  pub past : (m : ℕ) → m < n → IsAsked g contexts m r x d.promise

abbrev pub with_links : Found → (to wave : ℕ → ℕ → ℕ → ℕ) → (tied : ℕ → ℕ → ℕ → Bool) → Found
with_links s to wave tied = record { height = s.height; asked = s.asked; to = to; wave = wave; due = s.due; tied = tied }

-- this link goes to this context, with a promise for n moves; the others are as before
pub record Ties (g : Game) (contexts : List Context) (s : Found) (to wave : ℕ → ℕ → ℕ → ℕ) (tied : ℕ → ℕ → ℕ → Bool) (j r x callee n : ℕ) : Type 0 where
  pub here : to j r x ≡ callee
  pub now : wave j r x ≡ n
  pub tied_now : tied j r x ≡ true
  pub tos : (i : ℕ) (c : Context) (p k : ℕ) (call : Called) → IsLink g contexts i c p k call → IsOther i p k j r x → to i p k ≡ s.to i p k
  pub waves : (i : ℕ) (c : Context) (p k : ℕ) (call : Called) → IsLink g contexts i c p k call → IsOther i p k j r x → wave i p k ≡ s.wave i p k
  pub tieds : (i : ℕ) (c : Context) (p k : ℕ) (call : Called) → IsLink g contexts i c p k call → IsOther i p k j r x → tied i p k ≡ s.tied i p k

-- what is left to do then: the calls of this link, and the link
abbrev pub CallsBy : Game → (j r x : ℕ) → ℕ → ℕ → ℕ → Type 0
CallsBy g j r x i p q = (call : Called) × (call_in (slice_get g.spots p) ≡ Some call) × IsSame i p (class_of g call.split q) j r x

abbrev pub IsIt : (j r x : ℕ) → ℕ → ℕ → ℕ → Type 0
IsIt j r x i p k = IsSame i p k j r x

-- What is told of a cell.

-- The number of moves within which the taken heights tell that a pair is lost, 0 where they don't: it says of n + 1 moves what they say of n.
abbrev pub IsBound : Game → (ℕ → ℕ → ℕ → ℕ) → (i p q promise bound : ℕ) → Type 0
IsBound g heights i p q promise bound = (n : ℕ) → holds_by (suc n) bound ≡ holds_in g (implied heights i n) p q (has promise) (slice_get g.spots p)

-- A context is added.

-- of a new context, the last one, no cell has a height and none waits, and each link waits to be tied; what is found of the others is as before
pub record Adds (g : Game) (contexts : List Context) (new : Context) (s t : Found) : Type 0 where
  pub heights : (i : ℕ) (c : Context) (p q : ℕ) → IsCell g contexts i c p q → t.height i p q ≡ s.height i p q
  pub askeds : (i : ℕ) (c : Context) (p q : ℕ) → IsCell g contexts i c p q → t.asked i p q ≡ s.asked i p q
  pub tos : (i : ℕ) (c : Context) (p k : ℕ) (call : Called) → IsLink g contexts i c p k call → t.to i p k ≡ s.to i p k
  pub waves : (i : ℕ) (c : Context) (p k : ℕ) (call : Called) → IsLink g contexts i c p k call → t.wave i p k ≡ s.wave i p k
  pub dues : (i : ℕ) (c : Context) (p k : ℕ) (call : Called) → IsLink g contexts i c p k call → t.due i p k ≡ s.due i p k
  pub new_heights : (p q : ℕ) → IsCell g (contexts ++ new ∷ []) (length contexts) new p q → t.height (length contexts) p q ≡ 0
  pub new_askeds : (p q : ℕ) → IsCell g (contexts ++ new ∷ []) (length contexts) new p q → t.asked (length contexts) p q ≡ 0
  pub tieds : (i : ℕ) (c : Context) (p k : ℕ) (call : Called) → IsLink g contexts i c p k call → t.tied i p k ≡ s.tied i p k
  pub new_tieds : (p k : ℕ) (call : Called) → IsLink g (contexts ++ new ∷ []) (length contexts) new p k call → t.tied (length contexts) p k ≡ false
  pub new_dues : (p k : ℕ) (call : Called) → IsLink g (contexts ++ new ∷ []) (length contexts) new p k call → t.due (length contexts) p k ≡ 1

-- what is left to do then: its cells
abbrev pub IsNew : List Context → ℕ → ℕ → ℕ → Type 0
IsNew contexts i p q = i ≡ length contexts
