-- Working definitions: what the solver has found at one moment, as functions of a context's number, a position and a state, and what is true of it.
use Rattle.std.specs.Prelude.{◌≡◌, ◌⊎◌, ℕ, ◌+◌, ◌*◌, ◌<◌, ◌≤◌, List, Bool, true, false, Some, slice_get}
use Rattle.cw_game.specs.Games.{Game, returned, Promise, holds_in, Holds}
use Rattle.cw_game.specs.Pairs.{has, Called, call_in, is_call_in, kept_at}
use Rattle.cw_solve.specs.declared.contexts.Context.{Context}
use Rattle.cw_solve.specs.Contexts.{context, IsHeight, promise_at, IsSetOf}
use Rattle.cw_solve.specs.Rounds.{IsCell, IsAsked, holds_by}

-- Of a cell its height, 0 where none is taken yet. Of a link, a call of a context with a class of states, the number of the context to which it goes
-- and the number of moves for which that is promised. Each waits under a key, 0 where it doesn't wait: a cell of height n under 2 * n, a link
-- whose promise shrinks for n moves under 2 * n + 1. A link that isn't tied to a context yet waits under 1.
pub record Found : Type 0 where
  pub height : ℕ → ℕ → ℕ → ℕ
  pub asked : ℕ → ℕ → ℕ → ℕ
  pub to : ℕ → ℕ → ℕ → ℕ
  pub wave : ℕ → ℕ → ℕ → ℕ
  pub due : ℕ → ℕ → ℕ → ℕ
  pub tied : ℕ → ℕ → ℕ → Bool

-- At a plain call all states are alike, at a split call those with the same rights: the state that stands for those like q.
abbrev pub class_of : Game → Bool → ℕ → ℕ
class_of g split q = returned g.states (kept_at split q) 0

-- states that are alike at a call return alike, and a state returns to itself where it is the call's own
pub record AreAlike (g : Game) : Type 0 where
  pub same : (x y q : ℕ) → x < g.states.count → y < g.states.count → q < g.states.count → g.states.with_rights x (g.states.with_rights y q) ≡ g.states.with_rights x q
  pub own : (q : ℕ) → q < g.states.count → g.states.with_rights q q ≡ q

pub record IsLink (g : Game) (contexts : List Context) (i : ℕ) (c : Context) (p k : ℕ) (call : Called) : Type 0 where
  pub cell : IsCell g contexts i c p k
  pub calls : call_in (slice_get g.spots p) ≡ Some call
  pub class : class_of g call.split k ≡ k

-- a link that goes to a context
abbrev pub IsTied : Found → (i p k : ℕ) → Type 0
IsTied s i p k = s.tied i p k ≡ true

-- the pair to which an exit in state x returns
abbrev pub height_back : Game → Found → ℕ → Called → ℕ → ℕ → ℕ
height_back g s i call k x = s.height i call.back (returned g.states (kept_at call.split k) x)

-- the context to which a link goes has this promise
abbrev pub GoesTo : List Context → Found → (i p k : ℕ) → Called → ℕ → Type 0
GoesTo contexts s i p k call set = slice_get contexts (s.to i p k) ≡ Some (context call.function set)

-- a link's promise shrinks for n moves: a state of it returns to a pair of this height
abbrev pub IsShrinking : Game → List Context → Found → (i p k : ℕ) → Called → ℕ → Type 0
IsShrinking g contexts s i p k call n =
    (set : ℕ) × (x : ℕ) × GoesTo contexts s i p k call set × (x < g.states.count) × (has set x ≡ true) × (height_back g s i call k x ≡ n)

-- What is taken is right, what waits isn't too low, and what a link promises is what the call promises for its number of moves.
pub record AreRight (g : Game) (contexts : List Context) (s : Found) : Type 0 where
  pub taken : (i : ℕ) (c : Context) (p q : ℕ) → IsCell g contexts i c p q → 0 < s.height i p q → IsHeight g p q c.promise (s.height i p q)
  pub lost : (i : ℕ) (c : Context) (p q : ℕ) → IsCell g contexts i c p q → 0 < s.asked i p q
      → (s.height i p q ≡ 0) × ((n : ℕ) × (s.asked i p q ≡ 2 * n) × (Holds g n p q (has c.promise) ≡ false))
  pub linked : (i : ℕ) (c : Context) (p k : ℕ) (call : Called) → IsLink g contexts i c p k call → IsTied s i p k
      → (set : ℕ) × GoesTo contexts s i p k call set × IsSetOf g set (promise_at g (s.wave i p k) call.back (kept_at call.split k) c.promise)
  pub later : (i : ℕ) (c : Context) (p q : ℕ) (call : Called) → IsCell g contexts i c p q → call_in (slice_get g.spots p) ≡ Some call → IsTied s i p (class_of g call.split q)
      → s.height i p q ≡ 0 → Holds g (s.wave i p (class_of g call.split q)) p q (has c.promise) ≡ true
  pub past : (i : ℕ) (c : Context) (p k : ℕ) (call : Called) → IsLink g contexts i c p k call → IsTied s i p k → (n : ℕ) → n ≤ s.wave i p k → IsAsked g contexts n p k c.promise
  pub due : (i : ℕ) (c : Context) (p k : ℕ) (call : Called) → IsLink g contexts i c p k call → 0 < s.due i p k
      → (n : ℕ) × (s.due i p k ≡ 2 * n + 1) × (0 < n → IsShrinking g contexts s i p k call n)

-- what heights tell of a context's pairs for n moves
abbrev pub implied : (ℕ → ℕ → ℕ → ℕ) → (i n : ℕ) → ℕ → ℕ → Promise → Bool
implied heights i n = λ p q e. holds_by n (heights i p q)

abbrev pub tells : Found → (i n : ℕ) → ℕ → ℕ → Promise → Bool
tells s i n = implied s.height i n

-- it waits, under no more than this key
abbrev pub Waits : (key most : ℕ) → Type 0
Waits key most = (0 < key) × (key ≤ most)

-- Nothing that is known is missing among what waits. Of a cell that is no call: where the taken heights tell that it is lost, it waits.
abbrev pub IsClosed : Game → Found → (i : ℕ) → Context → (p q : ℕ) → Type 0
IsClosed g s i c p q =
    s.height i p q ≡ 0 → is_call_in (slice_get g.spots p) ≡ false → (n : ℕ) → holds_in g (tells s i n) p q (has c.promise) (slice_get g.spots p) ≡ false
    → Waits (s.asked i p q) (2 * n + 2)

-- Of a call: where the called function is lost under the link's promise, it waits.
abbrev pub IsCalled : Game → Found → (i p q : ℕ) → Type 0
IsCalled g s i p q =
    (call : Called) → call_in (slice_get g.spots p) ≡ Some call → IsTied s i p (class_of g call.split q) → s.height i p q ≡ 0
    → (n : ℕ) → s.wave i p (class_of g call.split q) ≤ n → 0 < s.height (s.to i p (class_of g call.split q)) (g.entry call.function) q
    → s.height (s.to i p (class_of g call.split q)) (g.entry call.function) q ≤ n → Waits (s.asked i p q) (2 * n + 2)

-- Of a link: where a state of its promise returns to a pair that is taken, it waits.
abbrev pub IsStanding : Game → List Context → Found → (i p k : ℕ) → Called → (x : ℕ) → Type 0
IsStanding g contexts s i p k call x =
    IsTied s i p k → (set : ℕ) → GoesTo contexts s i p k call set → has set x ≡ true → 0 < height_back g s i call k x → Waits (s.due i p k) (2 * height_back g s i call k x + 1)

-- a link that isn't tied waits under 1
abbrev pub IsFresh : Found → (i p k : ℕ) → Type 0
IsFresh s i p k = s.tied i p k ≡ false → Waits (s.due i p k) 1

-- each but those that are left to do
abbrev pub AllClosed : Game → List Context → Found → (Rest : ℕ → ℕ → ℕ → Type 0) → Type 0
AllClosed g contexts s Rest = (i : ℕ) (c : Context) (p q : ℕ) → IsCell g contexts i c p q → IsClosed g s i c p q ⊎ Rest i p q

abbrev pub AllCalled : Game → List Context → Found → (Rest : ℕ → ℕ → ℕ → Type 0) → Type 0
AllCalled g contexts s Rest = (i : ℕ) (c : Context) (p q : ℕ) → IsCell g contexts i c p q → IsCalled g s i p q ⊎ Rest i p q

abbrev pub AllStanding : Game → List Context → Found → (Rest : ℕ → ℕ → ℕ → Type 0) → Type 0
AllStanding g contexts s Rest =
    (i : ℕ) (c : Context) (p k : ℕ) (call : Called) → IsLink g contexts i c p k call
    → (IsFresh s i p k × ((x : ℕ) → x < g.states.count → IsStanding g contexts s i p k call x)) ⊎ Rest i p k

abbrev pub Nothing : ℕ → ℕ → ℕ → Type 0
Nothing i p q = ⊥

pub record AreFound (g : Game) (contexts : List Context) (s : Found) : Type 0 where
  pub right : AreRight g contexts s
  pub closed : AllClosed g contexts s Nothing
  pub called : AllCalled g contexts s Nothing
  pub standing : AllStanding g contexts s Nothing

-- no cell and no link waits under a key below this one
pub record AreAbove (g : Game) (contexts : List Context) (s : Found) (key : ℕ) : Type 0 where
  pub cells : (i : ℕ) (c : Context) (p q : ℕ) → IsCell g contexts i c p q → 0 < s.asked i p q → key ≤ s.asked i p q
  pub links : (i : ℕ) (c : Context) (p k : ℕ) (call : Called) → IsLink g contexts i c p k call → 0 < s.due i p k → key ≤ s.due i p k

-- each link is tied
abbrev pub AreTied : Game → List Context → Found → Type 0
AreTied g contexts s = (i : ℕ) (c : Context) (p k : ℕ) (call : Called) → IsLink g contexts i c p k call → IsTied s i p k
