-- The game on pairs of a position and a state: what a position leads to, what a state stands for. Public source: the visibly pushdown
-- games of Löding, Madhusudan and Serre (2004).
use Rattle.std.specs.Prelude.{◌≡◌, ◌⊎◌, ℕ, zero, suc, ◌+◌, ◌<◌, List, [], ◌∷◌, ◌++◌, Bool, true, false, cond, not, ◌&&◌, ◌||◌, Option, Some, None, nat_eq, slice_get, length, Contains}
use Rattle.cw_rights.specs.declared.capabilities.Caps.{Caps}
use Rattle.cw_rights.specs.declared.capabilities.Primitive.{Primitive}
use Rattle.cw_rights.specs.declared.capabilities.Primitive.TheVariants.{Split}
use Rattle.cw_rights.specs.declared.words.Letter.{Letter}
use Rattle.cw_rights.specs.Capabilities.{applied, closed}
use Rattle.cw_rights.specs.Words.{Word}
use Rattle.cw_rights.specs.Policies.{PlainPolicy, IsBad, is_refusable, primitives, start_caps}
use Rattle.cw_certs.specs.declared.moves.Move.{Move}
use Rattle.cw_certs.specs.declared.moves.Move.TheVariants.{Skip, Try, Grant, Refuse, On, Left, Right, Opened, Failed}
use Rattle.cw_model.specs.Boards.{may_grant, with_opened}
use Rattle.cw_game.specs.declared.spots.Spot.{Spot}
use Rattle.cw_game.specs.declared.spots.Spot.TheVariants.{Visit, Asked, Step, Branch, Label, Open, Close, Call, SplitCall, Exit}

-- The states of a policy, by number: how many there are, where a word begins, what a granted primitive, an open, a close and a letter lead to,
-- which letter makes the word bad, what may be granted, and the state after a return: the first state's word with the second one's rights.
pub record States : Type 0 where
  pub count : ℕ
  pub start : ℕ
  pub granted : ℕ → Primitive → ℕ
  pub opened : ℕ → ℕ → ℕ
  pub closed : ℕ → ℕ → ℕ
  pub lettered : ℕ → ℕ → ℕ
  pub bad : ℕ → ℕ → Bool
  pub may_grant : ℕ → Primitive → Bool
  pub with_rights : ℕ → ℕ → ℕ

abbrev pub letter_of : ℕ → Caps → Letter
letter_of label caps = record { label = label; caps = caps }

-- a descriptor that some position opens, one that some position opens in vain or closes, a label that some position has
abbrev pub IsOpenedIn : List Spot → ℕ → Type 0
IsOpenedIn spots d = (p : ℕ) × (j : ℕ) × (n : ℕ) × (slice_get spots p ≡ Some (Open j d n))

abbrev pub IsClosedIn : List Spot → ℕ → Type 0
IsClosedIn spots d = IsOpenedIn spots d ⊎ ((p : ℕ) × (j : ℕ) × (n : ℕ) × (slice_get spots p ≡ Some (Close j d n)))

abbrev pub IsLabelIn : List Spot → ℕ → Type 0
IsLabelIn spots l = (p : ℕ) × (j : ℕ) × (n : ℕ) × (slice_get spots p ≡ Some (Label j l n))

-- The states are a policy's for what stands at these positions, where `Means q word caps` says that state q stands for this word and these
-- capabilities. They follow the opens, closes and labels that the positions have, and no others. Nothing is said of the state after a letter that
-- makes the word bad.
pub record AreStates (policy : PlainPolicy) (spots : List Spot) (states : States) (Means : ℕ → Word → Caps → Type 0) : Type 0 where
  pub begins : Means states.start [] (start_caps policy)
  pub within : (q : ℕ) (w : Word) (c : Caps) → Means q w c → q < states.count
  pub grants : (q : ℕ) (w : Word) (c : Caps) (a : Primitive) → Contains (primitives policy true) a → Means q w c → states.may_grant q a ≡ may_grant c a
  pub granted : (q : ℕ) (w : Word) (c : Caps) (a : Primitive) → Contains (primitives policy true) a → Means q w c → may_grant c a ≡ true → Means (states.granted q a) w (applied c a)
  pub opened : (q : ℕ) (w : Word) (c : Caps) (d : ℕ) → IsOpenedIn spots d → d < length policy.descriptors → Means q w c → Means (states.opened q d) w (with_opened c d (slice_get policy.descriptors d))
  pub closed : (q : ℕ) (w : Word) (c : Caps) (d : ℕ) → IsClosedIn spots d → d < length policy.descriptors → Means q w c → Means (states.closed q d) w (closed c d)
  pub bad : (q : ℕ) (w : Word) (c : Caps) (l : ℕ) → IsLabelIn spots l → Means q w c
      → (states.bad q l ≡ true → IsBad policy (w ++ letter_of l c ∷ [])) × (IsBad policy (w ++ letter_of l c ∷ []) → states.bad q l ≡ true)
  pub lettered : (q : ℕ) (w : Word) (c : Caps) (l : ℕ) → IsLabelIn spots l → Means q w c → (IsBad policy (w ++ letter_of l c ∷ []) → ⊥) → Means (states.lettered q l) (w ++ letter_of l c ∷ []) c
  pub returned : (x q : ℕ) (w v : Word) (c k : Caps) → Means x w c → Means q v k → Means (states.with_rights x q) w k

-- A game: what stands at each position, where each function begins and ends, which function is `main`, and the states.
pub record Game : Type 0 where
  pub spots : List Spot
  pub entry : ℕ → ℕ
  pub exit : ℕ → ℕ
  pub main : ℕ
  pub policy : PlainPolicy
  pub states : States

-- whether a primitive that is tried may be refused
abbrev pub may_refuse_in : Game → ℕ → Primitive → Bool
may_refuse_in g q a = not (g.states.may_grant q a) || is_refusable g.policy a

-- whether the weaver can stop when it is refused: what `can_stop` is of boards
abbrev pub can_stop_in : Game → ℕ → Primitive → Bool
can_stop_in g q a = g.policy.stop && (is_refusable g.policy a && g.states.may_grant q a)

-- whether a refusal is a move of the game: the environment may refuse, and no stop answers it
abbrev pub refuses_in : Game → ℕ → Primitive → Bool
refuses_in g q a = may_refuse_in g q a && not (can_stop_in g q a)

-- the state after a return at x: of a plain call, of a split call that was made at q
abbrev pub returned : States → Option ℕ → ℕ → ℕ
returned states None x = x
returned states (Some q) x = states.with_rights x q

-- A return that waits: its position, and the state at the call where the call was split.
pub record Ret : Type 0 where
  pub back : ℕ
  pub kept : Option ℕ

-- A pair of a position and a state, and the returns that wait below it, the innermost first.
pub record Config : Type 0 where
  pub pos : ℕ
  pub state : ℕ
  pub rets : List Ret

abbrev pub at_pair : ℕ → ℕ → List Ret → Config
at_pair p q rets = record { pos = p; state = q; rets = rets }

abbrev pub past_asked : Game → ℕ → ℕ → Primitive → List Ret → Config
past_asked g p q Split rets = at_pair (p + 2) q rets
past_asked g p q a rets = at_pair (p + 1) (g.states.granted q a) rets

-- Where a move leads from a pair that isn't bad. A refusal that a stop can answer is no move of the game.
abbrev pub leads_in : Game → ℕ → ℕ → List Ret → Option Spot → Move → Option Config
leads_in g p q rets (Some (Visit j i a)) Skip = Some (at_pair (p + 2) q rets)
leads_in g p q rets (Some (Visit j i a)) Try = Some (at_pair (p + 1) q rets)
leads_in g p q rets (Some (Asked j i a)) Grant = cond (g.states.may_grant q a) (Some (past_asked g p q a rets)) None
leads_in g p q rets (Some (Asked j i a)) Refuse = cond (refuses_in g q a) (Some (at_pair (p + 1) q rets)) None
leads_in g p q rets (Some (Step n)) On = Some (at_pair n q rets)
leads_in g p q rets (Some (Branch m n)) Left = Some (at_pair m q rets)
leads_in g p q rets (Some (Branch m n)) Right = Some (at_pair n q rets)
leads_in g p q rets (Some (Label j l n)) On = Some (at_pair n (g.states.lettered q l) rets)
leads_in g p q rets (Some (Open j d n)) Opened = Some (at_pair n (g.states.opened q d) rets)
leads_in g p q rets (Some (Open j d n)) Failed = Some (at_pair n (g.states.closed q d) rets)
leads_in g p q rets (Some (Close j d n)) On = Some (at_pair n (g.states.closed q d) rets)
leads_in g p q rets (Some (Call j f k)) On = Some (at_pair (g.entry f) q (record { back = k; kept = None } ∷ rets))
leads_in g p q rets (Some (SplitCall j f k)) On = Some (at_pair (g.entry f) q (record { back = k; kept = Some q } ∷ rets))
leads_in g p q (r ∷ rets) (Some (Exit f)) On = Some (at_pair r.back (returned g.states r.kept q) rets)
leads_in _ _ _ _ _ _ = None

-- The pair at which going on arrives after a refusal that a stop can answer: the next stage of the visit or its free position, with the same state.
abbrev pub resumed_in : Game → ℕ → ℕ → Option Spot → Option (ℕ × ℕ)
resumed_in g p q (Some (Asked j i a)) = cond (can_stop_in g q a) (Some (p + 1, q)) None
resumed_in g p q _ = None

abbrev pub resumed : Game → ℕ → ℕ → Option (ℕ × ℕ)
resumed g p q = resumed_in g p q (slice_get g.spots p)

-- a label whose letter makes the word bad
abbrev pub bad_in : Game → ℕ → Option Spot → Bool
bad_in g q (Some (Label j l n)) = g.states.bad q l
bad_in g q _ = false

abbrev pub weavers_in : Option Spot → Bool
weavers_in (Some (Visit j i a)) = true
weavers_in _ = false

-- A promise: the states in which a frame may end.
abbrev pub Promise : Type 0
Promise = ℕ → Bool

-- The body of holding, over what holds one move later. At a call the callee has to hold under the promise of those exit states from which the return holds.
abbrev pub holds_in : Game → (ℕ → ℕ → Promise → Bool) → ℕ → ℕ → Promise → Option Spot → Bool
holds_in g h p q e (Some (Visit j i a)) = h (p + 2) q e || h (p + 1) q e
holds_in g h p q e (Some (Asked j i Split)) = (not (g.states.may_grant q Split) || h (p + 2) q e) && (not (refuses_in g q Split) || h (p + 1) q e)
holds_in g h p q e (Some (Asked j i a)) = (not (g.states.may_grant q a) || h (p + 1) (g.states.granted q a) e) && (not (refuses_in g q a) || h (p + 1) q e)
holds_in g h p q e (Some (Step n)) = h n q e
holds_in g h p q e (Some (Branch m n)) = h m q e && h n q e
holds_in g h p q e (Some (Label j l n)) = not (g.states.bad q l) && h n (g.states.lettered q l) e
holds_in g h p q e (Some (Open j d n)) = h n (g.states.opened q d) e && h n (g.states.closed q d) e
holds_in g h p q e (Some (Close j d n)) = h n (g.states.closed q d) e
holds_in g h p q e (Some (Call j f k)) = h (g.entry f) q (λ x. h k x e)
holds_in g h p q e (Some (SplitCall j f k)) = h (g.entry f) q (λ x. h k (g.states.with_rights x q) e)
holds_in g h p q e (Some (Exit f)) = nat_eq f g.main || e q
holds_in g h p q e None = true

-- A pair holds for n moves under a promise.
abbrev pub Holds : Game → ℕ → ℕ → ℕ → Promise → Bool
Holds g zero p q e = true
Holds g (suc n) p q e = holds_in g (Holds g n) p q e (slice_get g.spots p)

-- The pair is lost under the promise: it has a height.
abbrev pub IsLost : Game → ℕ → ℕ → Promise → Type 0
IsLost g p q e = (n : ℕ) × (Holds g n p q e ≡ false)

-- where a move leads from a configuration
abbrev pub leads_to : Game → Config → Move → Option Config
leads_to g c by = leads_in g c.pos c.state c.rets (slice_get g.spots c.pos) by

-- The weaver can't avoid from here that a label makes the word bad, which comes after at most n moves: what `Forced` is of boards.
abbrev pub ForcedAt : Game → ℕ → Config → Type 0
ForcedAt g zero c = bad_in g c.state (slice_get g.spots c.pos) ≡ true
ForcedAt g (suc n) c =
    (bad_in g c.state (slice_get g.spots c.pos) ≡ true)
    ⊎ (((weavers_in (slice_get g.spots c.pos) ≡ true) × ((by : Move) (next : Config) → leads_to g c by ≡ Some next → ForcedAt g n next))
    ⊎ ((weavers_in (slice_get g.spots c.pos) ≡ false) × ((by : Move) × (next : Config) × (leads_to g c by ≡ Some next) × ForcedAt g n next)))
