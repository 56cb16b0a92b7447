-- Where the items of a frame stand among the positions. The relations go by the tree, and say nothing of how positions are counted.
use Rattle.std.specs.Prelude.{◌≡◌, ◌⊎◌, ℕ, ◌+◌, ◌<◌, suc, length, List, [], ◌∷◌, Bool, true, false, Option, Some, None, slice_get}
use Rattle.cw_rights.specs.declared.capabilities.Primitive.{Primitive}
use Rattle.cw_rights.specs.declared.capabilities.Primitive.TheVariants.{Split}
use Rattle.cw_rights.specs.Policies.{PlainPolicy, primitives}
use Rattle.cw_syntax.specs.Plans.{Callee, Stm, Plain, Break, Continue, Return, Open, Close, Call, Group, Label, If, While, Do, For, Stms, end, then, Routine, Plan}
use Rattle.cw_syntax.specs.Frames.{Entry, Todo, Test, After, LoopEnd, End, Frame, new_frame}
use Rattle.cw_game.specs.declared.spots.Spot.{Spot}
use Rattle.cw_game.specs.declared.spots.Spot.TheVariants.{Visit, Asked, Step, Branch, Exit, Label as LabelSpot, Open as OpenSpot, Close as CloseSpot, Call as CallSpot, SplitCall}
use Rattle.cw_game.specs.Games.{Game}

-- a split is the last of its primitives
abbrev pub IsLast : Primitive → List Primitive → Type 0
IsLast Split later = later ≡ []
IsLast a later = Unit {0}

-- the positions of a visit from this stage on, from p to the free position z
abbrev pub Visits : List Spot → ℕ → ℕ → List Primitive → ℕ → ℕ → Type 0
Visits g j i [] p z = p ≡ z
Visits g j i (a ∷ later) p z = (slice_get g p ≡ Some (Visit j i a)) × (slice_get g (p + 1) ≡ Some (Asked j i a)) × IsLast a later × Visits g j (suc i) later (p + 2) z

-- the test of a loop stands at t: to the body at m, or to what follows at k
abbrev pub TestAt : List Spot → Bool → ℕ → ℕ → ℕ → Type 0
TestAt g true t m k = slice_get g t ≡ Some (Branch m k)
TestAt g false t m k = slice_get g t ≡ Some (Step m)

-- where the end of a loop's body goes: to its step at a, which goes to the test, or to the test itself
abbrev pub StepAt : List Spot → Bool → ℕ → ℕ → Type 0
StepAt g true a t = slice_get g a ≡ Some (Step t)
StepAt g false a t = a ≡ t

-- where a loop begins: at its init at p, which goes to the test, or at the test itself
abbrev pub InitAt : List Spot → Option ℕ → ℕ → ℕ → Type 0
InitAt g (Some place) p t = slice_get g p ≡ Some (Step t)
InitAt g None p t = p ≡ t

-- A call's free position is z, in both modes.
abbrev pub CallsAt : List Spot → ℕ → Callee → ℕ → ℕ → Type 0
CallsAt g j callee z k = (slice_get g z ≡ Some (CallSpot j callee.number k)) × (callee.split ≡ true → slice_get g (z + 1) ≡ Some (SplitCall j callee.number k))

-- The statement stands at p and what follows it at k; the function's exit is at x, a `break` leads to b and a `continue` to c, where a loop is around it.
-- What is opened or closed is a descriptor of the policy.
abbrev mutual
  pub Situated : List Spot → PlainPolicy → ℕ → Option ℕ → Option ℕ → Stm → ℕ → ℕ → Type 0
  Situated g pol x b c (Plain at) p k = slice_get g p ≡ Some (Step k)
  Situated g pol x b c (Break at) p k = (n : ℕ) × (b ≡ Some n) × (slice_get g p ≡ Some (Step n))
  Situated g pol x b c (Continue at) p k = (n : ℕ) × (c ≡ Some n) × (slice_get g p ≡ Some (Step n))
  Situated g pol x b c (Return at) p k = slice_get g p ≡ Some (Step x)
  Situated g pol x b c (Open at j d) p k = (d < length pol.descriptors) × (slice_get g p ≡ Some (OpenSpot j d k))
  Situated g pol x b c (Close at j d) p k = (d < length pol.descriptors) × (slice_get g p ≡ Some (CloseSpot j d k))
  Situated g pol x b c (Call at j callee) p k = (z : ℕ) × Visits g j 0 (primitives pol callee.split) p z × CallsAt g j callee z k
  Situated g pol x b c (Group ss) p k = SituatedAll g pol x b c ss p k
  Situated g pol x b c (Label at mark j l s) p k = (z : ℕ) × Visits g j 0 (primitives pol false) p z × ((m : ℕ) × (slice_get g z ≡ Some (LabelSpot j l m)) × Situated g pol x b c s m k)
  Situated g pol x b c (If at s t) p k = (m : ℕ) × (n : ℕ) × (slice_get g p ≡ Some (Branch m n)) × Situated g pol x b c s m k × Situated g pol x b c t n k
  Situated g pol x b c (While at s) p k = (m : ℕ) × (slice_get g p ≡ Some (Branch m k)) × Situated g pol x (Some k) (Some p) s m p
  Situated g pol x b c (Do at s) p k = (t : ℕ) × (slice_get g t ≡ Some (Branch p k)) × Situated g pol x (Some k) (Some t) s p t
  Situated g pol x b c (For at init decided stepped s) p k = (t : ℕ) × (m : ℕ) × (a : ℕ) × InitAt g init p t × TestAt g decided t m k × StepAt g stepped a t × Situated g pol x (Some k) (Some a) s m a

  pub SituatedAll : List Spot → PlainPolicy → ℕ → Option ℕ → Option ℕ → Stms → ℕ → ℕ → Type 0
  SituatedAll g pol x b c end p k = p ≡ k
  SituatedAll g pol x b c (then s ss) p k = (m : ℕ) × Situated g pol x b c s p m × SituatedAll g pol x b c ss m k

-- The first of these items stands at p. Behind a test its loop's `continue` leads nowhere any more, and behind a loop end its loop's `break`.
abbrev pub AtIn : List Spot → PlainPolicy → ℕ → Option ℕ → Option ℕ → Frame → ℕ → Type 0
AtIn g pol x b c [] p = ⊥
AtIn g pol x b c (Entry f j ∷ is) p = (z : ℕ) × Visits g j 0 (primitives pol false) p z × ((m : ℕ) × (slice_get g z ≡ Some (Step m)) × AtIn g pol x b c is m)
AtIn g pol x b c (Todo s ∷ is) p = (k : ℕ) × Situated g pol x b c s p k × AtIn g pol x b c is k
AtIn g pol x b c (Test at decided stepped s ∷ is) p =
    (c ≡ Some p) × ((m : ℕ) × (a : ℕ) × (k : ℕ) × TestAt g decided p m k × StepAt g stepped a p × Situated g pol x (Some k) (Some a) s m a × (b ≡ Some k) × AtIn g pol x b None is k)
AtIn g pol x b c (After at ∷ is) p = (c ≡ Some p) × ((t : ℕ) × (slice_get g p ≡ Some (Step t)) × AtIn g pol x b (Some t) is t)
AtIn g pol x b c (LoopEnd ∷ is) p = (b ≡ Some p) × (c ≡ None) × ((b' : Option ℕ) × (c' : Option ℕ) × AtIn g pol x b' c' is p)
AtIn g pol x b c (End f ∷ is) p = (b ≡ None) × (c ≡ None) × (p ≡ x) × (slice_get g x ≡ Some (Exit f)) × (is ≡ [])

abbrev pub At : List Spot → PlainPolicy → ℕ → Frame → ℕ → Type 0
At g pol x frame p = (b : Option ℕ) × (c : Option ℕ) × AtIn g pol x b c frame p

-- Each function of the plan stands where the game says that it begins, and ends where it says.
pub record IsLaidOut (plan : Plan) (g : Game) : Type 0 where
  pub main : plan.main ≡ g.main
  pub functions : (f : ℕ) (r : Routine) → slice_get plan.routines f ≡ Some r → At g.spots g.policy (g.exit f) (new_frame f r) (g.entry f)

-- The plan has `main`, and each function that some position calls.
pub record HasRoutines (plan : Plan) (g : Game) : Type 0 where
  pub main : (r : Routine) × (slice_get plan.routines g.main ≡ Some r)
  pub called : (p j f n : ℕ) → (slice_get g.spots p ≡ Some (CallSpot j f n)) ⊎ (slice_get g.spots p ≡ Some (SplitCall j f n)) → (r : Routine) × (slice_get plan.routines f ≡ Some r)
