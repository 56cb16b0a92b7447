-- Where the items of a frame stand among the points. The relations go by the tree, and say nothing of how points are counted. `ns` are the
-- points' nodes, `its` their items, both by number; `f` is the function, whose exit is at x.
use Rattle.std.specs.Prelude.{◌≡◌, ℕ, List, [], ◌∷◌, Bool, true, false, Option, Some, None, slice_get}
use Rattle.cw_syntax.specs.Plans.{Stm, Plain, Break, Continue, Return, Open, Close, Call, Group, Label, If, While, Do, For, Stms, end, then, Routine}
use Rattle.cw_syntax.specs.Frames.{Item, Entry, Todo, Test, After, LoopEnd, End, Frame}
use Rattle.cw_points.specs.declared.graph.Point.TheVariants as point
use Rattle.cw_points.specs.declared.graph.Node.{Node}
use Rattle.cw_points.specs.declared.graph.Part.{Part}
use Rattle.cw_points.specs.Graphs.{node, step, branch, test_node}

-- the point p has this node and this item
abbrev pub Here : List Node → List Item → ℕ → Node → Item → Type 0
Here ns its p n i = (slice_get ns p ≡ Some n) × (slice_get its p ≡ Some i)

-- where the end of a loop's body goes: to its step at a, which goes to the test at t, or to the test itself
abbrev pub StepAt : List Node → List Item → ℕ → ℕ → Bool → ℕ → ℕ → Type 0
StepAt ns its f at true a t = Here ns its a (step f (Some t)) (After at)
StepAt ns its f at false a t = a ≡ t

-- where a loop begins: at its init at p, which goes to the test at t, or at the test itself
abbrev pub InitAt : List Node → List Item → ℕ → Option ℕ → ℕ → ℕ → Type 0
InitAt ns its f (Some place) p t = Here ns its p (step f (Some t)) (Todo (Plain place))
InitAt ns its f None p t = p ≡ t

-- The statement stands at p and what follows it at k; a `break` leads to b and a `continue` to c, each of them nowhere where no loop is around it.
abbrev mutual
  pub Situated : List Node → List Item → ℕ → ℕ → Option ℕ → Option ℕ → Stm → ℕ → ℕ → Type 0
  Situated ns its f x b c (Plain at) p k = Here ns its p (step f (Some k)) (Todo (Plain at))
  Situated ns its f x b c (Break at) p k = Here ns its p (step f b) (Todo (Break at))
  Situated ns its f x b c (Continue at) p k = Here ns its p (step f c) (Todo (Continue at))
  Situated ns its f x b c (Return at) p k = Here ns its p (step f (Some x)) (Todo (Return at))
  Situated ns its f x b c (Open at j d) p k = Here ns its p (node (point.Open d) f (Some k) (Some j)) (Todo (Open at j d))
  Situated ns its f x b c (Close at j d) p k = Here ns its p (node (point.Close d) f (Some k) (Some j)) (Todo (Close at j d))
  Situated ns its f x b c (Call at j callee) p k = Here ns its p (node (point.Call callee.number) f (Some k) (Some j)) (Todo (Call at j callee))
  Situated ns its f x b c (Group ss) p k = SituatedAll ns its f x b c ss p k
  Situated ns its f x b c (Label at mark j l s) p k = (m : ℕ) × Here ns its p (node (point.Label l) f (Some m) (Some j)) (Todo (Label at mark j l s)) × Situated ns its f x b c s m k
  Situated ns its f x b c (If at s t) p k = (m : ℕ) × (n : ℕ) × Here ns its p (branch f m n) (Todo (If at s t)) × Situated ns its f x b c s m k × Situated ns its f x b c t n k
  Situated ns its f x b c (While at s) p k = (m : ℕ) × Here ns its p (branch f m k) (Test at true false s) × Situated ns its f x (Some k) (Some p) s m p
  Situated ns its f x b c (Do at s) p k = (t : ℕ) × Here ns its t (branch f p k) (Test at true false s) × Situated ns its f x (Some k) (Some t) s p t
  Situated ns its f x b c (For at init decided stepped s) p k =
      (t : ℕ) × (m : ℕ) × (a : ℕ) × InitAt ns its f init p t × Here ns its t (test_node f decided m k) (Test at decided stepped s) × StepAt ns its f at stepped a t
      × Situated ns its f x (Some k) (Some a) s m a

  pub SituatedAll : List Node → List Item → ℕ → ℕ → Option ℕ → Option ℕ → Stms → ℕ → ℕ → Type 0
  SituatedAll ns its f x b c end p k = p ≡ k
  SituatedAll ns its f x b c (then s ss) p k = (m : ℕ) × Situated ns its f x b c s p m × SituatedAll ns its f x b c ss m k

-- The first of these items stands at p. A `break` leads behind the first loop end, and a `continue` to the first test or step of a `for`.
abbrev pub AtIn : List Node → List Item → ℕ → ℕ → Option ℕ → Option ℕ → Frame → ℕ → Type 0
AtIn ns its f x b c [] p = ⊥
AtIn ns its f x b c (Entry g j ∷ is) p = (m : ℕ) × Here ns its p (node point.Entry f (Some m) (Some j)) (Entry g j) × AtIn ns its f x b c is m
AtIn ns its f x b c (Todo s ∷ is) p = (k : ℕ) × Situated ns its f x b c s p k × AtIn ns its f x b c is k
AtIn ns its f x b c (Test at decided stepped s ∷ is) p =
    (c ≡ Some p)
    × ((m : ℕ) × (a : ℕ) × (k : ℕ) × (d : Option ℕ) × Here ns its p (test_node f decided m k) (Test at decided stepped s) × StepAt ns its f at stepped a p
    × Situated ns its f x (Some k) (Some a) s m a × (b ≡ Some k) × AtIn ns its f x b d is k)
AtIn ns its f x b c (After at ∷ is) p = (c ≡ Some p) × ((t : ℕ) × (d : Option ℕ) × Here ns its p (step f (Some t)) (After at) × AtIn ns its f x b d is t)
AtIn ns its f x b c (LoopEnd ∷ is) p = (b ≡ Some p) × ((a : Option ℕ) × AtIn ns its f x a c is p)
AtIn ns its f x b c (End g ∷ is) p = (b ≡ None) × (c ≡ None) × (p ≡ x) × Here ns its x (node point.Exit f None None) (End g) × (is ≡ [])

abbrev pub At : List Node → List Item → ℕ → ℕ → Frame → ℕ → Type 0
At ns its f x frame p = (b : Option ℕ) × (c : Option ℕ) × AtIn ns its f x b c frame p

-- A function stands among the points: its entry, its body and its exit.
pub record IsSituated (ns : List Node) (its : List Item) (f : ℕ) (r : Routine) (entry exit : ℕ) : Type 0 where
  pub body : ℕ
  pub begins : Here ns its entry (node point.Entry f (Some body) (Some r.seam)) (Entry f r.seam)
  pub holds : SituatedAll ns its f exit None None r.body body exit
  pub ends : Here ns its exit (node point.Exit f None None) (End f)

-- a function of a program and its part: there are both, and the function stands where the part says, or there is neither
abbrev pub IsPart : List Node → List Item → ℕ → Option Routine → Option Part → Type 0
IsPart ns its f None None = Unit {0}
IsPart ns its f (Some r) (Some part) = IsSituated ns its f r part.entry.0 part.exit.0
IsPart ns its f _ _ = ⊥
