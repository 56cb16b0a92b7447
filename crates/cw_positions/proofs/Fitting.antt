-- What holds of each action and of each label of a program holds of its statements, and of its points.
use Rattle.std.proofs.Common.{◌≡◌, ℕ, zero, suc, ◌+◌, List, [], ◌∷◌, ◌++◌, Bool, true, false, Option, Some, None, refl, subst}
use Rattle.std.specs.Prelude.{slice_get}
use Rattle.std.proofs.lemmas.Option.{none-some, same_Some}
use Rattle.cw_syntax.specs.declared.program.Name.{Name}
use Rattle.cw_syntax.specs.Names.{text, number_or_other}
use Rattle.cw_syntax.specs.Trees.{Tree, Statement, Stated, Form, Block, Declares, Evaluates, Empties, Labels, Chooses, Whiles, Does, Fors, Breaks}
use Rattle.cw_syntax.specs.Trees.{Continues, Returns, Perhaps, nothing, just}
use Rattle.cw_syntax.specs.Trees.{Statements, nil, cons, Definition}
use Rattle.cw_syntax.specs.Plans.{Callee, Stm, Plain, Break, Continue, Return, Open, Close, Call, Group, Label, If, While, Do, For, Stms, end, then}
use Rattle.cw_syntax.specs.Plans.{Routine, Scene, Action, Computes, Opens, Closes, Invokes}
use Rattle.cw_syntax.specs.Plans.{acting, action_of, steps_of, steps_of_form, steps_of_arm, steps_of_all, seams, seams_all, numbered, numbered_all}
use Rattle.cw_syntax.specs.Plans.{routines_from}
use Rattle.cw_points.specs.declared.graph.Point.{Point}
use Rattle.cw_points.specs.declared.graph.Point.TheVariants as point
use Rattle.cw_points.specs.declared.graph.Node.{Node}
use Rattle.cw_points.specs.Points.{count, count_all}
use Rattle.cw_positions.specs.Opens.{EachStands, EachStandsIn, EachStandsArm, EachStandsAll, EachStandsFrom}
use Rattle.cw_points.specs.Graphs.{node, branch, first, init_nodes, turns, test_of, turn_of, nodes_in, nodes_in_all, exit_of, nodes_of, nodes_from}

-- what holds of each expression holds of those that are statements
module _ (T : Tree → Type 0) (all : (t : Tree) → T t) where
  mutual
    every : (s : Statement) → EachStands T s
    every (Stated form from to) = every_in form

    every_in : (f : Form) → EachStandsIn T f
    every_in (Block ss) = every_all ss
    every_in (Declares d) = tt
    every_in (Evaluates e) = all e
    every_in Empties = tt
    every_in (Labels name mark s) = every s
    every_in (Chooses test s other) = (every s, every_arm other)
    every_in (Whiles test s) = every s
    every_in (Does s test) = every s
    every_in (Fors init test step s) = every s
    every_in Breaks = tt
    every_in Continues = tt
    every_in (Returns value) = tt

    every_arm : (o : Perhaps) → EachStandsArm T o
    every_arm nothing = tt
    every_arm (just s) = every s

    every_all : (ss : Statements) → EachStandsAll T ss
    every_all nil = tt
    every_all (cons s ss) = (every s, every_all ss)

  every_from : (fs : List Definition) → EachStandsFrom T fs
  every_from [] = tt
  every_from (f ∷ fs) = (every_all f.body, every_from fs)

-- what is asked of an open, of a close, of a call and of a label
module _ (O C L : ℕ → Type 0) (K : Callee → Type 0) where
  abbrev pub ActFits : Action → Type 0
  ActFits Computes = Unit {0}
  ActFits (Opens d) = O d
  ActFits (Closes d) = C d
  ActFits (Invokes callee) = K callee

  abbrev mutual
    pub Fits : Stm → Type 0
    Fits (Plain at) = Unit {0}
    Fits (Break at) = Unit {0}
    Fits (Continue at) = Unit {0}
    Fits (Return at) = Unit {0}
    Fits (Open at j d) = O d
    Fits (Close at j d) = C d
    Fits (Call at j callee) = K callee
    Fits (Group ss) = AllFit ss
    Fits (Label at mark j l s) = L l × Fits s
    Fits (If at s t) = Fits s × Fits t
    Fits (While at s) = Fits s
    Fits (Do at s) = Fits s
    Fits (For at init decided stepped s) = Fits s

    pub AllFit : Stms → Type 0
    AllFit end = Unit {0}
    AllFit (then s ss) = Fits s × AllFit ss

  -- of a program's functions, where this holds of each expression that is a statement
  module _ (c : Scene) (T : Tree → Type 0) (acts : (t : Tree) → T t → ActFits (action_of c t))
      (labels : (name : Name) → L (number_or_other c.names.labels (text c.source name))) where
    acting_fits : (a : Action) (at j : ℕ) → ActFits a → Fits (numbered (acting a at) j)
    acting_fits Computes at j h = tt
    acting_fits (Opens d) at j h = h
    acting_fits (Closes d) at j h = h
    acting_fits (Invokes callee) at j h = h

    mutual
      step_fits : (s : Statement) (j : ℕ) → EachStands T s → Fits (numbered (steps_of c s) j)
      step_fits (Stated form from to) j h = form_fits form from j h

      form_fits : (f : Form) (at j : ℕ) → EachStandsIn T f → Fits (numbered (steps_of_form c at f) j)
      form_fits (Block ss) at j h = steps_fit ss j h
      form_fits (Declares d) at j h = tt
      form_fits (Evaluates e) at j h = acting_fits (action_of c e) at j (acts e h)
      form_fits Empties at j h = tt
      form_fits (Labels name mark s) at j h = (labels name, step_fits s (j + 1) h)
      form_fits (Chooses test s other) at j h = (step_fits s j h.0, arm_fits other (j + seams (steps_of c s)) h.1)
      form_fits (Whiles test s) at j h = step_fits s j h
      form_fits (Does s test) at j h = step_fits s j h
      form_fits (Fors init test step s) at j h = step_fits s j h
      form_fits Breaks at j h = tt
      form_fits Continues at j h = tt
      form_fits (Returns value) at j h = tt

      arm_fits : (o : Perhaps) (j : ℕ) → EachStandsArm T o → Fits (numbered (steps_of_arm c o) j)
      arm_fits nothing j h = tt
      arm_fits (just s) j h = step_fits s j h

      steps_fit : (ss : Statements) (j : ℕ) → EachStandsAll T ss → AllFit (numbered_all (steps_of_all c ss) j)
      steps_fit nil j h = tt
      steps_fit (cons s ss) j h = (step_fits s j h.0, steps_fit ss (j + seams (steps_of c s)) h.1)

    pub EachFits : List Routine → Type 0
    EachFits [] = Unit {0}
    EachFits (r ∷ rs) = AllFit r.body × EachFits rs

    routines_fit : (j : ℕ) (fs : List Definition) → EachStandsFrom T fs → EachFits (routines_from c j fs)
    unfolding EachFits
    routines_fit j [] h = tt
    routines_fit j (f ∷ fs) h = (steps_fit f.body (j + 1) h.0, routines_fit (j + 1 + seams_all (steps_of_all c f.body)) fs h.1)

    fits_at : (rs : List Routine) (f : ℕ) (r : Routine) → EachFits rs → slice_get rs f ≡ Some r → AllFit r.body
    unfolding EachFits
    fits_at [] f r h e = absurd (none-some r e)
    fits_at (m ∷ rs) zero r h e = subst (λ (k : Routine). AllFit k.body) (same_Some m r e) h.0
    fits_at (m ∷ rs) (suc f) r h e = fits_at rs f r h.1 e

    pub routine_fits_where : (fs : List Definition) (j f : ℕ) (r : Routine) → EachStandsFrom T fs → slice_get (routines_from c j fs) f ≡ Some r
        → AllFit r.body
    routine_fits_where fs j f r h e = fits_at (routines_from c j fs) f r (routines_fit j fs h) e

  -- the same where it holds of each expression
  module _ (c : Scene) (acts : (t : Tree) → ActFits (action_of c t))
      (labels : (name : Name) → L (number_or_other c.names.labels (text c.source name))) where
    pub routine_fits : (fs : List Definition) (j f : ℕ) (r : Routine) → slice_get (routines_from c j fs) f ≡ Some r → AllFit r.body
    routine_fits fs j f r e = routine_fits_where c (λ t. Unit {0}) (λ t h. acts t) labels fs j f r (every_from (λ t. Unit {0}) (λ t. tt) fs) e

  -- and of its points
  module _ (P : ℕ → Type 0) (called : (callee : Callee) → K callee → P callee.number) where
    abbrev pub PointFits : Point → Type 0
    PointFits point.Entry = Unit {0}
    PointFits point.Step = Unit {0}
    PointFits point.Branch = Unit {0}
    PointFits (point.Label l) = L l
    PointFits (point.Open d) = O d
    PointFits (point.Close d) = C d
    PointFits (point.Call f) = P f
    PointFits point.Exit = Unit {0}

    abbrev pub PointsFit : List Node → Type 0
    PointsFit [] = Unit {0}
    PointsFit (n ∷ ns) = PointFits n.point × PointsFit ns

    two : (a b : List Node) → PointsFit a → PointsFit b → PointsFit (a ++ b)
    two [] b h e = e
    two (n ∷ a) b h e = (h.0, two a b h.1 e)

    init_fit : (f : ℕ) (init : Option ℕ) (t : ℕ) → PointsFit (init_nodes f init t)
    init_fit f None t = tt
    init_fit f (Some at) t = (tt, tt)

    turns_fit : (f : ℕ) (decided stepped : Bool) (m k t : ℕ) (body : List Node) → PointsFit body → PointsFit (turns f decided stepped m k t body)
    turns_fit f true true m k t body h = (tt, (tt, h))
    turns_fit f true false m k t body h = (tt, h)
    turns_fit f false true m k t body h = (tt, (tt, h))
    turns_fit f false false m k t body h = (tt, h)

    mutual
      points_fit : (s : Stm) (f n k x : ℕ) (b c : Option ℕ) → Fits s → PointsFit (nodes_in f s n k x b c)
      points_fit (Plain at) f n k x b c h = (tt, tt)
      points_fit (Break at) f n k x b c h = (tt, tt)
      points_fit (Continue at) f n k x b c h = (tt, tt)
      points_fit (Return at) f n k x b c h = (tt, tt)
      points_fit (Open at j d) f n k x b c h = (h, tt)
      points_fit (Close at j d) f n k x b c h = (h, tt)
      points_fit (Call at j callee) f n k x b c h = (called callee h, tt)
      points_fit (Group ss) f n k x b c h = points_fit_all ss f n k x b c h
      points_fit (Label at mark j l s) f n k x b c h = (h.0, points_fit s f (n + 1) k x b c h.1)
      points_fit (If at s t) f n k x b c h = (
        tt,
        two (nodes_in f s (n + 1) k x b c) (nodes_in f t (n + 1 + count s) k x b c) (points_fit s f (n + 1) k x b c h.0)
            (points_fit t f (n + 1 + count s) k x b c h.1),
      )
      points_fit (While at s) f n k x b c h = (tt, points_fit s f (n + 1) n x (Some k) (Some n) h)
      points_fit (Do at s) f n k x b c h =
          let t = n + count s in
          two (nodes_in f s n t x (Some k) (Some t)) (branch f n k ∷ []) (points_fit s f n t x (Some k) (Some t) h) (tt, tt)
      points_fit (For at init decided stepped s) f n k x b c h =
          let t = test_of n init in
          let a = turn_of n init stepped in
          let m = first (count s) (a + 1) a in
          let body = nodes_in f s (a + 1) a x (Some k) (Some a) in
          two (init_nodes f init t) (turns f decided stepped m k t body) (init_fit f init t)
          (turns_fit f decided stepped m k t body (points_fit s f (a + 1) a x (Some k) (Some a) h))

      points_fit_all : (ss : Stms) (f n k x : ℕ) (b c : Option ℕ) → AllFit ss → PointsFit (nodes_in_all f ss n k x b c)
      points_fit_all end f n k x b c h = tt
      points_fit_all (then s ss) f n k x b c h =
          let m = first (count_all ss) (n + count s) k in
          two (nodes_in f s n m x b c) (nodes_in_all f ss (n + count s) k x b c) (points_fit s f n m x b c h.0)
          (points_fit_all ss f (n + count s) k x b c h.1)

    pub points_fit_from : (f : ℕ) (rs : List Routine) (n : ℕ) → ((i : ℕ) (r : Routine) → slice_get rs i ≡ Some r → AllFit r.body)
        → PointsFit (nodes_from f rs n)
    points_fit_from f [] n h = tt
    points_fit_from f (r ∷ rs) n h =
        let x = exit_of r n in
        let body = nodes_in_all f r.body (n + 1) x x None None in
        two (nodes_of f r n) (nodes_from (f + 1) rs (x + 1))
        (tt, two body (node point.Exit f None None ∷ []) (points_fit_all r.body f (n + 1) x x None None (h 0 r refl)) (tt, tt))
        (points_fit_from (f + 1) rs (x + 1) (λ i q e. h (suc i) q e))

    pub point_fits : (ns : List Node) (p : ℕ) (n : Node) → PointsFit ns → slice_get ns p ≡ Some n → PointFits n.point
    point_fits [] p n h e = absurd (none-some n e)
    point_fits (m ∷ ns) zero n h e = subst (λ (k : Node). PointFits k.point) (same_Some m n e) h.0
    point_fits (m ∷ ns) (suc p) n h e = point_fits ns p n h.1 e
