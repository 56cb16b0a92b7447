-- How many points and seams a statement has.
use Rattle.std.proofs.Common.{◌≡◌, ℕ, suc, ◌+◌, List, [], ◌∷◌, Bool, true, false, Option, None, Some, length, refl, ap, ap₂, ◌∙◌, arith, length-append}
use Rattle.std.specs.Prelude.{is_some}
use Rattle.cw_syntax.specs.Trees.{Statement, Stated, Form, Block, Declares, Evaluates, Empties, Labels, Chooses, Whiles, Does, Fors, Breaks, Continues, Returns, Perhaps, nothing, just}
use Rattle.cw_syntax.specs.Trees.{Statements, nil, cons, Definition}
use Rattle.cw_syntax.specs.Plans.{Stm, Plain, Break, Continue, Return, Open, Close, Call, Group, Label, If, While, Do, For, Stms, end, then, Scene, Action, Computes, Opens, Closes, Invokes}
use Rattle.cw_syntax.specs.Plans.{acting, action_of, steps_of, steps_of_form, steps_of_arm, steps_of_all, seams, seams_all, numbered, numbered_all, routines_from, place_if}
use Rattle.cw_points.specs.Points.{one_if, one_if_some, count, count_all, count_from}
use Rattle.cw_points.specs.Graphs.{branch, first, init_nodes, step_nodes, turns, test_of, turn_of, nodes_in, nodes_in_all, seams_in, seams_in_all}
use Rattle.cw_points.specs.Sizes.{size, size_of, size_arm, size_all, size_from}

mutual
  pub numbered_count : (s : Stm) (j : ℕ) → count (numbered s j) ≡ count s
  numbered_count (Plain at) j = refl
  numbered_count (Break at) j = refl
  numbered_count (Continue at) j = refl
  numbered_count (Return at) j = refl
  numbered_count (Open at i d) j = refl
  numbered_count (Close at i d) j = refl
  numbered_count (Call at i callee) j = refl
  numbered_count (Group ss) j = numbered_count_all ss j
  numbered_count (Label at mark i l s) j = ap suc (numbered_count s (j + 1))
  numbered_count (If at s t) j = ap₂ (λ a b. suc (a + b)) (numbered_count s j) (numbered_count t (j + seams s))
  numbered_count (While at s) j = ap suc (numbered_count s j)
  numbered_count (Do at s) j = ap suc (numbered_count s j)
  numbered_count (For at init decided stepped s) j = ap (λ n. one_if_some init + suc (one_if stepped + n)) (numbered_count s j)

  pub numbered_count_all : (ss : Stms) (j : ℕ) → count_all (numbered_all ss j) ≡ count_all ss
  numbered_count_all end j = refl
  numbered_count_all (then s ss) j = ap₂ (λ a b. a + b) (numbered_count s j) (numbered_count_all ss (j + seams s))

acting_count : (a : Action) (at : ℕ) → count (acting a at) ≡ 1
acting_count Computes at = refl
acting_count (Opens d) at = refl
acting_count (Closes d) at = refl
acting_count (Invokes callee) at = refl

module _ (c : Scene) where
  mutual
    pub step_count : (s : Statement) → count (steps_of c s) ≡ size s
    step_count (Stated form from to) = form_count form from

    form_count : (f : Form) (at : ℕ) → count (steps_of_form c at f) ≡ size_of f
    form_count (Block ss) at = step_count_all ss
    form_count (Declares d) at = refl
    form_count (Evaluates e) at = acting_count (action_of c e) at
    form_count Empties at = refl
    form_count (Labels name mark s) at = ap suc (step_count s)
    form_count (Chooses test s other) at = ap₂ (λ a b. suc (a + b)) (step_count s) (arm_count other)
    form_count (Whiles test s) at = ap suc (step_count s)
    form_count (Does s test) at = ap suc (step_count s)
    form_count (Fors init test step s) at = ap (λ n. one_if_some (place_if init) + suc (one_if (is_some step) + n)) (step_count s)
    form_count Breaks at = refl
    form_count Continues at = refl
    form_count (Returns value) at = refl

    arm_count : (o : Perhaps) → count (steps_of_arm c o) ≡ size_arm o
    arm_count nothing = refl
    arm_count (just s) = step_count s

    pub step_count_all : (ss : Statements) → count_all (steps_of_all c ss) ≡ size_all ss
    step_count_all nil = refl
    step_count_all (cons s ss) = ap₂ (λ a b. a + b) (step_count s) (step_count_all ss)

  pub size_is : (s : Statement) (j : ℕ) → count (numbered (steps_of c s) j) ≡ size s
  size_is s j = numbered_count (steps_of c s) j ∙ step_count s

  pub size_all_is : (ss : Statements) (j : ℕ) → count_all (numbered_all (steps_of_all c ss) j) ≡ size_all ss
  size_all_is ss j = numbered_count_all (steps_of_all c ss) j ∙ step_count_all ss

  pub size_from_is : (fs : List Definition) (j : ℕ) → count_from (routines_from c j fs) ≡ size_from fs
  size_from_is [] j = refl
  size_from_is (f ∷ fs) j = ap₂ (λ a b. suc (suc a) + b) (size_all_is f.body (j + 1)) (size_from_is fs (j + 1 + seams_all (steps_of_all c f.body)))

pub init_length : (f : ℕ) (init : Option ℕ) (t : ℕ) → length (init_nodes f init t) ≡ one_if_some init
init_length f None t = refl
init_length f (Some at) t = refl

pub step_length : (f : ℕ) (stepped : Bool) (t : ℕ) → length (step_nodes f stepped t) ≡ one_if stepped
step_length f true t = refl
step_length f false t = refl

mutual
  pub nodes_length : (f : ℕ) (s : Stm) (n k x : ℕ) (b c : Option ℕ) → length (nodes_in f s n k x b c) ≡ count s
  nodes_length f (Plain at) n k x b c = refl
  nodes_length f (Break at) n k x b c = refl
  nodes_length f (Continue at) n k x b c = refl
  nodes_length f (Return at) n k x b c = refl
  nodes_length f (Open at j d) n k x b c = refl
  nodes_length f (Close at j d) n k x b c = refl
  nodes_length f (Call at j callee) n k x b c = refl
  nodes_length f (Group ss) n k x b c = nodes_length_all f ss n k x b c
  nodes_length f (Label at mark j l s) n k x b c = ap suc (nodes_length f s (n + 1) k x b c)
  nodes_length f (If at s t) n k x b c =
      let l = nodes_in f s (n + 1) k x b c in
      let r = nodes_in f t (n + 1 + count s) k x b c in
      ap suc (length-append l r ∙ ap₂ (λ a b. a + b) (nodes_length f s (n + 1) k x b c) (nodes_length f t (n + 1 + count s) k x b c))
  nodes_length f (While at s) n k x b c = ap suc (nodes_length f s (n + 1) n x (Some k) (Some n))
  nodes_length f (Do at s) n k x b c =
      let t = n + count s in
      omega (arith, length-append (nodes_in f s n t x (Some k) (Some t)) (branch f n k ∷ []), nodes_length f s n t x (Some k) (Some t))
  nodes_length f (For at init decided stepped s) n k x b c =
      let t = test_of n init in
      let u = turn_of n init stepped in
      let body = nodes_in f s (u + 1) u x (Some k) (Some u) in
      let i = init_nodes f init t in
      let st = step_nodes f stepped t in
      omega (
        arith,
        length-append i (turns f decided stepped (first (count s) (u + 1) u) k t body),
        init_length f init t,
        length-append st body,
        step_length f stepped t,
        nodes_length f s
            (u + 1) u x (Some k) (Some u),
      )

  pub nodes_length_all : (f : ℕ) (ss : Stms) (n k x : ℕ) (b c : Option ℕ) → length (nodes_in_all f ss n k x b c) ≡ count_all ss
  nodes_length_all f end n k x b c = refl
  nodes_length_all f (then s ss) n k x b c =
      let m = first (count_all ss) (n + count s) k in
      length-append (nodes_in f s n m x b c) (nodes_in_all f ss (n + count s) k x b c) ∙ ap₂ (λ a b. a + b) (nodes_length f s n m x b c) (nodes_length_all f ss (n + count s) k x b c)

mutual
  pub seams_length : (s : Stm) (j n : ℕ) → length (seams_in (numbered s j) n) ≡ seams s
  seams_length (Plain at) j n = refl
  seams_length (Break at) j n = refl
  seams_length (Continue at) j n = refl
  seams_length (Return at) j n = refl
  seams_length (Open at i d) j n = refl
  seams_length (Close at i d) j n = refl
  seams_length (Call at i callee) j n = refl
  seams_length (Group ss) j n = seams_length_all ss j n
  seams_length (Label at mark i l s) j n = omega (arith, seams_length s (j + 1) (n + 1))
  seams_length (If at s t) j n =
      let m = n + 1 + count (numbered s j) in
      length-append (seams_in (numbered s j) (n + 1)) (seams_in (numbered t (j + seams s)) m) ∙ ap₂ (λ a b. a + b) (seams_length s j (n + 1)) (seams_length t (j + seams s) m)
  seams_length (While at s) j n = seams_length s j (n + 1)
  seams_length (Do at s) j n = seams_length s j n
  seams_length (For at init decided stepped s) j n = seams_length s j (turn_of n init stepped + 1)

  pub seams_length_all : (ss : Stms) (j n : ℕ) → length (seams_in_all (numbered_all ss j) n) ≡ seams_all ss
  seams_length_all end j n = refl
  seams_length_all (then s ss) j n =
      let m = n + count (numbered s j) in
      length-append (seams_in (numbered s j) n) (seams_in_all (numbered_all ss (j + seams s)) m) ∙ ap₂ (λ a b. a + b) (seams_length s j n) (seams_length_all ss (j + seams s) m)
