-- The points of a program stand as its frames need them.
use Rattle.std.proofs.Common.{◌≡◌, ℕ, zero, suc, ◌+◌, List, [], ◌∷◌, ◌++◌, length, Bool, true, false, Option, Some, None, refl, sym, ◌∙◌, subst, arith, zero-add, add-zero, length-append}
use Rattle.std.specs.Prelude.{slice_get}
use Rattle.std.proofs.lemmas.List.{length-map}
use Rattle.cw_syntax.specs.Names.{Names}
use Rattle.cw_syntax.specs.Trees.{File}
use Rattle.cw_syntax.specs.Plans.{Stm, Plain, Break, Continue, Return, Open, Close, Call, Group, Label, If, While, Do, For, Stms, end, then, Routine, Plan, scene_of, plan_of}
use Rattle.cw_syntax.specs.Frames.{Item, Entry, Test, End, init_if, after_if}
use Rattle.cw_points.specs.declared.graph.Point.TheVariants as point
use Rattle.cw_points.specs.declared.graph.Node.{Node}
use Rattle.cw_points.specs.Points.{points_in, points_in_all, points_of, points_from, points, one_if, one_if_some, count, count_all}
use Rattle.cw_points.specs.Graphs.{node, branch, first, init_nodes, step_nodes, turns, test_of, turn_of, nodes_in, nodes_in_all, exit_of, nodes_of, nodes_from, nodes, parts_from, splits_of}
use Rattle.cw_points.specs.Walks.{parts_of}
use Rattle.cw_points.proofs.Situated.{StepAt, InitAt, Situated, SituatedAll, IsSituated, IsPart}
use Rattle.cw_points.proofs.Held.{HasAt, has_front, has_all, has_behind, first_own, first_two, first_last, points_length, points_length_all}
use Rattle.cw_points.proofs.Lengths.{nodes_length, nodes_length_all}
use Rattle.cw_syntax.proofs.Counting.{length_routines}

module _ (ns : List Node) (its : List Item) (f : ℕ) where
  -- the parts of a `for`
  init_at : (init : Option ℕ) (n : ℕ) (l : List Node) (is : List Item) → HasAt ns n (init_nodes f init (test_of n init) ++ l) → HasAt its n (init_if init is) → InitAt ns its f init n (test_of n init)
  init_at None n l is h i = sym (add-zero n)
  init_at (Some place) n l is h i = (h.0, i.0)

  past_init : (init : Option ℕ) (n : ℕ) (l : List Node) → HasAt ns n (init_nodes f init (test_of n init) ++ l) → HasAt ns (test_of n init) l
  past_init None n l h = subst (λ z. HasAt ns z l) (sym (add-zero n)) h
  past_init (Some place) n l h = h.1

  past_init_item : (init : Option ℕ) (n : ℕ) (is : List Item) → HasAt its n (init_if init is) → HasAt its (test_of n init) is
  past_init_item None n is i = subst (λ z. HasAt its z is) (sym (add-zero n)) i
  past_init_item (Some place) n is i = i.1

  step_at : (stepped : Bool) (at t : ℕ) (l : List Node) (is : List Item) → HasAt ns (t + 1) (step_nodes f stepped t ++ l) → HasAt its (t + 1) (after_if stepped at is)
      → StepAt ns its f at stepped (t + one_if stepped) t
  step_at true at t l is h i = (h.0, i.0)
  step_at false at t l is h i = add-zero t

  past_step : (stepped : Bool) (t : ℕ) (l : List Node) → HasAt ns (t + 1) (step_nodes f stepped t ++ l) → HasAt ns (t + one_if stepped + 1) l
  past_step true t l h = h.1
  past_step false t l h = subst (λ z. HasAt ns (z + 1) l) (sym (add-zero t)) h

  past_step_item : (stepped : Bool) (at t : ℕ) (is : List Item) → HasAt its (t + 1) (after_if stepped at is) → HasAt its (t + one_if stepped + 1) is
  past_step_item true at t is i = i.1
  past_step_item false at t is i = subst (λ z. HasAt its (z + 1) is) (sym (add-zero t)) i

  mutual
    pub situated : (s : Stm) (n k x : ℕ) (b c : Option ℕ) → HasAt ns n (nodes_in f s n k x b c) → HasAt its n (points_in s) → Situated ns its f x b c s (first (count s) n k) k
    situated (Plain at) n k x b c h i = (h.0, i.0)
    situated (Break at) n k x b c h i = (h.0, i.0)
    situated (Continue at) n k x b c h i = (h.0, i.0)
    situated (Return at) n k x b c h i = (h.0, i.0)
    situated (Open at j d) n k x b c h i = (h.0, i.0)
    situated (Close at j d) n k x b c h i = (h.0, i.0)
    situated (Call at j callee) n k x b c h i = (h.0, i.0)
    situated (Group ss) n k x b c h i = situated_all ss n k x b c h i
    situated (Label at mark j l s) n k x b c h i = (first (count s) (n + 1) k, (h.0, i.0), situated s (n + 1) k x b c h.1 i.1)
    situated (If at s t) n k x b c h i =
        let ms = nodes_in f s (n + 1) k x b c in
        let mt = nodes_in f t (n + 1 + count s) k x b c in
        let ht = has_behind ns (n + 1) (count s) ms mt (nodes_length f s (n + 1) k x b c) h.1 in
        let it = has_behind its (n + 1) (count s) (points_in s) (points_in t) (points_length s) i.1 in (
          first (count s) (n + 1) k,
          first (count t) (n + 1 + count s) k,
          (h.0, i.0),
          situated s (n + 1) k x b c (has_front ns (n + 1) ms mt h.1) (has_front its (n + 1) (points_in s) (points_in t) i.1),
          situated t (n + 1 + count s) k x b c ht it,
        )
    situated (While at s) n k x b c h i = (first (count s) (n + 1) n, (h.0, i.0), situated s (n + 1) n x (Some k) (Some n) h.1 i.1)
    situated (Do at s) n k x b c h i =
        let t = n + count s in
        let ms = nodes_in f s n t x (Some k) (Some t) in
        let last : List Item = Test at true false s ∷ [] in
        let ht = has_behind ns n (count s) ms (branch f n k ∷ []) (nodes_length f s n t x (Some k) (Some t)) h in
        let it = has_behind its n (count s) (points_in s) last (points_length s) i in
        let body = situated s n t x (Some k) (Some t) (has_front ns n ms (branch f n k ∷ []) h) (has_front its n (points_in s) last i) in
        (t, (ht.0, it.0), subst (λ p. Situated ns its f x (Some k) (Some t) s p t) (first_last (count s) n) body)
    situated (For at init decided stepped s) n k x b c h i =
        let t = test_of n init in
        let u = turn_of n init stepped in
        let m = first (count s) (u + 1) u in
        let ms = nodes_in f s (u + 1) u x (Some k) (Some u) in
        let rest = turns f decided stepped m k t ms in
        let irest : List Item = Test at decided stepped s ∷ after_if stepped at (points_in s) in
        let ht = past_init init n rest h in
        let it = past_init_item init n irest i in
        let e : first (one_if_some init + suc (one_if stepped + count s)) n k ≡ n = first_own (one_if_some init + suc (one_if stepped + count s)) n k (omega arith) in
        let r : Situated ns its f x b c (For at init decided stepped s) n k = (
          t,
          m,
          u,
          init_at init n rest irest h i,
          (ht.0, it.0),
          step_at stepped at t ms (points_in s) ht.1 it.1,
          situated s (u + 1) u x (Some k) (Some u) (past_step stepped t ms ht.1) (past_step_item stepped at t (points_in s) it.1),
        ) in
        subst (λ p. Situated ns its f x b c (For at init decided stepped s) p k) (sym e) r

    pub situated_all : (ss : Stms) (n k x : ℕ) (b c : Option ℕ) → HasAt ns n (nodes_in_all f ss n k x b c) → HasAt its n (points_in_all ss) → SituatedAll ns its f x b c ss (first (count_all ss) n k) k
    situated_all end n k x b c h i = refl
    situated_all (then s ss) n k x b c h i =
        let m = first (count_all ss) (n + count s) k in
        let ms = nodes_in f s n m x b c in
        let mr = nodes_in_all f ss (n + count s) k x b c in
        let hr = has_behind ns n (count s) ms mr (nodes_length f s n m x b c) h in
        let ir = has_behind its n (count s) (points_in s) (points_in_all ss) (points_length s) i in
        let a = situated s n m x b c (has_front ns n ms mr h) (has_front its n (points_in s) (points_in_all ss) i) in
        (m, subst (λ p. Situated ns its f x b c s p m) (sym (first_two (count s) (count_all ss) n k)) a, situated_all ss (n + count s) k x b c hr ir)

  -- a function stands from its entry on
  pub situated_routine : (r : Routine) (n : ℕ) → HasAt ns n (nodes_of f r n) → HasAt its n (points_of f r) → IsSituated ns its f r n (exit_of r n)
  situated_routine r n h i =
      let x = exit_of r n in
      let ms = nodes_in_all f r.body (n + 1) x x None None in
      let last : List Node = node point.Exit f None None ∷ [] in
      let ilast : List Item = End f ∷ [] in
      let he = has_behind ns (n + 1) (count_all r.body) ms last (nodes_length_all f r.body (n + 1) x x None None) h.1 in
      let ie = has_behind its (n + 1) (count_all r.body) (points_in_all r.body) ilast (points_length_all r.body) i.1 in
      record {
        body = first (count_all r.body) (n + 1) x;
        begins = (h.0, i.0);
        holds = situated_all r.body (n + 1) x x None None (has_front ns (n + 1) ms last h.1) (has_front its (n + 1) (points_in_all r.body) ilast i.1);
        ends = (he.0, ie.0);
      }

one_more : {A : Type 0} (a b : A) (l : List A) (c n : ℕ) → length l ≡ c → n + length (a ∷ (l ++ b ∷ [])) ≡ n + 1 + c + 1
one_more a b l c n e = omega (arith, e, length-append l (b ∷ []))

module _ (ns : List Node) (its : List Item) where
  -- the functions from one on, each with its part
  pub situated_from : (rs : List Routine) (splits : List Bool) (f n i : ℕ) → length rs ≡ length splits → HasAt ns n (nodes_from f rs n) → HasAt its n (points_from f rs)
      → IsPart ns its (f + i) (slice_get rs i) (slice_get (parts_from rs splits n) i)
  situated_from [] splits f n i e h g = tt
  situated_from (r ∷ rs) [] f n i e h g = absurd (omega (arith, e))
  situated_from (r ∷ rs) (split ∷ splits) f n zero e h g =
      let a = situated_routine ns its f r n (has_front ns n (nodes_of f r n) (nodes_from (f + 1) rs (exit_of r n + 1)) h) (has_front its n (points_of f r) (points_from (f + 1) rs) g) in
      subst (λ z. IsSituated ns its z r n (exit_of r n)) (sym (add-zero f)) a
  situated_from (r ∷ rs) (split ∷ splits) f n (suc i) e h g =
      let x = exit_of r n in
      let z : f + 1 + i ≡ f + suc i = omega arith in
      let d : length rs ≡ length splits = omega (arith, e) in
      let hr = has_behind ns n (length (nodes_of f r n)) (nodes_of f r n) (nodes_from (f + 1) rs (x + 1)) refl h in
      let ir = has_behind its n (length (points_of f r)) (points_of f r) (points_from (f + 1) rs) refl g in
      let eh = one_more (node point.Entry f (Some (first (count_all r.body) (n + 1) x)) (Some r.seam)) (node point.Exit f None None) (nodes_in_all f r.body (n + 1) x x None None)
      (count_all r.body) n (nodes_length_all f r.body (n + 1) x x None None) in
      let ei = one_more (Entry f r.seam) (End f) (points_in_all r.body) (count_all r.body) n (points_length_all r.body) in
      let hs = subst (λ p. HasAt ns p (nodes_from (f + 1) rs (x + 1))) eh hr in
      let is = subst (λ p. HasAt its p (points_from (f + 1) rs)) ei ir in
      subst (λ w. IsPart ns its w (slice_get rs i) (slice_get (parts_from rs splits (x + 1)) i)) z (situated_from rs splits (f + 1) (x + 1) i d hs is)

-- each function of a plan stands among its points, and none else has a part
pub situated_plan : (plan : Plan) (splits : List Bool) → length plan.routines ≡ length splits → (f : ℕ)
    → IsPart (nodes plan) (points plan) f (slice_get plan.routines f) (slice_get (parts_from plan.routines splits 0) f)
situated_plan plan splits e f =
    subst (λ z. IsPart (nodes plan) (points plan) z (slice_get plan.routines f) (slice_get (parts_from plan.routines splits 0) f)) (zero-add f)
    (situated_from (nodes plan) (points plan) plan.routines splits 0 0 f e (has_all (nodes plan) []) (has_all (points plan) []))

pub splits_length : (names : Names) (source : List ℕ) (file : File) → length (plan_of names source file).routines ≡ length (splits_of names source file)
splits_length names source file = length_routines (scene_of names source file) 0 file.functions ∙ sym (length-map file.functions _)

-- each function of a program stands where its part says, and none else has a part
pub situated_program : (names : Names) (source : List ℕ) (file : File) (f : ℕ) → IsPart (nodes (plan_of names source file)) (points (plan_of names source file)) f
    (slice_get (plan_of names source file).routines f) (slice_get (parts_of names source file) f)
situated_program names source file f = situated_plan (plan_of names source file) (splits_of names source file) (splits_length names source file) f
