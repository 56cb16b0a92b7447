-- The seams of a program, by its points: both are numbered in the order of the text.
use Rattle.std.proofs.Common.{◌≡◌, ◌⊎◌, ℕ, zero, suc, ◌+◌, List, [], ◌∷◌, ◌++◌, length, Bool, true, false, Option, Some, None, refl, sym, ap, ◌∙◌}
use Rattle.std.proofs.Common.{subst, arith, inl, inr, ⊎_elim, length-append, add-zero}
use Rattle.std.specs.Prelude.{slice_get}
use Rattle.std.proofs.lemmas.List.{append-nil}
use Rattle.std.proofs.lemmas.Option.{none-some, same_Some}
use Rattle.cw_syntax.specs.Names.{Names}
use Rattle.cw_syntax.specs.Trees.{Definition, File}
use Rattle.cw_syntax.specs.Plans.{Scene, Stm, Plain, Break, Continue, Return, Open, Close, Call, Group, Label, If, While, Do, For, Stms, end, then}
use Rattle.cw_syntax.specs.Plans.{Routine, seams, seams_all, numbered}
use Rattle.cw_syntax.specs.Plans.{numbered_all, steps_of_all, routines_from, plan_of, scene_of}
use Rattle.cw_points.specs.declared.graph.Point.{Point}
use Rattle.cw_points.specs.declared.graph.Point.TheVariants as point
use Rattle.cw_points.specs.declared.graph.Node.{Node}
use Rattle.cw_points.specs.declared.graph.Seam.{Seam}
use Rattle.cw_points.specs.Points.{one_if, one_if_some, count, count_all}
use Rattle.cw_points.specs.Graphs.{node, branch, first, init_nodes, test_node, step_nodes, turns, test_of, turn_of, nodes_in, nodes_in_all, exit_of}
use Rattle.cw_points.specs.Graphs.{nodes_from, nodes, seam}
use Rattle.cw_points.specs.Graphs.{seam_id, seams_in, seams_in_all, seams_from}
use Rattle.cw_points.proofs.Lengths.{init_length, step_length, nodes_length, nodes_length_all, seams_length, seams_length_all}

-- what stands there has a seam
abbrev pub is_seam_point : Point → Bool
is_seam_point point.Entry = true
is_seam_point point.Step = false
is_seam_point point.Branch = false
is_seam_point (point.Label l) = true
is_seam_point (point.Open d) = true
is_seam_point (point.Close d) = true
is_seam_point (point.Call f) = true
is_seam_point point.Exit = false

-- a point without a seam, and one with the seam j
abbrev pub IsBare : Node → Type 0
IsBare n = (n.seam ≡ None) × (is_seam_point n.point ≡ false)

abbrev pub HasSeam : ℕ → Node → Type 0
HasSeam j n = (n.seam ≡ Some (seam_id j)) × (is_seam_point n.point ≡ true)

-- These are the seams, from j on, of these points, from p on.
abbrev pub AreSeams : ℕ → ℕ → List Node → List Seam → Type 0
AreSeams p j [] ss = ss ≡ []
AreSeams p j (n ∷ ns) ss =
    (IsBare n × AreSeams (p + 1) j ns ss)
    ⊎ ((s : Seam) × (rest : List Seam) × (ss ≡ s ∷ rest) × HasSeam j n × (s.point.0 ≡ p) × AreSeams (p + 1) (j + 1) ns rest)

joined : (p j : ℕ) (a b : List Node) (s t : List Seam) (m i : ℕ) → length a ≡ m → length s ≡ i → AreSeams p j a s → AreSeams (p + m) (j + i) b t
    → AreSeams p j (a ++ b) (s ++ t)
joined p j [] b s t m i em ei h k =
    let y : p + m ≡ p = omega arith in
    let z : j + i ≡ j = omega (arith, ei, ap length h) in
    subst (λ l. AreSeams p j b (l ++ t)) (sym h) (subst (λ q. AreSeams p q b t) z (subst (λ q. AreSeams q (j + i) b t) y k))
joined p j (n ∷ a) b s t m i em ei h k =
    let y : p + m ≡ p + 1 + length a = omega (arith, em) in
    ⊎_elim
    (λ q. inl (q.0, joined (p + 1) j a b s t (length a) i refl ei q.1 (subst (λ r. AreSeams r (j + i) b t) y k)))
    (λ q.
    let z : j + i ≡ j + 1 + length q.1 = omega (arith, ei, ap length q.2) in
    inr (
      q.0,
      q.1 ++ t,
      ap (λ l. l ++ t) q.2,
      q.3,
      q.4,
      joined (p + 1) (j + 1) a b q.1 t (length a) (length q.1) refl refl q.5
          (subst (λ r. AreSeams (p + 1 + length a) r b t) z (subst (λ r. AreSeams r (j + i) b t) y k)),
    ))
    h

-- a list of points without seams
plain_then : (p j : ℕ) (a b : List Node) (t : List Seam) (m : ℕ) → length a ≡ m → AreSeams p j a [] → AreSeams (p + m) j b t → AreSeams p j (a ++ b) t
plain_then p j a b t m e h k = joined p j a b [] t m 0 e refl h (subst (λ q. AreSeams (p + m) q b t) (sym (add-zero j)) k)

then_plain : (p j : ℕ) (a : List Node) (n : Node) (s : List Seam) → IsBare n → AreSeams p j a s → AreSeams p j (a ++ n ∷ []) s
then_plain p j a n s bare h =
    let k = joined p j a (n ∷ []) s [] (length a) (length s) refl refl h (inl (bare, refl)) in
    subst (AreSeams p j (a ++ n ∷ [])) (append-nil s) k

init_plain : (p j f : ℕ) (init : Option ℕ) (t : ℕ) → AreSeams p j (init_nodes f init t) []
init_plain p j f None t = refl
init_plain p j f (Some at) t = inl ((refl, refl), refl)

step_plain : (p j f : ℕ) (stepped : Bool) (t : ℕ) → AreSeams p j (step_nodes f stepped t) []
step_plain p j f true t = inl ((refl, refl), refl)
step_plain p j f false t = refl

test_bare : (f : ℕ) (decided : Bool) (m k : ℕ) → IsBare (test_node f decided m k)
test_bare f true m k = (refl, refl)
test_bare f false m k = (refl, refl)

mutual
  seams_are : (s : Stm) (j f n k x : ℕ) (b c : Option ℕ) → AreSeams n j (nodes_in f (numbered s j) n k x b c) (seams_in (numbered s j) n)
  seams_are (Plain at) j f n k x b c = inl ((refl, refl), refl)
  seams_are (Break at) j f n k x b c = inl ((refl, refl), refl)
  seams_are (Continue at) j f n k x b c = inl ((refl, refl), refl)
  seams_are (Return at) j f n k x b c = inl ((refl, refl), refl)
  seams_are (Open at i d) j f n k x b c = inr (seam n at None, [], refl, (refl, refl), refl, refl)
  seams_are (Close at i d) j f n k x b c = inr (seam n at None, [], refl, (refl, refl), refl, refl)
  seams_are (Call at i callee) j f n k x b c = inr (seam n at callee.result, [], refl, (refl, refl), refl, refl)
  seams_are (Group ss) j f n k x b c = seams_are_all ss j f n k x b c
  seams_are (Label at mark i l s) j f n k x b c =
      inr (seam n mark None, seams_in (numbered s (j + 1)) (n + 1), refl, (refl, refl), refl, seams_are s (j + 1) f (n + 1) k x b c)
  seams_are (If at s t) j f n k x b c =
      let u = numbered s j in
      let v = numbered t (j + seams s) in
      let m = n + 1 + count u in
      inl (
        (refl, refl),
        joined (n + 1) j (nodes_in f u (n + 1) k x b c) (nodes_in f v m k x b c) (seams_in u (n + 1)) (seams_in v m) (count u) (seams s)
            (nodes_length f u (n + 1) k x b c)
            (seams_length s j (n + 1)) (seams_are s j f (n + 1) k x b c) (seams_are t (j + seams s) f m k x b c),
      )
  seams_are (While at s) j f n k x b c = inl ((refl, refl), seams_are s j f (n + 1) n x (Some k) (Some n))
  seams_are (Do at s) j f n k x b c =
      let u = numbered s j in
      let t = n + count u in
      then_plain n j (nodes_in f u n t x (Some k) (Some t)) (branch f n k) (seams_in u n) (refl, refl) (seams_are s j f n t x (Some k) (Some t))
  seams_are (For at init decided stepped s) j f n k x b c =
      let u = numbered s j in
      let t = test_of n init in
      let a = turn_of n init stepped in
      let m = first (count u) (a + 1) a in
      let body = nodes_in f u (a + 1) a x (Some k) (Some a) in
      let ss = seams_in u (a + 1) in
      let z : a + 1 ≡ t + 1 + one_if stepped = omega arith in
      let behind = plain_then (t + 1) j (step_nodes f stepped t) body ss (one_if stepped) (step_length f stepped t) (step_plain (t + 1) j f stepped t)
      (subst (λ q. AreSeams q j body ss) z (seams_are s j f (a + 1) a x (Some k) (Some a))) in
      plain_then n j (init_nodes f init t) (turns f decided stepped m k t body) ss (one_if_some init) (init_length f init t)
      (init_plain n j f init t) (inl (test_bare f decided m k, behind))

  seams_are_all : (ss : Stms) (j f n k x : ℕ) (b c : Option ℕ)
      → AreSeams n j (nodes_in_all f (numbered_all ss j) n k x b c) (seams_in_all (numbered_all ss j) n)
  seams_are_all end j f n k x b c = refl
  seams_are_all (then s ss) j f n k x b c =
      let u = numbered s j in
      let v = numbered_all ss (j + seams s) in
      let y = first (count_all v) (n + count u) k in
      joined n j (nodes_in f u n y x b c) (nodes_in_all f v (n + count u) k x b c) (seams_in u n) (seams_in_all v (n + count u)) (count u) (seams s)
      (nodes_length f u n y x b c) (seams_length s j n)
      (seams_are s j f n y x b c) (seams_are_all ss (j + seams s) f (n + count u) k x b c)

-- and of the functions of a program
seams_are_from : (c : Scene) (fs : List Definition) (j f n : ℕ)
    → AreSeams n j (nodes_from f (routines_from c j fs) n) (seams_from (routines_from c j fs) n)
seams_are_from c [] j f n = refl
seams_are_from c (d ∷ fs) j f n =
    let ss = steps_of_all c d.body in
    let u = numbered_all ss (j + 1) in
    let r : Routine = record { mark = d.brace; seam = j; body = u } in
    let x = exit_of r n in
    let m = j + 1 + seams_all ss in
    let rest = nodes_from (f + 1) (routines_from c m fs) (x + 1) in
    let last = node point.Exit f None None in
    let body = nodes_in_all f u (n + 1) x x None None in
    let own = then_plain (n + 1) (j + 1) body last (seams_in_all u (n + 1)) (refl, refl) (seams_are_all ss (j + 1) f (n + 1) x x None None) in
    let long : length (body ++ last ∷ []) ≡ count_all u + 1 =
    omega (arith, length-append body (last ∷ []), nodes_length_all f u (n + 1) x x None None) in
    let z : x + 1 ≡ n + 1 + (count_all u + 1) = omega arith in
    let later = subst (λ q. AreSeams q m rest (seams_from (routines_from c m fs) (x + 1))) z (seams_are_from c fs m (f + 1) (x + 1)) in
    inr (
      seam n d.brace None,
      seams_in_all u (n + 1) ++ seams_from (routines_from c m fs) (x + 1),
      refl,
      (refl, refl),
      refl,
      joined (n + 1) (j + 1) (body ++ last ∷ []) rest (seams_in_all u (n + 1)) (seams_from (routines_from c m fs) (x + 1)) (count_all u + 1)
          (seams_all ss) long
          (seams_length_all ss (j + 1) (n + 1)) own later,
    )

pub seams_of_plan : (names : Names) (source : List ℕ) (file : File)
    → AreSeams 0 0 (nodes (plan_of names source file)) (seams_from (plan_of names source file).routines 0)
seams_of_plan names source file = seams_are_from (scene_of names source file) file.functions 0 0 0

-- a point has no seam, or the one that the list has for it
pub seam_at : (p j : ℕ) (ns : List Node) (ss : List Seam) (i : ℕ) (n : Node) → AreSeams p j ns ss → slice_get ns i ≡ Some n
    → IsBare n ⊎ ((k : ℕ) × (s : Seam) × HasSeam (j + k) n × (slice_get ss k ≡ Some s) × (s.point.0 ≡ p + i))
seam_at p j [] ss i n h e = absurd (none-some n e)
seam_at p j (m ∷ ns) ss zero n h e =
    ⊎_elim
    (λ y. inl (subst IsBare (same_Some m n e) y.0))
    (λ y.
    let z : y.0.point.0 ≡ p + 0 = y.4 ∙ sym (add-zero p) in
    inr (0, y.0, subst (λ q. HasSeam q n) (sym (add-zero j)) (subst (HasSeam j) (same_Some m n e) y.3), ap (λ l. slice_get l 0) y.2, z))
    h
seam_at p j (m ∷ ns) ss (suc i) n h e =
    ⊎_elim
    (λ y.
    ⊎_elim (λ q. inl q) (λ q. let z : q.1.point.0 ≡ p + suc i = omega (arith, q.4) in inr (q.0, q.1, q.2, q.3, z))
    (seam_at (p + 1) j ns ss i n y.1 e))
    (λ y.
    ⊎_elim
    (λ q. inl q)
    (λ q.
    let z : q.1.point.0 ≡ p + suc i = omega (arith, q.4) in
    let k : j + 1 + q.0 ≡ j + suc q.0 = omega arith in
    inr (suc q.0, q.1, subst (λ r. HasSeam r n) k q.2, ap (λ l. slice_get l (suc q.0)) y.2 ∙ q.3, z))
    (seam_at (p + 1) (j + 1) ns y.1 i n y.5 e))
    h

-- behind one point more
shifted : (p j : ℕ) (m : Node) (ns : List Node) (s : Seam)
    → ((i : ℕ) × (n : Node) × (slice_get ns i ≡ Some n) × HasSeam j n × (s.point.0 ≡ p + 1 + i))
    → (i : ℕ) × (n : Node) × (slice_get (m ∷ ns) i ≡ Some n) × HasSeam j n × (s.point.0 ≡ p + i)
shifted p j m ns s q = let z : s.point.0 ≡ p + suc q.0 = omega (arith, q.4) in (suc q.0, q.1, q.2, q.3, z)

-- a seam is that of the point to which it belongs
pub point_at : (p j : ℕ) (ns : List Node) (ss : List Seam) (k : ℕ) (s : Seam) → AreSeams p j ns ss → slice_get ss k ≡ Some s
    → (i : ℕ) × (n : Node) × (slice_get ns i ≡ Some n) × HasSeam (j + k) n × (s.point.0 ≡ p + i)
point_at p j [] ss k s h e = absurd (none-some s (ap (λ l. slice_get l k) (sym h) ∙ e))
point_at p j (m ∷ ns) ss zero s h e =
    ⊎_elim
    (λ y. shifted p (j + 0) m ns s (point_at (p + 1) j ns ss zero s y.1 e))
    (λ y.
    let same : y.0 ≡ s = same_Some y.0 s (sym (ap (λ l. slice_get l 0) y.2) ∙ e) in
    let z : s.point.0 ≡ p + 0 = sym (ap (λ (q : Seam). q.point.0) same) ∙ y.4 ∙ sym (add-zero p) in
    (0, m, refl, subst (λ q. HasSeam q m) (sym (add-zero j)) y.3, z))
    h
point_at p j (m ∷ ns) ss (suc k) s h e =
    ⊎_elim
    (λ y. shifted p (j + suc k) m ns s (point_at (p + 1) j ns ss (suc k) s y.1 e))
    (λ y.
    let z : j + 1 + k ≡ j + suc k = omega arith in
    let q = point_at (p + 1) (j + 1) ns y.1 k s y.5 (sym (ap (λ l. slice_get l (suc k)) y.2) ∙ e) in
    shifted p (j + suc k) m ns s (q.0, q.1, q.2, subst (λ r. HasSeam r q.1) z q.3, q.4))
    h
