-- What a statement adds to a graph, by what its parts add.
use Rattle.std.proofs.Common.{◌≡◌, ℕ, suc, ◌+◌, List, [], ◌∷◌, ◌++◌, Bool, Option, None, Some, length, refl, sym, ap, ap₂, ◌∙◌, arith, length-append, append-nil, append_assoc}
use Rattle.std.specs.Prelude.{is_some}
use Rattle.cw_syntax.specs.declared.program.Name.{Name}
use Rattle.cw_syntax.specs.Names.{text, number_or_other}
use Rattle.cw_syntax.specs.Trees.{Tree, Statement, Stated, Block, Declares, Declaration, Evaluates, Empties, Labels, Chooses, Whiles, Does, Fors, Breaks, Continues, Returns, Perhaps, nothing}
use Rattle.cw_syntax.specs.Trees.{just, Statements, nil, cons}
use Rattle.cw_syntax.specs.Plans.{Scene, Computes, Opens, Closes, Invokes, Callee, action_of, place_if, steps_of, steps_of_all, seams, numbered, numbered_all}
use Rattle.cw_points.specs.declared.graph.Point.TheVariants as point
use Rattle.cw_points.specs.declared.graph.Node.{Node}
use Rattle.cw_points.specs.declared.graph.Seam.{Seam}
use Rattle.cw_points.specs.declared.draft.Ways.{Ways}
use Rattle.cw_points.specs.Points.{one_if, one_if_some, count}
use Rattle.cw_points.specs.Graphs.{node, step, branch, first, init_nodes, test_node, step_nodes, test_of, turn_of, nodes_in, nodes_in_all, seam, seams_in, seams_in_all}
use Rattle.cw_points.specs.Sizes.{size, size_all}
use Rattle.cw_points.specs.Drawing.{Drawn, more, with_nodes, with_node, with_seam, looped, before, laid, laid_all}
use Rattle.cw_points.proofs.Drawn.{same_drawn, twice}
use Rattle.cw_points.proofs.Lengths.{size_is, size_all_is, nodes_length, seams_length, step_length}

module _ (c : Scene) (f : ℕ) where
  abbrev nodes_at : Statement → Ways → ℕ → ℕ → List Node
  nodes_at s w n j = nodes_in f (numbered (steps_of c s) j) n w.next w.exit w.broken w.continued

  abbrev seams_at : Statement → ℕ → ℕ → List Seam
  seams_at s n j = seams_in (numbered (steps_of c s) j) n

  sized : (s : Statement) (w : Ways) (n j : ℕ) → length (nodes_at s w n j) ≡ size s
  sized s w n j = nodes_length f (numbered (steps_of c s) j) n w.next w.exit w.broken w.continued ∙ size_is c s j

  -- one point
  pub laid_empty : (a b : ℕ) (w : Ways) (d : Drawn) → with_node (step f (Some w.next)) d ≡ laid c f (Stated Empties a b) w d
  unfolding with_nodes laid
  laid_empty a b w d = refl

  pub laid_declares : (e : Declaration) (a b : ℕ) (w : Ways) (d : Drawn) → with_node (step f (Some w.next)) d ≡ laid c f (Stated (Declares e) a b) w d
  unfolding with_nodes laid
  laid_declares e a b w d = refl

  pub laid_break : (a b : ℕ) (w : Ways) (d : Drawn) → with_node (step f w.broken) d ≡ laid c f (Stated Breaks a b) w d
  unfolding with_nodes laid
  laid_break a b w d = refl

  pub laid_continue : (a b : ℕ) (w : Ways) (d : Drawn) → with_node (step f w.continued) d ≡ laid c f (Stated Continues a b) w d
  unfolding with_nodes laid
  laid_continue a b w d = refl

  pub laid_return : (e : Option Tree) (a b : ℕ) (w : Ways) (d : Drawn) → with_node (step f (Some w.exit)) d ≡ laid c f (Stated (Returns e) a b) w d
  unfolding with_nodes laid
  laid_return e a b w d = refl

  -- an expression, by what it does
  pub laid_computes : (e : Tree) (a b : ℕ) (w : Ways) (d : Drawn) → action_of c e ≡ Computes → with_node (step f (Some w.next)) d ≡ laid c f (Stated (Evaluates e) a b) w d
  unfolding with_nodes laid
  laid_computes e a b w d h = rw h refl

  pub laid_opens : (e : Tree) (a b : ℕ) (w : Ways) (d : Drawn) (i : ℕ) → action_of c e ≡ Opens i → with_seam (point.Open i) f w.next a None d ≡ laid c f (Stated (Evaluates e) a b) w d
  unfolding with_seam laid
  laid_opens e a b w d i h = rw h refl

  pub laid_closes : (e : Tree) (a b : ℕ) (w : Ways) (d : Drawn) (i : ℕ) → action_of c e ≡ Closes i → with_seam (point.Close i) f w.next a None d ≡ laid c f (Stated (Evaluates e) a b) w d
  unfolding with_seam laid
  laid_closes e a b w d i h = rw h refl

  pub laid_invokes : (e : Tree) (a b : ℕ) (w : Ways) (d : Drawn) (callee : Callee) → action_of c e ≡ Invokes callee
      → with_seam (point.Call callee.number) f w.next a callee.result d ≡ laid c f (Stated (Evaluates e) a b) w d
  unfolding with_seam laid
  laid_invokes e a b w d callee h = rw h refl

  pub laid_block : (ss : Statements) (a b : ℕ) (w : Ways) (d : Drawn) → laid_all c f ss w d ≡ laid c f (Stated (Block ss) a b) w d
  unfolding laid_all laid
  laid_block ss a b w d = refl

  pub laid_label : (name : Name) (mark : ℕ) (s : Statement) (a b : ℕ) (w : Ways) (d : Drawn) →
      laid c f s w (with_seam (point.Label (number_or_other c.names.labels (text c.source name))) f (first (size s) (length d.nodes + 1) w.next) mark None d)
      ≡ laid c f (Stated (Labels name mark s) a b) w d
  unfolding with_seam laid
  laid_label name mark s a b w d =
      let l = number_or_other c.names.labels (text c.source name) in
      let n = length d.nodes in
      let j = length d.seams in
      twice (λ n' j. node (point.Label l) f (Some (first (size s) (n + 1) w.next)) (Some j) ∷ []) (λ n j. seam n mark None ∷ []) (nodes_at s w) (seams_at s) 1 1 d refl refl
      ∙ same_drawn (ap (λ z. d.nodes ++ (node (point.Label l) f (Some (first z (n + 1) w.next)) (Some j) ∷ nodes_at s w (n + 1) (j + 1))) (sym (size_is c s (j + 1)))) refl

  pub laid_if : (t : Tree) (s : Statement) (a b : ℕ) (w : Ways) (d : Drawn) →
      laid c f s w (with_node (branch f (first (size s) (length d.nodes + 1) w.next) w.next) d) ≡ laid c f (Stated (Chooses t s nothing) a b) w d
  unfolding with_nodes laid
  laid_if t s a b w d =
      let n = length d.nodes in
      let j = length d.seams in
      twice (λ n' j. branch f (first (size s) (n + 1) w.next) w.next ∷ []) (λ n j. []) (nodes_at s w) (seams_at s) 1 0 d refl refl
      ∙ same_drawn
      (ap (λ y. d.nodes ++ (branch f (first (size s) (n + 1) w.next) w.next ∷ nodes_at s w (n + 1) y)) (add_zero j)
      ∙ ap₂ (λ z l. d.nodes ++ (branch f (first z (n + 1) w.next) w.next ∷ l)) (sym (size_is c s j)) (sym (append-nil (nodes_at s w (n + 1) j))))
      (ap (λ y. d.seams ++ seams_at s (n + 1) y) (add_zero j) ∙ ap (λ l. d.seams ++ l) (sym (append-nil (seams_at s (n + 1) j))))
    where
      add_zero : (j : ℕ) → j + 0 ≡ j
      add_zero j = omega arith

  pub laid_choice : (q : Tree) (s t : Statement) (a b : ℕ) (w : Ways) (d : Drawn) →
      laid c f t w (laid c f s w (with_node (branch f (first (size s) (length d.nodes + 1) w.next) (first (size t) (length d.nodes + 1 + size s) w.next)) d))
      ≡ laid c f (Stated (Chooses q s (just t)) a b) w d
  unfolding with_nodes laid
  laid_choice q s t a b w d =
      let n = length d.nodes in
      let j = length d.seams in
      let k = w.next in
      let e = size_is c s j in
      let e' = size_is c t (j + seams (steps_of c s)) in
      let head = branch f (first (size s) (n + 1) k) (first (size t) (n + 1 + size s) k) in
      let z : j + 0 ≡ j = omega arith in
      ap (laid c f t w) (twice (λ n j. head ∷ []) (λ n j. []) (nodes_at s w) (seams_at s) 1 0 d refl refl
      ∙ same_drawn (ap (λ y. d.nodes ++ (head ∷ nodes_at s w (n + 1) y)) z) (ap (λ y. d.seams ++ seams_at s (n + 1) y) z))
      ∙ twice (λ n' j'. head ∷ nodes_at s w (n + 1) j) (λ n' j'. seams_at s (n + 1) j) (nodes_at t w) (seams_at t) (suc (size s)) (seams (steps_of c s)) d (ap suc (sized s w (n + 1) j))
      (seams_length (steps_of c s) j (n + 1))
      ∙ same_drawn
      (ap₂ (λ y z. d.nodes ++ (branch f (first y (n + 1) k) (first z (n + 1 + y) k) ∷ (nodes_at s w (n + 1) j ++ nodes_at t w (n + suc (size s)) (j + seams (steps_of c s))))) (sym e) (sym e')
      ∙ ap (λ m. d.nodes ++ (branch f (first (count (numbered (steps_of c s) j)) (n + 1) k)
      (first (count (numbered (steps_of c t) (j + seams (steps_of c s)))) (n + 1 + count (numbered (steps_of c s) j)) k) ∷
      (nodes_at s w (n + 1) j ++ nodes_at t w m (j + seams (steps_of c s))))) (place n (size s) (count (numbered (steps_of c s) j)) e))
      (ap (λ m. d.seams ++ (seams_at s (n + 1) j ++ seams_at t m (j + seams (steps_of c s)))) (place n (size s) (count (numbered (steps_of c s) j)) e))
    where
      place : (n a b : ℕ) → b ≡ a → n + suc a ≡ n + 1 + b
      place n a b e = omega (arith, e)

  pub laid_while : (q : Tree) (s : Statement) (a b : ℕ) (w : Ways) (d : Drawn) →
      laid c f s (looped w (length d.nodes)) (with_node (branch f (first (size s) (length d.nodes + 1) (length d.nodes)) w.next) d) ≡ laid c f (Stated (Whiles q s) a b) w d
  unfolding with_nodes laid
  laid_while q s a b w d =
      let n = length d.nodes in
      let j = length d.seams in
      let v = looped w n in
      let z : j + 0 ≡ j = omega arith in
      twice (λ n' j. branch f (first (size s) (n + 1) n) w.next ∷ []) (λ n j. []) (nodes_at s v) (seams_at s) 1 0 d refl refl
      ∙ same_drawn
      (ap₂ (λ y m. d.nodes ++ (branch f (first m (n + 1) n) w.next ∷ nodes_at s v (n + 1) y)) z (sym (size_is c s j)))
      (ap (λ y. d.seams ++ seams_at s (n + 1) y) z)

  pub laid_do : (q : Tree) (s : Statement) (a b : ℕ) (w : Ways) (d : Drawn) →
      with_node (branch f (length d.nodes) w.next) (laid c f s (looped w (length d.nodes + size s)) d) ≡ laid c f (Stated (Does s q) a b) w d
  unfolding with_nodes laid
  laid_do q s a b w d =
      let n = length d.nodes in
      let j = length d.seams in
      let v = looped w (n + size s) in
      twice (nodes_at s v) (seams_at s) (λ n' j. branch f n w.next ∷ []) (λ n j. []) (size s) (seams (steps_of c s)) d (sized s v n j) (seams_length (steps_of c s) j n)
      ∙ same_drawn
      (ap (λ m. d.nodes ++ (nodes_at s (looped w (n + m)) n j ++ branch f n w.next ∷ [])) (sym (size_is c s j)))
      (ap (λ l. d.seams ++ l) (append-nil (seams_at s n j)))

  -- the head of a `for`, and the body behind it
  init_is : (init : Option ℕ) (t : ℕ) → step_nodes f (is_some init) t ≡ init_nodes f init t
  init_is None t = refl
  init_is (Some at) t = refl

  one_some : (init : Option ℕ) → one_if (is_some init) ≡ one_if_some init
  one_some None = refl
  one_some (Some at) = refl

  headed : (ms ns : List Node) (d : Drawn) → with_nodes ns (with_nodes ms d) ≡ with_nodes (ms ++ ns) d
  unfolding with_nodes
  headed ms ns d = twice (λ n j. ms) (λ n j. []) (λ n j. ns) (λ n j. []) (length ms) 0 d refl refl

  behind_head : (ms : List Node) (m : ℕ) (s : Statement) (w : Ways) (d : Drawn) → length ms ≡ m
      → laid c f s w (with_nodes ms d) ≡ more (λ n j. ms ++ nodes_at s w (n + m) j) (λ n j. seams_at s (n + m) j) d
  unfolding with_nodes laid
  behind_head ms m s w d e =
      let n = length d.nodes in
      let j = length d.seams in
      let z : j + 0 ≡ j = omega arith in
      twice (λ n j. ms) (λ n j. []) (nodes_at s w) (seams_at s) m 0 d e refl
      ∙ same_drawn (ap (λ y. d.nodes ++ (ms ++ nodes_at s w (n + m) y)) z) (ap (λ y. d.seams ++ seams_at s (n + m) y) z)

  pub laid_for : (init : Perhaps) (test step : Option Tree) (s : Statement) (a b : ℕ) (w : Ways) (d : Drawn) (begun decided stepped : Bool) (t u : ℕ) →
      begun ≡ is_some (place_if init) → decided ≡ is_some test → stepped ≡ is_some step → t ≡ length d.nodes + one_if begun → u ≡ t + one_if stepped →
      laid c f s (looped w u) (with_nodes (step_nodes f stepped t) (with_node (test_node f decided (first (size s) (u + 1) u) w.next) (with_nodes (step_nodes f begun t) d)))
      ≡ laid c f (Stated (Fors init test step s) a b) w d
  unfolding laid
  laid_for init test step s a b w d begun decided stepped t u eb ed es et eu =
      let n = length d.nodes in
      let j = length d.seams in
      let i = place_if init in
      let it = is_some test in
      let st = is_some step in
      let t' = test_of n i in
      let u' = turn_of n i st in
      let v = looped w u in
      let is = step_nodes f begun t in
      let ts = test_node f decided (first (size s) (u + 1) u) w.next ∷ [] in
      let ss = step_nodes f stepped t in
      let m = one_if begun + 1 + one_if stepped in
      let tt : t ≡ t' = et ∙ ap (λ x. n + x) (ap one_if eb ∙ one_some i) in
      let uu : u ≡ u' = eu ∙ ap₂ (λ x y. x + y) tt (ap one_if es) in
      let long : length ((is ++ ts) ++ ss) ≡ m = omega (arith, length-append (is ++ ts) ss, length-append is ts, step_length f begun t, step_length f stepped t) in
      let at : n + m ≡ u + 1 = omega (arith, et, eu) in
      ap (laid c f s v) (ap (with_nodes ss) (headed is ts d) ∙ headed (is ++ ts) ss d)
      ∙ behind_head ((is ++ ts) ++ ss) m s v d long
      ∙ same_drawn
      (ap (λ x. d.nodes ++ (((is ++ ts) ++ ss) ++ nodes_at s v x j)) at
      ∙ ap (λ l. d.nodes ++ l) (append_assoc (is ++ ts) ss (nodes_at s v (u + 1) j) ∙ append_assoc is ts (ss ++ nodes_at s v (u + 1) j))
      ∙ ap (λ p. d.nodes ++ (step_nodes f p t ++ (test_node f decided (first (size s) (u + 1) u) w.next ∷ (ss ++ nodes_at s v (u + 1) j)))) eb
      ∙ ap (λ l. d.nodes ++ (l ++ (test_node f decided (first (size s) (u + 1) u) w.next ∷ (ss ++ nodes_at s v (u + 1) j)))) (init_is i t)
      ∙ ap₂ (λ p q. d.nodes ++ (init_nodes f i t ++ (test_node f p (first (size s) (u + 1) u) w.next ∷ (step_nodes f q t ++ nodes_at s v (u + 1) j)))) ed es
      ∙ ap₂ (λ x y. d.nodes ++ (init_nodes f i x ++ (test_node f it (first (size s) (y + 1) y) w.next ∷ (step_nodes f st x ++ nodes_at s (looped w y) (y + 1) j)))) tt uu
      ∙ ap (λ x. d.nodes ++ (init_nodes f i t' ++ (test_node f it (first x (u' + 1) u') w.next ∷ (step_nodes f st t' ++ nodes_at s (looped w u') (u' + 1) j)))) (sym (size_is c s j)))
      (ap (λ x. d.seams ++ seams_at s x j) (at ∙ ap (λ y. y + 1) uu))

  -- one more statement of a list, and the end of a list
  pub laid_one_more : (s : Statement) (ss : Statements) (w : Ways) (d : Drawn) →
      laid_all c f ss w (laid c f s (before w (first (size_all ss) (length d.nodes + size s) w.next)) d) ≡ laid_all c f (cons s ss) w d
  unfolding laid laid_all
  laid_one_more s ss w d =
      let n = length d.nodes in
      let j = length d.seams in
      let i = seams (steps_of c s) in
      let v = before w (first (size_all ss) (n + size s) w.next) in
      twice (nodes_at s v) (seams_at s) (λ n j. nodes_in_all f (numbered_all (steps_of_all c ss) j) n w.next w.exit w.broken w.continued)
      (λ n j. seams_in_all (numbered_all (steps_of_all c ss) j) n) (size s) i d (sized s v n j) (seams_length (steps_of c s) j n)
      ∙ same_drawn
      (ap₂ (λ x y. d.nodes ++ (nodes_at s (before w (first y (n + x) w.next)) n j ++ nodes_in_all f (numbered_all (steps_of_all c ss) (j + i)) (n + x) w.next w.exit w.broken w.continued))
      (sym (size_is c s j)) (sym (size_all_is c ss (j + i))))
      (ap (λ x. d.seams ++ (seams_at s n j ++ seams_in_all (numbered_all (steps_of_all c ss) (j + i)) (n + x))) (sym (size_is c s j)))

  pub laid_no_more : (w : Ways) (d : Drawn) → laid_all c f nil w d ≡ d
  unfolding laid_all
  laid_no_more w d = same_drawn (append-nil d.nodes) (append-nil d.seams)

  -- how many points and seams are drawn then
  pub laid_nodes : (s : Statement) (w : Ways) (d : Drawn) → length (laid c f s w d).nodes ≡ length d.nodes + size s
  unfolding laid
  laid_nodes s w d = length-append d.nodes (nodes_at s w (length d.nodes) (length d.seams)) ∙ ap (λ m. length d.nodes + m) (sized s w (length d.nodes) (length d.seams))
