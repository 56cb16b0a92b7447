-- What a function adds to a graph.
use Rattle.std.proofs.Common.{◌≡◌, ◌<◌, ℕ, suc, ◌+◌, List, [], ◌∷◌, ◌++◌, None, Some, length, map, drop, get_or, refl, sym, ap, ap₂, ◌∙◌, arith, length-append, append-nil, append_assoc}
use Rattle.std.proofs.Common.{drop-cons, add-one}
use Rattle.cw_syntax.specs.declared.program.Function.{Function}
use Rattle.cw_syntax.specs.Trees.{Definition, definition_of}
use Rattle.cw_syntax.specs.Plans.{Scene, steps_of_all, seams_all, numbered_all, routines_from}
use Rattle.cw_points.specs.declared.graph.Point.TheVariants as point
use Rattle.cw_points.specs.declared.graph.Node.{Node}
use Rattle.cw_points.specs.declared.graph.Seam.{Seam}
use Rattle.cw_points.specs.declared.graph.Part.{Part}
use Rattle.cw_points.specs.declared.draft.Ways.{Ways}
use Rattle.cw_points.specs.Graphs.{node, first, nodes_in_all, nodes_of, nodes_from, exit_of, seam, seams_in_all, seams_from, part, parts_from}
use Rattle.cw_points.specs.Sizes.{size_all}
use Rattle.cw_points.specs.Drawing.{Drawn, nothing_drawn, with_nodes, with_node, with_seam, laid_all, laid_one, laid_from, routine_of, split_of, parted}
use Rattle.cw_points.proofs.Drawn.{same_drawn, twice}
use Rattle.cw_points.proofs.Lengths.{size_all_is, nodes_length_all, seams_length_all}

abbrev pub function_ways : ℕ → Ways
function_ways exit = record { next = exit; exit = exit; broken = None; continued = None }

module _ (c : Scene) (f : ℕ) (def : Definition) where
  abbrev body_nodes : ℕ → ℕ → ℕ → List Node
  body_nodes x n j = nodes_in_all f (numbered_all (steps_of_all c def.body) j) n x x None None

  abbrev body_seams : ℕ → ℕ → List Seam
  body_seams n j = seams_in_all (numbered_all (steps_of_all c def.body) j) n

  body_length : (x n j : ℕ) → length (body_nodes x n j) ≡ size_all def.body
  body_length x n j = nodes_length_all f (numbered_all (steps_of_all c def.body) j) n x x None None ∙ size_all_is c def.body j

  pub laid_function : (d : Drawn) (at size exit start : ℕ) (w : Ways) (begun done new : Drawn) → at ≡ length d.nodes → size ≡ size_all def.body → exit ≡ at + 1 + size
      → start ≡ first size (at + 1) exit → w ≡ function_ways exit →
      begun ≡ with_seam point.Entry f start def.brace None d → done ≡ laid_all c f def.body w begun → new ≡ with_node (node point.Exit f None None) done → new ≡ laid_one c f def d
  unfolding with_nodes with_seam laid_all laid_one
  laid_function d at size exit start w begun done new ea es ex et ew eb ed en =
      let n = length d.nodes in
      let j = length d.seams in
      let x = n + 1 + size_all def.body in
      let x' = exit_of (routine_of c j def) n in
      let z = size_all_is c def.body (j + 1) in
      let xx : x ≡ x' = ap (λ m. n + 1 + m) (sym z) in
      let ee : exit ≡ x = ex ∙ ap₂ (λ a s. a + 1 + s) ea es in
      let ss : start ≡ first (size_all def.body) (n + 1) x = et ∙ ap₂ (λ s a. first s (a + 1) exit) es ea ∙ ap (first (size_all def.body) (n + 1)) ee in
      let entry = node point.Entry f (Some (first (size_all def.body) (n + 1) x)) (Some j) in
      en
      ∙ ap (with_node (node point.Exit f None None)) (ed ∙ ap₂ (laid_all c f def.body) (ew ∙ ap function_ways ee) (eb ∙ ap (λ s. with_seam point.Entry f s def.brace None d) ss))
      ∙ ap (with_node (node point.Exit f None None)) (twice (λ n' j. node point.Entry f (Some (first (size_all def.body) (n + 1) x)) (Some j) ∷ []) (λ n j. seam n def.brace None ∷ [])
      (λ n j. body_nodes x n j) body_seams 1 1 d refl refl)
      ∙ twice (λ n' j'. entry ∷ body_nodes x (n + 1) (j + 1)) (λ n' j'. seam n def.brace None ∷ body_seams (n + 1) (j + 1)) (λ n j. node point.Exit f None None ∷ []) (λ n j. [])
      (suc (size_all def.body)) (suc (seams_all (steps_of_all c def.body))) d
      (ap suc (body_length x (n + 1) (j + 1))) (ap suc (seams_length_all (steps_of_all c def.body) (j + 1) (n + 1)))
      ∙ same_drawn
      (ap₂ (λ s x. d.nodes ++ (node point.Entry f (Some (first s (n + 1) x)) (Some j) ∷ (body_nodes x (n + 1) (j + 1) ++ node point.Exit f None None ∷ []))) (sym z) xx)
      (ap (λ l. d.seams ++ (seam n def.brace None ∷ l)) (append-nil (body_seams (n + 1) (j + 1))))

  one_nodes : (n j : ℕ) → length (nodes_of f (routine_of c j def) n) ≡ suc (suc (size_all def.body))
  one_nodes n j =
      let x = exit_of (routine_of c j def) n in
      omega (arith, length-append (body_nodes x (n + 1) (j + 1)) (node point.Exit f None None ∷ []), body_length x (n + 1) (j + 1))

  one_seams : (n j : ℕ) → length (seam n def.brace None ∷ body_seams (n + 1) (j + 1)) ≡ suc (seams_all (steps_of_all c def.body))
  one_seams n j = ap suc (seams_length_all (steps_of_all c def.body) (j + 1) (n + 1))

  pub one_length : (d : Drawn) → length (laid_one c f def d).nodes ≡ length d.nodes + suc (suc (size_all def.body))
  unfolding laid_one
  one_length d =
      let n = length d.nodes in
      let j = length d.seams in
      length-append d.nodes (nodes_of f (routine_of c j def) n) ∙ ap (λ l. n + l) (one_nodes n j)

  next_point : (n j : ℕ) → n + suc (suc (size_all def.body)) ≡ exit_of (routine_of c j def) n + 1
  next_point n j = omega (arith, size_all_is c def.body (j + 1))

  next_seam : (j : ℕ) → j + suc (seams_all (steps_of_all c def.body)) ≡ j + 1 + seams_all (steps_of_all c def.body)
  next_seam j = omega arith

  pub one_function : (fs : List Definition) (d : Drawn) → laid_from c (f + 1) fs (laid_one c f def d) ≡ laid_from c f (def ∷ fs) d
  unfolding laid_one laid_from
  one_function fs d =
      let n = length d.nodes in
      let j = length d.seams in
      let own = nodes_of f (routine_of c j def) n in
      let seams = seam n def.brace None ∷ body_seams (n + 1) (j + 1) in
      twice (λ n j. nodes_of f (routine_of c j def) n) (λ n j. seam n def.brace None ∷ body_seams (n + 1) (j + 1)) (λ n j. nodes_from (f + 1) (routines_from c j fs) n)
      (λ n j. seams_from (routines_from c j fs) n) (suc (suc (size_all def.body))) (suc (seams_all (steps_of_all c def.body))) d (one_nodes n j) (one_seams n j)
      ∙ same_drawn
      (ap₂ (λ m i. d.nodes ++ (own ++ nodes_from (f + 1) (routines_from c i fs) m)) (next_point n j) (next_seam j))
      (ap₂ (λ m i. d.seams ++ (seams ++ seams_from (routines_from c i fs) m)) (next_point n j) (next_seam j))

  pub one_part : (fs : List Definition) (d : Drawn) (ps : List Part) → parted c fs (laid_one c f def d)
      (ps ++ part (length d.nodes) (length d.nodes + 1 + size_all def.body) (split_of c def) ∷ []) ≡ parted c (def ∷ fs) d ps
  unfolding laid_one parted
  one_part fs d ps =
      let n = length d.nodes in
      let j = length d.seams in
      let own = nodes_of f (routine_of c j def) n in
      let seams = seam n def.brace None ∷ body_seams (n + 1) (j + 1) in
      let x = exit_of (routine_of c j def) n in
      let z : n + 1 + size_all def.body ≡ x = ap (λ m. n + 1 + m) (sym (size_all_is c def.body (j + 1))) in
      let m : length (d.nodes ++ own) ≡ x + 1 = length-append d.nodes own ∙ ap (λ l. n + l) (one_nodes n j) ∙ next_point n j in
      let i : length (d.seams ++ seams) ≡ j + 1 + seams_all (steps_of_all c def.body) = length-append d.seams seams ∙ ap (λ l. j + l) (one_seams n j) ∙ next_seam j in
      let splits = map (split_of c) fs in
      append_assoc ps (part n (n + 1 + size_all def.body) (split_of c def) ∷ []) (parts_from (routines_from c (length (d.seams ++ seams)) fs) splits (length (d.nodes ++ own)))
      ∙ ap (λ e. ps ++ (part n e (split_of c def) ∷ parts_from (routines_from c (length (d.seams ++ seams)) fs) splits (length (d.nodes ++ own)))) z
      ∙ ap₂ (λ a b. ps ++ (part n x (split_of c def) ∷ parts_from (routines_from c a fs) splits b)) i m

module _ (c : Scene) where
  pub no_function : (f : ℕ) (d : Drawn) → laid_from c f [] d ≡ d
  unfolding laid_from
  no_function f d = same_drawn (append-nil d.nodes) (append-nil d.seams)

  pub no_part : (d : Drawn) (ps : List Part) → parted c [] d ps ≡ ps
  unfolding parted
  no_part d ps = append-nil ps

  -- from nothing on
  pub all_nodes : (fs : List Definition) → (laid_from c 0 fs nothing_drawn).nodes ≡ nodes_from 0 (routines_from c 0 fs) 0
  unfolding laid_from
  all_nodes fs = refl

  pub all_seams : (fs : List Definition) → (laid_from c 0 fs nothing_drawn).seams ≡ seams_from (routines_from c 0 fs) 0
  unfolding laid_from
  all_seams fs = refl

  pub all_parts : (fs : List Definition) → parted c fs nothing_drawn [] ≡ parts_from (routines_from c 0 fs) (map (split_of c) fs) 0
  unfolding parted
  all_parts fs = refl

-- one more function of a list
pub one_definition : (fs : List Function) (f : Function) (i : ℕ) → i < length fs → f ≡ get_or fs i f → map definition_of (drop i fs) ≡ definition_of f ∷ map definition_of (drop (i + 1) fs)
one_definition fs f i lt is = ap (map definition_of) (drop-cons fs i f lt ∙ ap₂ (λ y z. y ∷ drop z fs) (sym is) (sym (add-one i)))
