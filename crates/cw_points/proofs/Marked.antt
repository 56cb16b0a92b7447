-- The marks that a graph's seams give are those of its plan.
use Rattle.std.proofs.Common.{◌≡◌, ℕ, ◌+◌, ◌<◌, ◌≤◌, List, [], ◌∷◌, ◌++◌, length, map, Option, Some, None, refl, sym, ap, ap₂, ◌∙◌, subst, append-nil, length-append, drop}
use Rattle.std.proofs.Common.{get_or, drop-cons, add-one, arith}
use Rattle.std.specs.Prelude.{slice_get, option_and_then, option_map}
use Rattle.std.proofs.lemmas.List.{drop_all}
use Rattle.cw_syntax.specs.declared.marks.SeamMark.{SeamMark as MarkData}
use Rattle.std.specs.List.{filter_map, cons_option}
use Rattle.std.proofs.lemmas.List.Elements.{filter_map-append}
use Rattle.cw_syntax.specs.Names.{Names}
use Rattle.cw_syntax.specs.Trees.{File}
use Rattle.cw_syntax.specs.Plans.{Stm, Plain, Break, Continue, Return, Open, Close, Call, Group, Label, If, While, Do, For, Stms, end, then, Routine, plan_of}
use Rattle.cw_syntax.specs.Marks.{EntryMark, LabelMark, OpenMark, CloseMark, CallMark, SeamMark, mark_of, marks_in, marks_in_all, marks_from, marks_of}
use Rattle.cw_points.specs.declared.graph.Point.TheVariants as point
use Rattle.cw_points.specs.declared.graph.Node.{Node}
use Rattle.cw_points.specs.declared.graph.Seam.{Seam}
use Rattle.cw_points.specs.declared.graph.Graph.{Graph}
use Rattle.cw_points.specs.Points.{one_if, one_if_some, count, count_all}
use Rattle.cw_points.specs.Graphs.{node, branch, first, init_nodes, step_nodes, turns, test_of, turn_of, nodes_in, nodes_in_all, exit_of, nodes_of, nodes_from, nodes, seam, seams_in}
use Rattle.cw_points.specs.Graphs.{seams_in_all, seams_from, IsGraph}
use Rattle.cw_points.specs.Marking.{mark, mark_at, mark_in, marks_by}
use Rattle.cw_points.proofs.Held.{HasAt, has_front, has_behind, has_all}
use Rattle.cw_points.proofs.Lengths.{nodes_length, nodes_length_all, init_length, step_length}

module _ (g : List Node) where
  -- the mark of a seam whose point stands at its number
  marked : (sm : Seam) (nd : Node) (m : SeamMark) (rest : List Seam) → slice_get g sm.point.0 ≡ Some nd → mark_at nd sm ≡ Some m → filter_map (mark_in g) (sm ∷ rest) ≡ m ∷ filter_map (mark_in g) rest
  marked sm nd m rest e h = ap (λ o. cons_option o (filter_map (mark_in g) rest)) (ap (option_and_then (λ node. mark_at node sm)) e ∙ h)

  mutual
    marks_are : (f : ℕ) (s : Stm) (n k x : ℕ) (b c : Option ℕ) → HasAt g n (nodes_in f s n k x b c) → filter_map (mark_in g) (seams_in s n) ≡ marks_in s
    marks_are f (Plain at) n k x b c h = refl
    marks_are f (Break at) n k x b c h = refl
    marks_are f (Continue at) n k x b c h = refl
    marks_are f (Return at) n k x b c h = refl
    marks_are f (Open at j d) n k x b c h = marked (seam n at None) (node (point.Open d) f (Some k) (Some j)) (mark at j (OpenMark d)) [] h.0 refl
    marks_are f (Close at j d) n k x b c h = marked (seam n at None) (node (point.Close d) f (Some k) (Some j)) (mark at j CloseMark) [] h.0 refl
    marks_are f (Call at j callee) n k x b c h = marked (seam n at callee.result) (node (point.Call callee.number) f (Some k) (Some j)) (mark at j (CallMark callee.result)) [] h.0 refl
    marks_are f (Group ss) n k x b c h = marks_are_all f ss n k x b c h
    marks_are f (Label at place j l s) n k x b c h =
        marked (seam n place None) (node (point.Label l) f (Some (first (count s) (n + 1) k)) (Some j)) (mark place j LabelMark) (seams_in s (n + 1)) h.0 refl
        ∙ ap (λ ms. mark place j LabelMark ∷ ms) (marks_are f s (n + 1) k x b c h.1)
    marks_are f (If at s t) n k x b c h =
        let l = nodes_in f s (n + 1) k x b c in
        let r = nodes_in f t (n + 1 + count s) k x b c in
        filter_map-append (mark_in g) (seams_in s (n + 1)) (seams_in t (n + 1 + count s))
        ∙ ap₂ (λ a b. a ++ b) (marks_are f s (n + 1) k x b c (has_front g (n + 1) l r h.1))
        (marks_are f t (n + 1 + count s) k x b c (has_behind g (n + 1) (count s) l r (nodes_length f s (n + 1) k x b c) h.1))
    marks_are f (While at s) n k x b c h = marks_are f s (n + 1) n x (Some k) (Some n) h.1
    marks_are f (Do at s) n k x b c h =
        let t = n + count s in
        marks_are f s n t x (Some k) (Some t) (has_front g n (nodes_in f s n t x (Some k) (Some t)) (branch f n k ∷ []) h)
    marks_are f (For at init decided stepped s) n k x b c h =
        let t = test_of n init in
        let u = turn_of n init stepped in
        let body = nodes_in f s (u + 1) u x (Some k) (Some u) in
        let st = step_nodes f stepped t in
        let test = has_behind g n (one_if_some init) (init_nodes f init t) (turns f decided stepped (first (count s) (u + 1) u) k t body) (init_length f init t) h in
        let behind = has_behind g (t + 1) (one_if stepped) st body (step_length f stepped t) test.1 in
        let e : t + 1 + one_if stepped ≡ u + 1 = omega arith in
        marks_are f s (u + 1) u x (Some k) (Some u) (subst (λ p. HasAt g p body) e behind)

    marks_are_all : (f : ℕ) (ss : Stms) (n k x : ℕ) (b c : Option ℕ) → HasAt g n (nodes_in_all f ss n k x b c) → filter_map (mark_in g) (seams_in_all ss n) ≡ marks_in_all ss
    marks_are_all f end n k x b c h = refl
    marks_are_all f (then s ss) n k x b c h =
        let m = first (count_all ss) (n + count s) k in
        let l = nodes_in f s n m x b c in
        let r = nodes_in_all f ss (n + count s) k x b c in
        filter_map-append (mark_in g) (seams_in s n) (seams_in_all ss (n + count s))
        ∙ ap₂ (λ a b. a ++ b) (marks_are f s n m x b c (has_front g n l r h))
        (marks_are_all f ss (n + count s) k x b c (has_behind g n (count s) l r (nodes_length f s n m x b c) h))

  marks_from_are : (f : ℕ) (rs : List Routine) (n : ℕ) → HasAt g n (nodes_from f rs n) → filter_map (mark_in g) (seams_from rs n) ≡ marks_from rs
  marks_from_are f [] n h = refl
  marks_from_are f (r ∷ rs) n h =
      let x = exit_of r n in
      let body = nodes_in_all f r.body (n + 1) x x None None in
      let exit = node point.Exit f None None ∷ [] in
      let own = nodes_of f r n in
      let rest = nodes_from (f + 1) rs (x + 1) in
      let mine = has_front g n own rest h in
      let long : length own ≡ 1 + (count_all r.body + 1) = omega (arith, length-append body exit, nodes_length_all f r.body (n + 1) x x None None) in
      let e : n + (1 + (count_all r.body + 1)) ≡ x + 1 = omega arith in
      let others = subst (λ p. HasAt g p rest) e (has_behind g n (1 + (count_all r.body + 1)) own rest long h) in
      marked (seam n r.mark None) (node point.Entry f (Some (first (count_all r.body) (n + 1) x)) (Some r.seam)) (mark r.mark r.seam EntryMark)
      (seams_in_all r.body (n + 1) ++ seams_from rs (x + 1)) mine.0 refl
      ∙ ap (λ ms. mark r.mark r.seam EntryMark ∷ ms)
      (filter_map-append (mark_in g) (seams_in_all r.body (n + 1)) (seams_from rs (x + 1))
      ∙ ap₂ (λ a b. a ++ b) (marks_are_all f r.body (n + 1) x x None None (has_front g (n + 1) body exit mine.1)) (marks_from_are (f + 1) rs (x + 1) others))

pub marks_of_graph : (names : Names) (source : List ℕ) (file : File) (g : Graph) → IsGraph names source file g → marks_by g.nodes.items g.seams.items ≡ marks_of (plan_of names source file)
unfolding marks_by
marks_of_graph names source file g h =
    let rs = (plan_of names source file).routines in
    let ns = nodes (plan_of names source file) in
    ap₂ (λ n s. filter_map (mark_in n) s) h.nodes h.seams ∙ marks_from_are ns 0 rs 0 (has_all ns [])

-- one seam more, whose mark was put where it has one
pub one_mark : (ns ns' : List Node) (ss ss' : List Seam) (i : ℕ) (other : Seam) (o : Option MarkData) (ms ms' : List MarkData) (all : List SeamMark) → ns' ≡ ns → ss' ≡ ss → i < length ss' →
    option_map mark_of o ≡ mark_in ns' (get_or ss' i other) → ms' ≡ ms ++ cons_option o [] →
    map mark_of ms ++ marks_by ns (drop i ss) ≡ all → map mark_of ms' ++ marks_by ns (drop (i + 1) ss) ≡ all
unfolding marks_by
one_mark ns ns' ss ss' i other o ms ms' all en es lt eo em inv =
    let rest = filter_map (mark_in ns) (drop (i + 1) ss) in
    let within : i < length ss = omega (arith, ap length es) in
    let d : drop i ss ≡ get_or ss i other ∷ drop (i + 1) ss = drop-cons ss i other within ∙ ap (λ z. get_or ss i other ∷ drop z ss) (sym (add-one i)) in
    let here : option_map mark_of o ≡ mark_in ns (get_or ss i other) = eo ∙ ap₂ (λ n s. mark_in n (get_or s i other)) en es in
    ap (λ l. map mark_of l ++ rest) em
    ∙ put ms o rest
    ∙ ap (λ m. map mark_of ms ++ cons_option m rest) here
    ∙ sym (ap (λ l. map mark_of ms ++ filter_map (mark_in ns) l) d)
    ∙ inv
  where
    put : (ms : List MarkData) (o : Option MarkData) (rest : List SeamMark) → map mark_of (ms ++ cons_option o []) ++ rest ≡ map mark_of ms ++ cons_option (option_map mark_of o) rest
    put [] None rest = refl
    put [] (Some m) rest = refl
    put (m ∷ ms) o rest = ap (λ l. mark_of m ∷ l) (put ms o rest)

pub no_mark : (ns : List Node) (ss ss' : List Seam) (i : ℕ) (ms : List SeamMark) → ss' ≡ ss → length ss' ≤ i → ms ++ marks_by ns (drop i ss) ≡ ms
unfolding marks_by
no_mark ns ss ss' i ms es out = ap (λ l. ms ++ filter_map (mark_in ns) l) (drop_all i ss (omega (arith, out, ap length es))) ∙ append-nil ms
