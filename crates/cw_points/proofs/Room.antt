-- Where there is room for a statement's points there is room for those of its parts.
use Rattle.std.proofs.Common.{◌≡◌, ◌<◌, ◌≤◌, ℕ, suc, ◌+◌, ◌-◌, List, [], ◌∷◌, Bool, Option, None, Some, length, drop, get_or, refl, sym, ap, ◌∙◌, arith, length-append}
use Rattle.std.proofs.lemmas.List.{drop_all}
use Rattle.std.specs.Prelude.{is_some}
use Rattle.cw_syntax.specs.declared.program.Name.{Name}
use Rattle.cw_syntax.specs.declared.program.Stmt.{Stmt}
use Rattle.cw_syntax.specs.Trees.{Tree, Statement, Form, Block, Labels, Chooses, Whiles, Does, Fors, Perhaps, just, Statements, cons, Definition, form_of, statement_of, statements_of}
use Rattle.cw_syntax.specs.Plans.{Scene, place_if}
use Rattle.cw_points.specs.declared.graph.Point.{Point}
use Rattle.cw_points.specs.declared.graph.Point.TheVariants as point
use Rattle.cw_points.specs.declared.graph.Node.{Node}
use Rattle.cw_points.specs.declared.draft.Ways.{Ways}
use Rattle.cw_points.specs.Points.{one_if}
use Rattle.cw_points.specs.Graphs.{node, test_node, step_nodes}
use Rattle.cw_points.specs.Sizes.{size, size_of, size_all, size_from, capped}
use Rattle.cw_points.specs.Drawing.{Drawn, with_nodes, with_node, with_seam, laid, laid_one}
use Rattle.cw_points.proofs.Adding.{laid_nodes}
use Rattle.cw_points.proofs.Counting.{one_place, one_more}
use Rattle.cw_points.proofs.Functions.{one_length}
use Rattle.cw_points.proofs.Lengths.{step_length}

-- a count that is less than the cap is whole
pub whole : (n m k : ℕ) → n ≡ capped m → k + m ≤ 8192 → n ≡ m
whole n m k e h = omega (arith, e, h)

nodes_grow : (ns : List Node) (d : Drawn) → length (with_nodes ns d).nodes ≡ length d.nodes + length ns
unfolding with_nodes
nodes_grow ns d = length-append d.nodes ns

seam_grows : (what : Point) (f next place : ℕ) (taken : Option Name) (d : Drawn) → length (with_seam what f next place taken d).nodes ≡ length d.nodes + 1
unfolding with_seam
seam_grows what f next place taken d = length-append d.nodes (node what f (Some next) (Some (length d.seams)) ∷ [])

module _ (s : Stmt) (d : Drawn) (few : length d.nodes + size (statement_of s) ≤ 8192) where
  -- for the whole statement, by its form
  pub here : (form : Form) → form_of s.what ≡ form → length d.nodes + size_of form ≤ 8192
  here form e = omega (arith, few, ap size_of e)

  -- how many points its parts have
  pub label_part : (name : Name) (mark : ℕ) (body : Statement) → form_of s.what ≡ Labels name mark body → length d.nodes + size body ≤ 8192
  label_part name mark body e = omega (arith, here (Labels name mark body) e)

  pub arm_part : (t : Tree) (arm : Statement) (other : Perhaps) → form_of s.what ≡ Chooses t arm other → length d.nodes + size arm ≤ 8192
  arm_part t arm other e = omega (arith, here (Chooses t arm other) e)

  pub other_part : (t : Tree) (arm other : Statement) → form_of s.what ≡ Chooses t arm (just other) → length d.nodes + size other ≤ 8192
  other_part t arm other e = omega (arith, here (Chooses t arm (just other)) e)

  pub while_part : (t : Tree) (body : Statement) → form_of s.what ≡ Whiles t body → length d.nodes + size body ≤ 8192
  while_part t body e = omega (arith, here (Whiles t body) e)

  pub do_part : (t : Tree) (body : Statement) → form_of s.what ≡ Does body t → length d.nodes + size body ≤ 8192
  do_part t body e = omega (arith, here (Does body t) e)

  pub for_part : (init : Perhaps) (test step : Option Tree) (body : Statement) → form_of s.what ≡ Fors init test step body → length d.nodes + size body ≤ 8192
  for_part init test step body e = omega (arith, here (Fors init test step body) e)

  -- and where they are laid
  pub block_room : (ss ss' : Statements) → form_of s.what ≡ Block ss → ss' ≡ ss → length d.nodes + size_all ss' ≤ 8192
  block_room ss ss' e f = omega (arith, here (Block ss) e, ap size_all f)

  pub label_room : (f : ℕ) (name : Name) (mark : ℕ) (body body' : Statement) (l next : ℕ) (mid : Drawn) → form_of s.what ≡ Labels name mark body → body' ≡ body
      → mid ≡ with_seam (point.Label l) f next mark None d → length mid.nodes + size body' ≤ 8192
  label_room f name mark body body' l next mid e eb em =
      omega (arith, here (Labels name mark body) e, ap size eb, ap (λ (d : Drawn). length d.nodes) em, seam_grows (point.Label l) f next mark None d)

  pub arm_room : (t : Tree) (arm arm' : Statement) (other : Perhaps) (head : Node) (mid : Drawn) → form_of s.what ≡ Chooses t arm other → arm' ≡ arm
      → mid ≡ with_node head d → length mid.nodes + size arm' ≤ 8192
  arm_room t arm arm' other head mid e eb em =
      omega (arith, here (Chooses t arm other) e, ap size eb, ap (λ (d : Drawn). length d.nodes) em, nodes_grow (head ∷ []) d)

  pub other_room : (c : Scene) (f : ℕ) (w : Ways) (t : Tree) (arm arm' other other' : Statement) (head : Node) (mid mid' : Drawn) → form_of s.what ≡ Chooses t arm (just other)
      → arm' ≡ arm → other' ≡ other → mid ≡ with_node head d → mid' ≡ laid c f arm' w mid → length mid'.nodes + size other' ≤ 8192
  other_room c f w t arm arm' other other' head mid mid' e eb ec em en =
      omega (
        arith,
        here (Chooses t arm (just other)) e,
        ap size eb,
        ap size ec,
        ap (λ (d : Drawn). length d.nodes) em,
        nodes_grow (head ∷ []) d,
        ap (λ (d : Drawn). length d.nodes) en,
        laid_nodes c f arm' w mid,
      )

  pub while_room : (t : Tree) (body body' : Statement) (head : Node) (mid : Drawn) → form_of s.what ≡ Whiles t body → body' ≡ body
      → mid ≡ with_node head d → length mid.nodes + size body' ≤ 8192
  while_room t body body' head mid e eb em =
      omega (arith, here (Whiles t body) e, ap size eb, ap (λ (d : Drawn). length d.nodes) em, nodes_grow (head ∷ []) d)

  pub for_room : (f : ℕ) (init : Perhaps) (test step : Option Tree) (body body' : Statement) (begun decided stepped : Bool) (from next : ℕ) (mid : Drawn)
      → form_of s.what ≡ Fors init test step body → body' ≡ body → begun ≡ is_some (place_if init) → stepped ≡ is_some step
      → ((t : ℕ) → t ≡ length d.nodes + one_if begun → mid ≡ with_nodes (step_nodes f stepped t) (with_node (test_node f decided from next) (with_nodes (step_nodes f begun t) d)))
      → length mid.nodes + size body' ≤ 8192
  for_room f init test step body body' begun decided stepped from next mid e eb eg es em =
      let t = length d.nodes + one_if begun in
      let a = with_nodes (step_nodes f begun t) d in
      let b = with_node (test_node f decided from next) a in
      omega (
        arith,
        here (Fors init test step body) e,
        ap size eb,
        one_place (place_if init),
        ap one_if eg,
        ap one_if es,
        ap (λ (d : Drawn). length d.nodes) (em t refl),
        nodes_grow (step_nodes f stepped t) b,
        step_length f stepped t,
        nodes_grow (test_node f decided from next ∷ []) a,
        nodes_grow (step_nodes f begun t) d,
        step_length f begun t,
      )

-- how many points the parts of a statement have that has so many
module _ (s : Stmt) (own : ℕ) (is : own ≡ size (statement_of s)) where
  pub one_less : (form : Form) (n : ℕ) → form_of s.what ≡ form → size_of form ≡ suc n → own - 1 ≡ n
  one_less form n e f = omega (arith, is, ap size_of e, f)

  pub own_less : (form : Form) (part part' : Statement) → form_of s.what ≡ form → size_of form ≡ suc (size part) → part' ≡ part → own - 1 ≡ size part'
  own_less form part part' e f g = one_less form (size part) e f ∙ sym (ap size g)

  pub other_left : (t : Tree) (arm other : Statement) (n : ℕ) → form_of s.what ≡ Chooses t arm (just other) → n ≡ size arm → own - 1 - n ≡ size other
  other_left t arm other n e f = omega (arith, is, ap size_of e, f)

  pub block_own : (ss ss' : Statements) → form_of s.what ≡ Block ss → ss' ≡ ss → own ≡ size_all ss'
  block_own ss ss' e f = omega (arith, is, ap size_of e, ap size_all f)

  pub other_own : (t : Tree) (arm other other' : Statement) (n : ℕ) (d : Drawn) → length d.nodes + size (statement_of s) ≤ 8192 → form_of s.what ≡ Chooses t arm (just other)
      → n ≡ capped (size arm) → other' ≡ other → own - 1 - n ≡ size other'
  other_own t arm other other' n d few e f g = other_left t arm other n e (whole n (size arm) (length d.nodes) f (arm_part s d few t arm (just other) e)) ∙ sym (ap size g)

-- those that are counted
pub arm_own : (s : Stmt) (d : Drawn) → length d.nodes + size (statement_of s) ≤ 8192 → (t : Tree) (arm arm' : Statement) (other : Perhaps) (n : ℕ) → form_of s.what ≡ Chooses t arm other
    → n ≡ capped (size arm) → arm' ≡ arm → n ≡ size arm'
arm_own s d few t arm arm' other n e f g = whole n (size arm) (length d.nodes) f (arm_part s d few t arm other e) ∙ sym (ap size g)

pub for_own : (s : Stmt) (d : Drawn) → length d.nodes + size (statement_of s) ≤ 8192 → (init : Perhaps) (test step : Option Tree) (body body' : Statement) (n : ℕ) →
    form_of s.what ≡ Fors init test step body → n ≡ capped (size body) → body' ≡ body → n ≡ size body'
for_own s d few init test step body body' n e f g = whole n (size body) (length d.nodes) f (for_part s d few init test step body e) ∙ sym (ap size g)

-- the last of some statements has what is left
pub last_own : (ss : List Stmt) (s : Stmt) (i left : ℕ) → i < length ss → s ≡ get_or ss i s → i + 1 ≡ length ss → left ≡ size_all (statements_of (drop i ss)) → left ≡ size (statement_of s)
last_own ss s i left lt is last all =
    let none : drop (i + 1) ss ≡ [] = drop_all (i + 1) ss (omega (arith, last)) in
    omega (arith, all, ap size_all (one_more ss s i lt is), ap (λ l. size_all (statements_of l)) none)

-- for the first of some statements, and for the rest behind it
pub first_room : (d : Drawn) (s : Statement) (rest all : Statements) → all ≡ cons s rest → length d.nodes + size_all all ≤ 8192 → length d.nodes + size s ≤ 8192
first_room d s rest all e h = omega (arith, h, ap size_all e)

pub rest_room : (c : Scene) (f : ℕ) (w : Ways) (d new : Drawn) (s : Statement) (rest all : Statements) → all ≡ cons s rest → new ≡ laid c f s w d
    → length d.nodes + size_all all ≤ 8192 → length new.nodes + size_all rest ≤ 8192
rest_room c f w d new s rest all e n h = omega (arith, h, ap size_all e, ap (λ (d : Drawn). length d.nodes) n, laid_nodes c f s w d)

-- for a function's statements behind its entry
pub body_part : (n : ℕ) (body : Statements) → n + size_all body + 2 ≤ 8192 → n + size_all body ≤ 8192
body_part n body h = omega (arith, h)

pub body_room : (d mid : Drawn) (f next place : ℕ) (body body' : Statements) → body' ≡ body → mid ≡ with_seam point.Entry f next place None d → length d.nodes + size_all body + 2 ≤ 8192
    → length mid.nodes + size_all body' ≤ 8192
body_room d mid f next place body body' eb em h = omega (arith, h, ap size_all eb, ap (λ (d : Drawn). length d.nodes) em, seam_grows point.Entry f next place None d)

-- for the first of some functions, and for the rest behind it
pub first_function : (n : ℕ) (f : Definition) (rest all : List Definition) → all ≡ f ∷ rest → n + size_from all ≤ 8192 → n + size_all f.body + 2 ≤ 8192
first_function n f rest all e h = omega (arith, h, ap size_from e)

pub rest_functions : (c : Scene) (n : ℕ) (f : Definition) (rest all : List Definition) (d new : Drawn) → all ≡ f ∷ rest → new ≡ laid_one c n f d → length d.nodes + size_from all ≤ 8192
    → length new.nodes + size_from rest ≤ 8192
rest_functions c n f rest all d new e k h = omega (arith, h, ap size_from e, ap (λ (d : Drawn). length d.nodes) k, one_length c n f d)
