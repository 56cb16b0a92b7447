-- What a statement adds to a graph, as the code tells it: each number is one that was computed.
use Rattle.std.proofs.Common.{◌≡◌, ℕ, ◌+◌, ◌-◌, Bool, Option, None, Result, Ok, Err, OnOk, length, refl, sym, ap, ap₂, ◌∙◌, arith}
use Rattle.std.specs.Prelude.{is_some}
use Rattle.cw_syntax.specs.declared.program.Name.{Name}
use Rattle.cw_syntax.specs.declared.program.Stmt.{Stmt}
use Rattle.cw_syntax.specs.Names.{text, number_or_other}
use Rattle.cw_syntax.specs.Trees.{Tree, Statement, Stated, Form, Labels, Chooses, Whiles, Does, Fors, Perhaps, nothing, just, Statements, cons, form_of, statement_of}
use Rattle.cw_syntax.specs.Plans.{Scene, place_if}
use Rattle.cw_points.specs.declared.graph.Point.TheVariants as point
use Rattle.cw_points.specs.declared.draft.Ways.{Ways}
use Rattle.cw_points.specs.Points.{one_if}
use Rattle.cw_points.specs.Graphs.{branch, first, test_node, step_nodes}
use Rattle.cw_points.specs.Sizes.{size, size_all}
use Rattle.cw_points.specs.Drawing.{Drawn, with_nodes, with_node, with_seam, looped, before, laid, laid_all}
use Rattle.cw_points.proofs.Adding.{laid_label, laid_if, laid_choice, laid_while, laid_do, laid_for, laid_one_more}

pub on_ok : {A E : Type 0} (r : Result A E) {P Q : Type 0} → OnOk r P → (P → Q) → OnOk r Q
on_ok (Ok x) h f = f h
on_ok (Err e) h f = h

module _ (c : Scene) (f : ℕ) where
  -- a statement of this form
  pub at_form : (s : Stmt) (form : Form) (w : Ways) (d new : Drawn) → form_of s.what ≡ form → new ≡ laid c f (Stated form s.from s.to) w d → new ≡ laid c f (statement_of s) w d
  at_form s form w d new e h = h ∙ ap (λ v. laid c f (Stated v s.from s.to) w d) (sym e)

  pub label_told : (name : Name) (mark : ℕ) (body body' : Statement) (a b l at n next : ℕ) (w : Ways) (d mid new : Drawn) →
      body' ≡ body → l ≡ number_or_other c.names.labels (text c.source name) → at ≡ length d.nodes → n ≡ size body → next ≡ first n (at + 1) w.next →
      mid ≡ with_seam (point.Label l) f next mark None d → new ≡ laid c f body' w mid → new ≡ laid c f (Stated (Labels name mark body) a b) w d
  label_told name mark body body' a b l at n next w d mid new eb el ea en ex em eh =
      eh ∙ ap (λ s. laid c f s w mid) eb
      ∙ ap (laid c f body w) (em ∙ ap₂ (λ l x. with_seam (point.Label l) f x mark None d) el (ex ∙ ap₂ (λ n a. first n (a + 1) w.next) en ea))
      ∙ laid_label c f name mark body a b w d

  pub if_told : (t : Tree) (arm arm' : Statement) (a b at n holds : ℕ) (w : Ways) (d mid new : Drawn) →
      arm' ≡ arm → at ≡ length d.nodes → n ≡ size arm → holds ≡ first n (at + 1) w.next →
      mid ≡ with_node (branch f holds w.next) d → new ≡ laid c f arm' w mid → new ≡ laid c f (Stated (Chooses t arm nothing) a b) w d
  if_told t arm arm' a b at n holds w d mid new eb ea en ex em eh =
      eh ∙ ap (λ s. laid c f s w mid) eb
      ∙ ap (laid c f arm w) (em ∙ ap (λ x. with_node (branch f x w.next) d) (ex ∙ ap₂ (λ n a. first n (a + 1) w.next) en ea))
      ∙ laid_if c f t arm a b w d

  pub choice_told : (t : Tree) (arm arm' other other' : Statement) (a b at n n' holds fails : ℕ) (w : Ways) (d mid mid' new : Drawn) →
      arm' ≡ arm → other' ≡ other → at ≡ length d.nodes → n ≡ size arm → n' ≡ size other → holds ≡ first n (at + 1) w.next → fails ≡ first n' (at + 1 + n) w.next →
      mid ≡ with_node (branch f holds fails) d → mid' ≡ laid c f arm' w mid → new ≡ laid c f other' w mid' → new ≡ laid c f (Stated (Chooses t arm (just other)) a b) w d
  choice_told t arm arm' other other' a b at n n' holds fails w d mid mid' new eb eb' ea en en' ex ey em eh ei =
      ei ∙ ap (λ s. laid c f s w mid') eb'
      ∙ ap (laid c f other w)
      (eh ∙ ap (λ s. laid c f s w mid) eb
      ∙ ap (laid c f arm w) (em ∙ ap₂ (λ x y. with_node (branch f x y) d) (ex ∙ ap₂ (λ n a. first n (a + 1) w.next) en ea) (ey ∙ ap₂ (λ n m. first n m w.next) en' (ap₂ (λ a n. a + 1 + n) ea en))))
      ∙ laid_choice c f t arm other a b w d

  pub while_told : (t : Tree) (body body' : Statement) (a b at n holds : ℕ) (v w : Ways) (d mid new : Drawn) →
      body' ≡ body → at ≡ length d.nodes → n ≡ size body → holds ≡ first n (at + 1) at → v ≡ looped w at →
      mid ≡ with_node (branch f holds w.next) d → new ≡ laid c f body' v mid → new ≡ laid c f (Stated (Whiles t body) a b) w d
  while_told t body body' a b at n holds v w d mid new eb ea en ex ev em eh =
      eh ∙ ap₂ (λ s v. laid c f s v mid) eb (ev ∙ ap (looped w) ea)
      ∙ ap (laid c f body (looped w (length d.nodes))) (em ∙ ap (λ x. with_node (branch f x w.next) d) (ex ∙ ap₂ (λ n a. first n (a + 1) a) en ea))
      ∙ laid_while c f t body a b w d

  pub do_told : (t : Tree) (body body' : Statement) (a b at n test : ℕ) (v w : Ways) (d mid new : Drawn) →
      body' ≡ body → at ≡ length d.nodes → n ≡ size body → test ≡ at + n → v ≡ looped w test →
      mid ≡ laid c f body' v d → new ≡ with_node (branch f at w.next) mid → new ≡ laid c f (Stated (Does body t) a b) w d
  do_told t body body' a b at n test v w d mid new eb ea en et ev em eh =
      eh ∙ ap (λ a. with_node (branch f a w.next) mid) ea
      ∙ ap (with_node (branch f (length d.nodes) w.next)) (em ∙ ap₂ (λ s v. laid c f s v d) eb (ev ∙ ap (looped w) (et ∙ ap₂ (λ x y. x + y) ea en)))
      ∙ laid_do c f t body a b w d

  pub for_told : (init : Perhaps) (test step : Option Tree) (body body' : Statement) (a b n u : ℕ) (begun decided stepped : Bool) (v w : Ways) (d mid new : Drawn) →
      begun ≡ is_some (place_if init) → decided ≡ is_some test → stepped ≡ is_some step → body' ≡ body → n ≡ size body →
      u ≡ length d.nodes + one_if begun + one_if stepped → v ≡ looped w u →
      ((t : ℕ) → t ≡ length d.nodes + one_if begun → mid ≡ with_nodes (step_nodes f stepped t) (with_node (test_node f decided (first n (u + 1) u) w.next) (with_nodes (step_nodes f begun t) d))) →
      new ≡ laid c f body' v mid → new ≡ laid c f (Stated (Fors init test step body) a b) w d
  for_told init test step body body' a b n u begun decided stepped v w d mid new eg ed es eb en eu ev em eh =
      let t = length d.nodes + one_if begun in
      eh ∙ ap₂ (λ s v. laid c f s v mid) eb ev
      ∙ ap (laid c f body (looped w u)) (em t refl ∙ ap (λ n. with_nodes (step_nodes f stepped t)
      (with_node (test_node f decided (first n (u + 1) u) w.next) (with_nodes (step_nodes f begun t) d))) en)
      ∙ laid_for c f init test step body a b w d begun decided stepped t u eg ed es refl eu

  pub more_told : (s : Statement) (rest all : Statements) (at own left left' next : ℕ) (v w : Ways) (d new : Drawn) →
      all ≡ cons s rest → left ≡ size_all all → own ≡ size s → left' ≡ left - own → at ≡ length d.nodes → next ≡ first left' (at + own) w.next → v ≡ before w next →
      new ≡ laid c f s v d → laid_all c f rest w new ≡ laid_all c f all w d
  more_told s rest all at own left left' next v w d new el es eo ef ea ex ev eh =
      let q : left' ≡ size_all rest = omega (arith, es ∙ ap size_all el, eo, ef) in
      ap (laid_all c f rest w) (eh ∙ ap (λ v. laid c f s v d) (ev ∙ ap (before w) (ex ∙ ap₂ (λ n m. first n m w.next) q (ap₂ (λ x y. x + y) ea eo))))
      ∙ laid_one_more c f s rest w d ∙ ap (λ l. laid_all c f l w d) (sym el)

  pub left_told : (s : Statement) (rest all : Statements) (own left : ℕ) → all ≡ cons s rest → left ≡ size_all all → own ≡ size s → left - own ≡ size_all rest
  left_told s rest all own left el es eo = omega (arith, es ∙ ap size_all el, eo)
