-- What is drawn behind what is drawn.
use Rattle.std.proofs.Common.{◌≡◌, ◌+◌, ℕ, List, [], ◌∷◌, ◌++◌, Option, Some, length, sym, ap, ap₂, ◌∙◌, append_assoc, append-nil, length-append}
use Rattle.cw_syntax.specs.declared.program.Name.{Name}
use Rattle.cw_points.specs.declared.graph.Point.{Point}
use Rattle.cw_points.specs.declared.graph.Node.{Node}
use Rattle.cw_points.specs.declared.graph.Seam.{Seam}
use Rattle.cw_points.specs.Graphs.{node, seam}
use Rattle.cw_points.specs.Drawing.{Drawn, more, with_nodes, with_seam}

pub same_drawn : {ns ns' : List Node} {ss ss' : List Seam} → ns ≡ ns' → ss ≡ ss' → let a : Drawn = record { nodes = ns; seams = ss } in let b : Drawn = record { nodes = ns'; seams = ss' } in a ≡ b
same_drawn e f = ap₂ (λ ns ss. record { nodes = ns; seams = ss }) e f

behind : {A : Type 0} (a b : List A) (F : ℕ → List A) (m : ℕ) → length b ≡ m → (a ++ b) ++ F (length (a ++ b)) ≡ a ++ (b ++ F (length a + m))
behind a b F m e = append_assoc a b (F (length (a ++ b))) ∙ ap (λ n. a ++ (b ++ F n)) (length-append a b ∙ ap (λ n. length a + n) e)

-- two after each other
pub twice : (p : ℕ → ℕ → List Node) (q : ℕ → ℕ → List Seam) (p' : ℕ → ℕ → List Node) (q' : ℕ → ℕ → List Seam) (a b : ℕ) (d : Drawn) → length (p (length d.nodes) (length d.seams)) ≡ a
    → length (q (length d.nodes) (length d.seams)) ≡ b → more p' q' (more p q d) ≡ more (λ n j. p n j ++ p' (n + a) (j + b)) (λ n j. q n j ++ q' (n + a) (j + b)) d
twice p q p' q' a b d e f =
    let n = length d.nodes in
    let j = length d.seams in
    let ns = p n j in
    let ss = q n j in
    let m : length (d.nodes ++ ns) ≡ n + a = length-append d.nodes ns ∙ ap (λ x. n + x) e in
    let l : length (d.seams ++ ss) ≡ j + b = length-append d.seams ss ∙ ap (λ x. j + x) f in
    same_drawn
    (append_assoc d.nodes ns (p' (length (d.nodes ++ ns)) (length (d.seams ++ ss))) ∙ ap₂ (λ x y. d.nodes ++ (ns ++ p' x y)) m l)
    (append_assoc d.seams ss (q' (length (d.nodes ++ ns)) (length (d.seams ++ ss))) ∙ ap₂ (λ x y. d.seams ++ (ss ++ q' x y)) m l)

pub nodes_more : (ns old new : List Node) (ss : List Seam) → new ≡ old ++ ns
    → let a : Drawn = record { nodes = new; seams = ss } in let b : Drawn = record { nodes = old; seams = ss } in a ≡ with_nodes ns b
unfolding with_nodes
nodes_more ns old new ss e = same_drawn e (sym (append-nil ss))

pub nothing_more : (d : Drawn) → d ≡ with_nodes [] d
unfolding with_nodes
nothing_more d = same_drawn (sym (append-nil d.nodes)) (sym (append-nil d.seams))

pub seam_more : (what : Point) (f next place : ℕ) (taken : Option Name) (at j : ℕ) (ns ns' : List Node) (ss ss' : List Seam) → at ≡ length ns → j ≡ length ss
    → ns' ≡ ns ++ node what f (Some next) (Some j) ∷ [] → ss' ≡ ss ++ seam at place taken ∷ [] →
    let a : Drawn = record { nodes = ns'; seams = ss' } in let b : Drawn = record { nodes = ns; seams = ss } in a ≡ with_seam what f next place taken b
unfolding with_seam
seam_more what f next place taken at j ns ns' ss ss' n l e g =
    same_drawn (e ∙ ap (λ i. ns ++ node what f (Some next) (Some i) ∷ []) l) (g ∙ ap (λ i. ss ++ seam i place taken ∷ []) n)
