-- The seams of a graph have the places of the marks of its plan.
use Rattle.std.proofs.Common.{◌≡◌, ℕ, ◌+◌, List, [], ◌∷◌, ◌++◌, map, refl, ap, ap₂, ◌∙◌}
use Rattle.cw_syntax.specs.Names.{Names as PolicyNames}
use Rattle.cw_syntax.specs.declared.program.Program.{Program}
use Rattle.cw_syntax.specs.Trees.{File, file_of}
use Rattle.cw_syntax.specs.Plans.{function_names, Stm, Plain, Break, Continue, Return, Open, Close, Call, Group, Label, If, While, Do, For, Stms, end, then, Routine, plan_of}
use Rattle.cw_syntax.specs.Marks.{SeamMark, marks_in, marks_in_all, marks_from, marks_of}
use Rattle.cw_points.specs.declared.graph.Seam.{Seam}
use Rattle.cw_points.specs.declared.graph.Graph.{Graph}
use Rattle.cw_points.specs.Points.{count}
use Rattle.cw_points.specs.Graphs.{turn_of, exit_of, seams_in, seams_in_all, seams_from, IsGraph}
use Rattle.cw_resolve.specs.declared.labelled.Labelled.{Labelled}
use Rattle.cw_resolve.specs.Labels.{labels_in_file}
use Rattle.cw_trace.proofs.Lists.{cons_head, cons_tail}
use Rattle.cw_trace.specs.Traces.{Names}
use Rattle.cw_trace.specs.Labels.{label_at, names_of}

module _ {A : Type 0} (f : ℕ → A) where
  abbrev Alike : List Seam → List SeamMark → Type 0
  Alike seams marks = map (λ s. f s.place) seams ≡ map (λ m. f m.place) marks

  joined : (ss ts : List Seam) (ms ns : List SeamMark) → Alike ss ms → Alike ts ns → Alike (ss ++ ts) (ms ++ ns)
  joined [] ts [] ns h k = k
  joined [] ts (m ∷ ms) ns h k = cc
  joined (s ∷ ss) ts [] ns h k = cc
  joined (s ∷ ss) ts (m ∷ ms) ns h k = ap₂ (λ a (l : List A). a ∷ l) (cons_head (f s.place) (f m.place) _ _ h) (joined ss ts ms ns (cons_tail (f s.place) (f m.place) _ _ h) k)

  mutual
    alike : (s : Stm) (n : ℕ) → Alike (seams_in s n) (marks_in s)
    alike (Plain at) n = refl
    alike (Break at) n = refl
    alike (Continue at) n = refl
    alike (Return at) n = refl
    alike (Open at j d) n = refl
    alike (Close at j d) n = refl
    alike (Call at j callee) n = refl
    alike (Group ss) n = alike_all ss n
    alike (Label at mark j l s) n = ap (λ (l : List A). f mark ∷ l) (alike s (n + 1))
    alike (If at s t) n = joined (seams_in s (n + 1)) (seams_in t (n + 1 + count s)) (marks_in s) (marks_in t) (alike s (n + 1)) (alike t (n + 1 + count s))
    alike (While at s) n = alike s (n + 1)
    alike (Do at s) n = alike s n
    alike (For at init decided stepped s) n = alike s (turn_of n init stepped + 1)

    alike_all : (ss : Stms) (n : ℕ) → Alike (seams_in_all ss n) (marks_in_all ss)
    alike_all end n = refl
    alike_all (then s ss) n = joined (seams_in s n) (seams_in_all ss (n + count s)) (marks_in s) (marks_in_all ss) (alike s n) (alike_all ss (n + count s))

  alike_from : (rs : List Routine) (n : ℕ) → Alike (seams_from rs n) (marks_from rs)
  alike_from [] n = refl
  alike_from (r ∷ rs) n =
      ap (λ (l : List A). f r.mark ∷ l)
      (joined (seams_in_all r.body (n + 1)) (seams_from rs (exit_of r n + 1)) (marks_in_all r.body) (marks_from rs) (alike_all r.body (n + 1)) (alike_from rs (exit_of r n + 1)))

  pub are_named : (names : PolicyNames) (source : List ℕ) (file : File) (g : Graph) → IsGraph names source file g
      → map (λ s. f s.place) g.seams.items ≡ map (λ m. f m.place) (marks_of (plan_of names source file))
  are_named names source file g h = ap (λ ss. map (λ s. f s.place) ss) h.seams ∙ alike_from (plan_of names source file).routines 0

abbrev pub both : List (List ℕ) → List (List ℕ) → Names
both functions labels = record { functions = functions; labels = labels }

pub all_named : (given : PolicyNames) (source : List ℕ) (program : Program) (g : Graph) (functions labels : List (List ℕ)) (places places2 : List Labelled) (seams : List Seam)
    → functions ≡ function_names source (file_of program) → places ≡ labels_in_file (file_of program)
    → labels ≡ map (λ s. label_at source places2 s.place) seams → places2 ≡ places → seams ≡ g.seams.items → IsGraph given source (file_of program) g
    → both functions labels ≡ names_of source (file_of program) (plan_of given source (file_of program))
all_named given source program g functions labels places places2 seams ef ep el e2 eg drawn =
    let file = file_of program in
    ap₂ both ef
    (el
    ∙ ap₂ (λ (ls : List Labelled) (ss : List Seam). map (λ (s : Seam). label_at source ls s.place) ss)
    (e2 ∙ ep) eg
    ∙ are_named (label_at source (labels_in_file file)) given source file g drawn)
