-- A program has no more labels than points.
use Rattle.std.proofs.Common.{◌≡◌, ℕ, ◌+◌, ◌≤◌, ◌<◌, List, [], ◌∷◌, length, arith, length-append}
use Rattle.std.specs.List.{flat_map}
use Rattle.std.proofs.lemmas.List.{length-map}
use Rattle.cw_syntax.specs.Names.{Names, text}
use Rattle.cw_syntax.specs.Trees.{Statement, Stated, Form, Block, Declares, Evaluates, Empties, Labels, Chooses, Whiles, Does, Fors, Breaks, Continues, Returns}
use Rattle.cw_syntax.specs.Trees.{Perhaps, nothing, just, Statements, nil, cons, Definition, File}
use Rattle.cw_syntax.specs.Plans.{Scene, steps_of, steps_of_form, steps_of_arm, steps_of_all, seams, seams_all, numbered, numbered_all, routines_from, scene_of, plan_of}
use Rattle.cw_points.specs.Points.{count, count_all, count_from, point_count}
use Rattle.cw_resolve.specs.declared.labelled.Labelled.{Labelled}
use Rattle.cw_resolve.specs.Labels.{labels_of, labels_in, labels_of_arm, labels_of_all, labels_in_file, label_names}

module _ (c : Scene) where
  mutual
    few : (s : Statement) (j : ℕ) → length (labels_of s) ≤ count (numbered (steps_of c s) j)
    few (Stated form from to) j = few_form form from j

    few_form : (form : Form) (at j : ℕ) → length (labels_in form) ≤ count (numbered (steps_of_form c at form) j)
    few_form (Block ss) at j = few_all ss j
    few_form (Labels name mark s) at j = omega (arith, few s (j + 1))
    few_form (Chooses test s other) at j = omega (arith, length-append (labels_of s) (labels_of_arm other), few s j, few_arm other (j + seams (steps_of c s)))
    few_form (Whiles test s) at j = omega (arith, few s j)
    few_form (Does s test) at j = omega (arith, few s j)
    few_form (Fors init test step s) at j = omega (arith, few s j)
    few_form (Declares d) at j = omega arith
    few_form (Evaluates e) at j = omega arith
    few_form Empties at j = omega arith
    few_form Breaks at j = omega arith
    few_form Continues at j = omega arith
    few_form (Returns value) at j = omega arith

    few_arm : (o : Perhaps) (j : ℕ) → length (labels_of_arm o) ≤ count (numbered (steps_of_arm c o) j)
    few_arm nothing j = omega arith
    few_arm (just s) j = few s j

    few_all : (ss : Statements) (j : ℕ) → length (labels_of_all ss) ≤ count_all (numbered_all (steps_of_all c ss) j)
    few_all nil j = omega arith
    few_all (cons s ss) j = omega (arith, length-append (labels_of s) (labels_of_all ss), few s j, few_all ss (j + seams (steps_of c s)))

  few_from : (fs : List Definition) (j : ℕ) → length (flat_map (λ f. labels_of_all f.body) fs) ≤ count_from (routines_from c j fs)
  few_from [] j = omega arith
  few_from (f ∷ fs) j =
      omega (
        arith,
        length-append (labels_of_all f.body) (flat_map (λ (g : Definition). labels_of_all g.body) fs),
        few_all f.body (j + 1),
        few_from fs (j + 1 + seams_all (steps_of_all c f.body)),
      )

pub few_labels : (names : Names) (source : List ℕ) (file : File) → length (label_names source file) ≤ point_count (plan_of names source file)
few_labels names source file = omega (arith, length-map (labels_in_file file) (λ (l : Labelled). text source l.name), few_from (scene_of names source file) file.functions 0)

-- so more labels than have numbers of 16 bits are too many points
pub many_labels : (names : Names) (source : List ℕ) (file : File) (n : ℕ) → n ≡ length (label_names source file) → 65535 < n → 8192 < point_count (plan_of names source file)
many_labels names source file n e h = omega (arith, e, h, few_labels names source file)
