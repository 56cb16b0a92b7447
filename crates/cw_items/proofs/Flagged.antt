-- The flags of a program's points, statement by statement.
use Rattle.std.proofs.Common.{◌≡◌, ℕ, ◌+◌, List, [], ◌∷◌, ◌++◌, map, Bool, true, false, is_some, refl, ap, ap₂, ◌∙◌}
use Rattle.std.proofs.lemmas.List.{map-append}
use Rattle.cw_syntax.specs.Names.{Names}
use Rattle.cw_syntax.specs.Trees.{Statement, Stated, Form, Block, Declares, Evaluates, Empties, Labels, Chooses, Whiles, Does, Fors, Breaks, Continues, Returns}
use Rattle.cw_syntax.specs.Trees.{Perhaps, nothing, just, Statements, nil, cons, Definition, File}
use Rattle.cw_syntax.specs.Plans.{Scene, Action, Computes, Opens, Closes, Invokes, Stm, acting, action_of, place_if, seams, seams_all, steps_of, steps_of_form, steps_of_arm, steps_of_all}
use Rattle.cw_syntax.specs.Plans.{numbered, numbered_all, routines_from, scene_of, plan_of}
use Rattle.cw_syntax.specs.Frames.{Item, Test, End, init_if, after_if}
use Rattle.cw_points.specs.Points.{points_in, points_in_all, points_from, points}
use Rattle.cw_worlds.specs.Forks.{is_place, is_fork_item}
use Rattle.cw_items.specs.Flags.{is_given, head_flags, flags, flags_in, flags_arm, flags_all, file_flags}

module _ (forks : List ℕ) where
  abbrev told : List Item → List Bool
  told items = map (is_fork_item forks) items

  -- an expression is no fork, whatever it does
  acted : (a : Action) (at j : ℕ) → told (points_in (numbered (acting a at) j)) ≡ false ∷ []
  acted Computes at j = refl
  acted (Opens d) at j = refl
  acted (Closes d) at j = refl
  acted (Invokes callee) at j = refl

  -- the head of a `for`

  headed : (init : Perhaps) (decided stepped : Bool) (at : ℕ) (body : Stm) (items : List Item) (bits : List Bool) → told items ≡ bits
      → told (init_if (place_if init) (Test at decided stepped body ∷ after_if stepped at items)) ≡ head_flags (is_place forks at) (is_given init) decided stepped ++ bits
  headed nothing true true at body items bits e = ap (λ l. is_place forks at ∷ (false ∷ l)) e
  headed nothing true false at body items bits e = ap (λ l. is_place forks at ∷ l) e
  headed nothing false true at body items bits e = ap (λ l. false ∷ (false ∷ l)) e
  headed nothing false false at body items bits e = ap (λ l. false ∷ l) e
  headed (just (Stated form from to)) true true at body items bits e = ap (λ l. false ∷ (is_place forks at ∷ (false ∷ l))) e
  headed (just (Stated form from to)) true false at body items bits e = ap (λ l. false ∷ (is_place forks at ∷ l)) e
  headed (just (Stated form from to)) false true at body items bits e = ap (λ l. false ∷ (false ∷ (false ∷ l))) e
  headed (just (Stated form from to)) false false at body items bits e = ap (λ l. false ∷ (false ∷ l)) e

  two : (xs ys : List Item) (bits more : List Bool) → told xs ≡ bits → told ys ≡ more → told (xs ++ ys) ≡ bits ++ more
  two xs ys bits more e f = map-append (is_fork_item forks) xs ys ∙ ap₂ (λ l m. l ++ m) e f

  mutual
    flagged : (c : Scene) (s : Statement) (j : ℕ) → told (points_in (numbered (steps_of c s) j)) ≡ flags forks s
    flagged c (Stated form from to) j = flagged_form c from form j

    flagged_form : (c : Scene) (at : ℕ) (form : Form) (j : ℕ) → told (points_in (numbered (steps_of_form c at form) j)) ≡ flags_in forks at form
    flagged_form c at (Block ss) j = flagged_all c ss j
    flagged_form c at (Declares d) j = refl
    flagged_form c at (Evaluates e) j = acted (action_of c e) at j
    flagged_form c at Empties j = refl
    flagged_form c at (Labels name mark s) j = ap (λ l. false ∷ l) (flagged c s (j + 1))
    flagged_form c at (Chooses test s other) j =
        ap (λ l. is_place forks at ∷ l)
        (two (points_in (numbered (steps_of c s) j)) (points_in (numbered (steps_of_arm c other) (j + seams (steps_of c s)))) (flags forks s) (flags_arm forks other)
        (flagged c s j) (flagged_arm c other (j + seams (steps_of c s))))
    flagged_form c at (Whiles test s) j = ap (λ l. is_place forks at ∷ l) (flagged c s j)
    flagged_form c at (Does s test) j =
        two (points_in (numbered (steps_of c s) j)) (Test at true false (numbered (steps_of c s) j) ∷ []) (flags forks s) (is_place forks at ∷ []) (flagged c s j) refl
    flagged_form c at (Fors init test step s) j =
        headed init (is_some test) (is_some step) at (numbered (steps_of c s) j) (points_in (numbered (steps_of c s) j)) (flags forks s) (flagged c s j)
    flagged_form c at Breaks j = refl
    flagged_form c at Continues j = refl
    flagged_form c at (Returns value) j = refl

    flagged_arm : (c : Scene) (other : Perhaps) (j : ℕ) → told (points_in (numbered (steps_of_arm c other) j)) ≡ flags_arm forks other
    flagged_arm c nothing j = refl
    flagged_arm c (just s) j = flagged c s j

    flagged_all : (c : Scene) (ss : Statements) (j : ℕ) → told (points_in_all (numbered_all (steps_of_all c ss) j)) ≡ flags_all forks ss
    flagged_all c nil j = refl
    flagged_all c (cons s ss) j =
        two (points_in (numbered (steps_of c s) j)) (points_in_all (numbered_all (steps_of_all c ss) (j + seams (steps_of c s)))) (flags forks s) (flags_all forks ss)
        (flagged c s j) (flagged_all c ss (j + seams (steps_of c s)))

  flagged_from : (c : Scene) (f j : ℕ) (fs : List Definition) → told (points_from f (routines_from c j fs)) ≡ file_flags forks fs
  flagged_from c f j [] = refl
  flagged_from c f j (d ∷ fs) =
      let body = points_in_all (numbered_all (steps_of_all c d.body) (j + 1)) in
      let later = j + 1 + seams_all (steps_of_all c d.body) in
      ap (λ l. false ∷ l)
      (two (body ++ End f ∷ []) (points_from (f + 1) (routines_from c later fs)) (flags_all forks d.body ++ false ∷ []) (file_flags forks fs)
      (two body (End f ∷ []) (flags_all forks d.body) (false ∷ []) (flagged_all c d.body (j + 1)) refl) (flagged_from c (f + 1) later fs))

  pub points_flagged : (names : Names) (source : List ℕ) (file : File) → map (is_fork_item forks) (points (plan_of names source file)) ≡ file_flags forks file.functions
  points_flagged names source file = flagged_from (scene_of names source file) 0 0 file.functions
