-- With the number of each item, the paths of the graph are the paths of the program.
use Rattle.std.proofs.Common.{◌≡◌, ℕ, List, [], ◌∷◌, Option, Some, None, option_map, map, refl, sym, ap, ap₂, ◌∙◌, subst}
use Rattle.std.specs.Prelude.{slice_get, option_and_then}
use Rattle.std.proofs.lemmas.Option.{none-some}
use Rattle.cw_syntax.specs.Names.{Names}
use Rattle.cw_syntax.specs.Trees.{File}
use Rattle.cw_syntax.specs.Plans.{Routine, Plan, plan_of}
use Rattle.cw_syntax.specs.Frames.{Item, Frame, Way, pass, PathFrom, start_stack, stack_of, new_frame}
use Rattle.cw_syntax.proofs.Tabled.{first_is}
use Rattle.cw_points.specs.declared.graph.Node.{Node}
use Rattle.cw_points.specs.declared.graph.Part.{Part}
use Rattle.cw_points.specs.Points.{points}
use Rattle.cw_points.specs.Graphs.{nodes}
use Rattle.cw_points.specs.Walks.{Stand, stand, leads, goes, WalkFrom, PathByFrom, parts_of, PathsAreTheWalks, PathsTakeWays}
use Rattle.cw_points.proofs.Situated.{IsPart}
use Rattle.cw_points.proofs.Standing.{at_new_frame}
use Rattle.cw_points.proofs.Laying.{situated_program}
use Rattle.cw_points.proofs.Ways.{StackAt, Tied}
use Rattle.cw_points.proofs.Passing.{Front, front_at}

module _ (ns : List Node) (its : List Item) where
  of_stack : (next : List Frame) (o : Option (Option Stand)) → Tied ns its (Some next) o → (here : Option Stand) × (o ≡ Some here) × StackAt ns its next here
  of_stack next None t = absurd t
  of_stack next (Some here) t = (here, refl, t)

  of_stand : (o : Option (List Frame)) (here : Option Stand) → Tied ns its o (Some here) → (next : List Frame) × (o ≡ Some next) × StackAt ns its next here
  of_stand None here t = absurd t
  of_stand (Some next) here t = (next, refl, t)

module _ (ns : List Node) (its : List Item) (plan : Plan) (parts : List Part) (has : (f : ℕ) → IsPart ns its f (slice_get plan.routines f) (slice_get parts f)) where
  front_of : (frame : Frame) (frames : List Frame) (s : Stand) → StackAt ns its (frame ∷ frames) (Some s) → Front ns its plan parts has frame frames s.returns s.point
  front_of frame frames s h = front_at ns its plan parts has frames s.returns h.4 h.0 h.1 frame h.2.0 h.2.1 s.point h.2.2 h.3

  -- a step of a stack that stands is one of the graph, and the other way round
  pub tied : (frame : Frame) (frames : List Frame) (s : Stand) (way : Way) → StackAt ns its (frame ∷ frames) (Some s) → Tied ns its (pass plan (frame ∷ frames) way) (goes ns parts s way)
  tied frame frames s way h =
      let k = front_of frame frames s h in
      subst (λ o. Tied ns its (pass plan (frame ∷ frames) way) (option_and_then (λ n. leads parts s.returns n.point n.next way) o)) (sym k.here.0) (k.ways way)

  abbrev Numbered : List (Item × Way) → List (ℕ × Way) → Type 0
  Numbered is ps = (map (λ i. Some i.0) is ≡ map (λ p. slice_get its p.0) ps) × (map (λ i. i.1) is ≡ map (λ p. p.1) ps)

  pub walked : (is : List (Item × Way)) (stack : List Frame) (here : Option Stand) → StackAt ns its stack here → PathByFrom plan stack is
      → (ps : List (ℕ × Way)) × WalkFrom ns parts here ps × Numbered is ps
  walked [] stack here h path = ([], tt, (refl, refl))
  walked (i ∷ is) [] None h path = absurd (none-some path.0 path.2)
  walked (i ∷ is) [] (Some s) h path = absurd h
  walked (i ∷ is) (frame ∷ frames) None h path = absurd h
  walked (i ∷ is) (frame ∷ frames) (Some s) h path =
      let k = front_of frame frames s h in
      let t = subst (λ o. Tied ns its o (goes ns parts s i.1)) path.2 (tied frame frames s i.1 h) in
      let to = of_stack ns its path.0 (goes ns parts s i.1) t in
      let rest = walked is path.0 to.0 to.2 path.3 in
      let e : Some i.0 ≡ slice_get its s.point = ap (λ n. Some n) (first_is i.0 k.item (sym path.1 ∙ k.is_front)) ∙ sym k.here.1 in
      ((s.point, i.1) ∷ rest.0, (refl, (to.0, to.1, rest.1)), (ap₂ (λ a l. a ∷ l) e rest.2.0, ap (λ l. i.1 ∷ l) rest.2.1))

  pub stepped : (ps : List (ℕ × Way)) (stack : List Frame) (here : Option Stand) → StackAt ns its stack here → WalkFrom ns parts here ps
      → (is : List (Item × Way)) × PathByFrom plan stack is × Numbered is ps
  stepped [] stack here h walk = ([], tt, (refl, refl))
  stepped (p ∷ ps) stack None h walk = absurd walk
  stepped (p ∷ ps) [] (Some s) h walk = absurd h
  stepped (p ∷ ps) (frame ∷ frames) (Some s) h walk =
      let k = front_of frame frames s h in
      let step = walk.1 in
      let t = subst (λ o. Tied ns its (pass plan (frame ∷ frames) p.1) o) step.1 (tied frame frames s p.1 h) in
      let to = of_stand ns its (pass plan (frame ∷ frames) p.1) step.0 t in
      let rest = stepped ps to.0 step.0 to.2 step.2 in
      let e : Some k.item ≡ slice_get its p.0 = sym k.here.1 ∙ ap (slice_get its) walk.0 in
      ((k.item, p.1) ∷ rest.0, (to.0, k.is_front, to.1, rest.1), (ap₂ (λ a l. a ∷ l) e rest.2.0, ap (λ l. p.1 ∷ l) rest.2.1))

  started : (main : ℕ) (o : Option Routine) (q : Option Part) → IsPart ns its main o q → StackAt ns its (stack_of (option_map (new_frame main) o)) (option_map (λ part. stand [] part.entry.0) q)
  started main None None h = tt
  started main (Some r) (Some part) h = (main, part.exit.0, at_new_frame ns its main r part.entry.0 part.exit.0 h, refl, tt)
  started main None (Some part) h = absurd h
  started main (Some r) None h = absurd h

  pub starts : StackAt ns its (start_stack plan) (option_map (λ part. stand [] part.entry.0) (slice_get parts plan.main))
  starts = started plan.main (slice_get plan.routines plan.main) (slice_get parts plan.main) (has plan.main)

pub paths_are_the_walks : (names : Names) (source : List ℕ) (file : File) → PathsAreTheWalks names source file
paths_are_the_walks names source file =
    let plan = plan_of names source file in
    let parts = parts_of names source file in
    let has = situated_program names source file in
    let start = starts (nodes plan) (points plan) plan parts has in
    let here = option_map (λ (part : Part). stand [] part.entry.0) (slice_get parts plan.main) in
    record {
      walked = λ is path. let w = walked (nodes plan) (points plan) plan parts has is (start_stack plan) here start path in (w.0, w.1, record { items = w.2.0; ways = w.2.1 });
      paths = λ ps walk. let w = stepped (nodes plan) (points plan) plan parts has ps (start_stack plan) here start walk in (w.0, w.1, record { items = w.2.0; ways = w.2.1 });
    }

-- the ways of a path, and a path without them
ways_taken : (plan : Plan) (items : List Item) (stack : List Frame) → PathFrom plan stack items → (is : List (Item × Way)) × PathByFrom plan stack is × (map (λ i. i.0) is ≡ items)
ways_taken plan [] stack path = ([], tt, refl)
ways_taken plan (i ∷ items) stack path =
    let rest = ways_taken plan items path.1 path.4 in
    ((i, path.0) ∷ rest.0, (path.1, path.2, path.3, rest.1), ap (λ l. i ∷ l) rest.2)

ways_left_out : (plan : Plan) (is : List (Item × Way)) (stack : List Frame) → PathByFrom plan stack is → PathFrom plan stack (map (λ i. i.0) is)
ways_left_out plan [] stack path = tt
ways_left_out plan (i ∷ is) stack path = (i.1, path.0, path.1, path.2, ways_left_out plan is path.0 path.3)

pub paths_take_ways : (plan : Plan) → PathsTakeWays plan
paths_take_ways plan = record {
  taken = λ items path. ways_taken plan items (start_stack plan) path;
  left_out = λ is path. ways_left_out plan is (start_stack plan) path;
}
