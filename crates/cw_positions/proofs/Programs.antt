-- What holds of the points and parts of a program's plan holds of its graph.
use Rattle.std.proofs.Common.{◌≡◌, ℕ, suc, ◌+◌, ◌*◌, ◌<◌, ◌≤◌, List, [], ◌∷◌, length, Bool, Option, Some, None, refl, sym, ap, ◌∙◌, subst, arith}
use Rattle.std.specs.Prelude.{slice_get, option_map, is_some}
use Rattle.std.proofs.lemmas.Option.{slice_get_within}
use Rattle.std.proofs.lemmas.List.{length-map}
use Rattle.cw_rights.specs.Policies.{PlainPolicy}
use Rattle.cw_syntax.specs.Names.{Names, text, number_in}
use Rattle.cw_syntax.specs.Trees.{File}
use Rattle.cw_syntax.specs.Plans.{Callee, Action, Computes, Opens, Closes, Invokes, action_of, Routine, Plan, plan_of}
use Rattle.cw_syntax.specs.Plans.{scene_of}
use Rattle.cw_resolve.proofs.Bounds.{IsWithin, acts_within}
use Rattle.cw_game.specs.declared.spots.Spot.{Spot}
use Rattle.cw_syntax.specs.Runnable.{IsRunnable}
use Rattle.cw_points.specs.declared.graph.Point.{Point}
use Rattle.cw_points.specs.declared.graph.Point.TheVariants as point
use Rattle.cw_points.specs.declared.graph.Node.{Node}
use Rattle.cw_points.specs.declared.graph.Part.{Part}
use Rattle.cw_points.specs.declared.graph.Graph.{Graph}
use Rattle.cw_points.specs.Points.{points, count_from}
use Rattle.cw_points.specs.Graphs.{nodes, parts_from, splits_of, exit_of, IsGraph}
use Rattle.cw_points.specs.Walks.{parts_of}
use Rattle.cw_points.proofs.Situated.{IsPart, IsSituated}
use Rattle.cw_points.proofs.Laying.{situated_program}
use Rattle.cw_positions.specs.Positions.{base, to, spots_in}
use Rattle.cw_positions.specs.Closed.{IsClosed, IsWhole, LeadsWithin}
use Rattle.cw_positions.proofs.Leading.{all_lead, length_nodes}
use Rattle.cw_positions.proofs.Fitting.{ActFits, PointFits, routine_fits, points_fit_from, point_fits}
use Rattle.cw_positions.proofs.Closing.{CallsWithin, base_below, leads_within}
use Rattle.cw_lemmas.proofs.Lists.{get_below}
use Rattle.cw_syntax.proofs.Counting.{length_routines}

length_parts : (rs : List Routine) (splits : List Bool) (n : ℕ) → length rs ≡ length splits → length (parts_from rs splits n) ≡ length rs
length_parts [] [] n h = refl
length_parts [] (split ∷ splits) n h = refl
length_parts (r ∷ rs) [] n h = absurd (omega arith)
length_parts (r ∷ rs) (split ∷ splits) n h = let e : length rs ≡ length splits = omega arith in ap suc (length_parts rs splits (exit_of r n + 1) e)

module _ (names : Names) (source : List ℕ) (file : File) where
  abbrev plan : Plan
  plan = plan_of names source file

  -- what holds of the points and parts of the plan holds of the graph's
  pub of_graph : (g : Graph) (P : List Node → List Part → ℕ → Type 0) → IsGraph names source file g
      → P (nodes (plan_of names source file)) (parts_of names source file) (plan_of names source file).main → P g.nodes.items g.parts.items g.main
  of_graph g P i h =
      subst (λ m. P g.nodes.items g.parts.items m) (sym i.main)
      (subst (λ ps. P g.nodes.items ps plan.main) (sym i.parts) (subst (λ ns. P ns (parts_of names source file) plan.main) (sym i.nodes) h))

  -- as many parts as functions
  pub parts_length : length (parts_of names source file) ≡ length file.functions
  parts_length =
      let a : length plan.routines ≡ length file.functions = length_routines (scene_of names source file) 0 file.functions in
      let b : length (splits_of names source file) ≡ length file.functions =
      length-map file.functions (λ f. is_some (number_in names.splits (text source f.name))) in
      length_parts plan.routines (splits_of names source file) 0 (a ∙ sym b) ∙ a

  pub routines_length : length (plan_of names source file).routines ≡ length file.functions
  routines_length = length_routines (scene_of names source file) 0 file.functions

  -- a function's part, where it stands
  pub part_of : (f : ℕ) (r : Routine) → slice_get (plan_of names source file).routines f ≡ Some r
      → (part : Part) × (slice_get (parts_of names source file) f ≡ Some part) × IsSituated (nodes (plan_of names source file))
      (points (plan_of names source file)) f r part.entry.0 part.exit.0
  part_of f r e = go (slice_get (parts_of names source file) f) refl
      (subst (λ o. IsPart (nodes plan) (points plan) f o (slice_get (parts_of names source file) f)) e
      (situated_program names source file f))
    where
      go : (q : Option Part) → slice_get (parts_of names source file) f ≡ q
          → IsPart (nodes (plan_of names source file)) (points (plan_of names source file)) f (Some r) q
          → (part : Part) × (slice_get (parts_of names source file) f ≡ Some part) × IsSituated (nodes (plan_of names source file))
          (points (plan_of names source file)) f r part.entry.0 part.exit.0
      go None s h = absurd h
      go (Some part) s h = (part, s, h)

  -- and what stands where a part says
  pub routine_of : (f : ℕ) (part : Part) → slice_get (parts_of names source file) f ≡ Some part
      → (r : Routine) × (slice_get (plan_of names source file).routines f ≡ Some r) × IsSituated (nodes (plan_of names source file))
      (points (plan_of names source file)) f r part.entry.0 part.exit.0
  routine_of f part e = go (slice_get (plan_of names source file).routines f) refl
      (subst (λ o. IsPart (nodes plan) (points plan) f (slice_get plan.routines f) o) e
      (situated_program names source file f))
    where
      go : (q : Option Routine) → slice_get (plan_of names source file).routines f ≡ q
          → IsPart (nodes (plan_of names source file)) (points (plan_of names source file)) f q (Some part)
          → (r : Routine) × (slice_get (plan_of names source file).routines f ≡ Some r) × IsSituated (nodes (plan_of names source file))
          (points (plan_of names source file)) f r part.entry.0 part.exit.0
      go None s h = absurd h
      go (Some r) s h = (r, s, h)

  -- each call is one of a function that is there
  act_calls : (a : Action) → IsWithin (scene_of names source file) a
      → ActFits (λ d. Unit {0}) (λ d. Unit {0}) (λ l. Unit {0}) (λ callee. callee.number < length file.functions) a
  act_calls Computes h = tt
  act_calls (Opens d) h = tt
  act_calls (Closes d) h = tt
  act_calls (Invokes callee) h = omega (arith, h, length-map file.functions (λ f. text source f.name))

  point_calls : (w : Point)
      → PointFits (λ d. Unit {0}) (λ d. Unit {0}) (λ l. Unit {0}) (λ callee. callee.number < length file.functions) (λ f. f < length file.functions)
      (λ callee h. h) w
      → CallsWithin (length file.functions) w
  point_calls point.Entry h = tt
  point_calls point.Step h = tt
  point_calls point.Branch h = tt
  point_calls (point.Label l) h = tt
  point_calls (point.Open d) h = tt
  point_calls (point.Close d) h = tt
  point_calls (point.Call f) h = h
  point_calls point.Exit h = tt

  calls_within : (p : ℕ) (n : Node) → slice_get (nodes (plan_of names source file)) p ≡ Some n → CallsWithin (length file.functions) n.point
  calls_within p n e =
      let c = scene_of names source file in
      let O = λ (d : ℕ). Unit {0} in
      let K = λ (callee : Callee). callee.number < length file.functions in
      let P = λ (f : ℕ). f < length file.functions in
      let each = λ (f : ℕ) (r : Routine) (s : slice_get plan.routines f ≡ Some r).
      routine_fits O O O K c (λ t. act_calls (action_of c t) (acts_within c t)) (λ name. tt) file.functions 0 f r s in
      point_calls n.point (point_fits O O O K P (λ callee h. h) (nodes plan) p n (points_fit_from O O O K P (λ callee h. h) 0 plan.routines 0 each) e)

  -- a part's points are points that there are
  part_within : (f : ℕ) (part : Part) → slice_get (parts_of names source file) f ≡ Some part
      → (part.entry.0 < length (nodes (plan_of names source file))) × (part.exit.0 < length (nodes (plan_of names source file)))
  part_within f part e =
      let r = routine_of f part e in
      (slice_get_within (nodes plan) part.entry.0 _ r.2.begins.0, slice_get_within (nodes plan) part.exit.0 _ r.2.ends.0)

  module _ (policy : PlainPolicy) where
    abbrev pub begin_in : List Node → List Part → ℕ → ℕ
    begin_in ns ps f = to (base policy ps ns) (option_map (λ part. part.entry.0) (slice_get ps f))

    abbrev pub end_in : List Node → List Part → ℕ → ℕ
    end_in ns ps f = to (base policy ps ns) (option_map (λ part. part.exit.0) (slice_get ps f))

    within_plan : (f : ℕ) → f < length (parts_of names source file)
        → (begin_in (nodes (plan_of names source file)) (parts_of names source file) f < length
        (spots_in policy (parts_of names source file) (nodes (plan_of names source file))))
        × (end_in (nodes (plan_of names source file)) (parts_of names source file) f < length
        (spots_in policy (parts_of names source file) (nodes (plan_of names source file))))
    within_plan f h =
        let ps = parts_of names source file in
        let ns = nodes plan in
        let at = base policy ps ns in
        let part = get_below ps f h in
        let w = part_within f part.0 part.1 in
        let size = length (spots_in policy ps ns) in (
          subst (λ o. to at (option_map (λ (q : Part). q.entry.0) o) < size) (sym part.1) (base_below policy ps ns (length ps) part.0.entry.0 w.0),
          subst (λ o. to at (option_map (λ (q : Part). q.exit.0) o) < size) (sym part.1) (base_below policy ps ns (length ps) part.0.exit.0 w.1),
        )

    leads_plan : (q : ℕ) (s : Spot) → slice_get (spots_in policy (parts_of names source file) (nodes (plan_of names source file))) q ≡ Some s
        → LeadsWithin (length (spots_in policy (parts_of names source file) (nodes (plan_of names source file))))
        (length (parts_of names source file)) q s
    leads_plan q s e =
        let ps = parts_of names source file in
        let ns = nodes plan in
        leads_within policy ps ns (length ps) (all_lead plan) (λ p n i. subst (λ k. CallsWithin k n.point) (sym parts_length) (calls_within p n i))
        q s e

    pub is_closed : (g : Graph) → IsGraph names source file g → IsClosed g policy
    is_closed g i = record {
      leads = λ q s e. of_graph g (λ ns ps m. slice_get (spots_in policy ps ns) q ≡ Some s → LeadsWithin (length (spots_in policy ps ns))
          (length ps) q s) i (leads_plan q s) e;
      points = λ p h. base_below policy g.parts.items g.nodes.items 0 p h;
      entries = λ f h. of_graph g (λ ns ps m. f < length ps → begin_in ns ps f < length (spots_in policy ps ns)) i (λ k. (within_plan f k).0) h;
      exits = λ f h. of_graph g (λ ns ps m. f < length ps → end_in ns ps f < length (spots_in policy ps ns)) i (λ k. (within_plan f k).1) h;
    }

pub positions_are_closed : (names : Names) (source : List ℕ) (file : File) (g : Graph) (policy : PlainPolicy) → IsGraph names source file g
    → IsClosed g policy
positions_are_closed names source file g policy i = is_closed names source file policy g i

-- two points for each function
two_points : (rs : List Routine) → 2 * length rs ≤ count_from rs
two_points [] = omega arith
two_points (r ∷ rs) = omega (arith, two_points rs)

pub is_whole : (names : Names) (source : List ℕ) (file : File) (g : Graph) → IsGraph names source file g → IsWhole g
is_whole names source file g i =
    let plan = plan_of names source file in
    record {
      entries = λ f part e. of_graph names source file g (λ ns ps m. slice_get ps f ≡ Some part → part.entry.0 < length ns) i
          (λ k. (part_within names source file f part k).0) e;
      exits = λ f part e. of_graph names source file g (λ ns ps m. slice_get ps f ≡ Some part → part.exit.0 < length ns) i
          (λ k. (part_within names source file f part k).1) e;
      few = of_graph names source file g (λ ns ps m. 2 * length ps ≤ length ns) i
          (omega (arith, two_points plan.routines, length_nodes plan, parts_length names source file, routines_length names source file));
    }

pub main_is_there : (names : Names) (source : List ℕ) (file : File) (g : Graph) → IsGraph names source file g
    → IsRunnable (plan_of names source file) → g.main < length g.parts.items
main_is_there names source file g i runs =
    let plan = plan_of names source file in
    of_graph names source file g (λ ns ps m. m < length ps) i
    (omega (
      arith,
      slice_get_within plan.routines plan.main runs.main.0 runs.main.1,
      parts_length names source file,
      routines_length names source
          file,
    ))
