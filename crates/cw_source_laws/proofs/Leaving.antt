-- No position of the graph of a program that is read calls `main`.
use Rattle.std.proofs.Common.{◌≡◌, ℕ, List, Bool, true, false, Some, refl, ap, ◌∙◌, subst}
use Rattle.std.specs.Prelude.{slice_get, codes}
use Rattle.cw_rights.specs.Policies.{PlainPolicy}
use Rattle.cw_syntax.specs.Names.{Names, number_or_other}
use Rattle.cw_syntax.specs.Trees.{File}
use Rattle.cw_syntax.specs.Plans.{Callee, Routine, plan_of, scene_of, function_names}
use Rattle.cw_source.specs.Read.{ReadsAs}
use Rattle.cw_points.specs.declared.graph.Point.TheVariants as point
use Rattle.cw_points.specs.declared.graph.Node.{Node}
use Rattle.cw_points.specs.declared.graph.Part.{Part}
use Rattle.cw_points.specs.declared.graph.Graph.{Graph}
use Rattle.cw_points.specs.Graphs.{nodes, IsGraph}
use Rattle.cw_points.specs.Walks.{parts_of}
use Rattle.cw_positions.specs.Positions.{spots}
use Rattle.cw_positions.proofs.Fitting.{PointFits, routine_fits_where, points_fit_from, point_fits}
use Rattle.cw_positions.proofs.Origins.{positions_are_of_points}
use Rattle.cw_positions.proofs.Programs.{of_graph}
use Rattle.cw_game.specs.declared.spots.Spot.TheVariants.{Call, SplitCall}
use Rattle.cw_game.specs.Pairs.{Called, call_spot}
use Rattle.cw_product.specs.Made.{LeavesMain}
use Rattle.cw_solve.proofs.Falls.{call_is}
use Rattle.cw_source_laws.proofs.Scoped.{LeavesAll, statements_leave, acts_leave}

-- no point calls the function with this number
abbrev NoneCalls : List Node → List Part → ℕ → Type 0
NoneCalls ns ps m = (p : ℕ) (n : Node) → slice_get ns p ≡ Some n → n.point ≡ point.Call m → ⊥

plan_leaves : (names : Names) (source : List ℕ) (file : File) → ReadsAs source file → NoneCalls (nodes (plan_of names source file)) (parts_of names source file) (plan_of names source file).main
plan_leaves names source file reads p n e is =
    let main = number_or_other (function_names source file) (codes "main") in
    let U = λ (d : ℕ). Unit {0} in
    let K = λ (callee : Callee). callee.number ≡ main → ⊥ in
    let P = λ (f : ℕ). f ≡ main → ⊥ in
    let plan = plan_of names source file in
    let each = λ (f : ℕ) (r : Routine) (s : slice_get plan.routines f ≡ Some r).
    routine_fits_where U U U K (scene_of names source file) (LeavesAll source) (acts_leave source names file) (λ name. tt) file.functions 0 f r (statements_leave source file reads.scoped) s in
    let fits = point_fits U U U K P (λ callee h. h) (nodes plan) p n (points_fit_from U U U K P (λ callee h. h) 0 plan.routines 0 each) e in
    subst (PointFits U U U K P (λ callee h. h)) is fits refl

pub leaves_main : (names : Names) (policy : PlainPolicy) (source : List ℕ) (file : File) (graph : Graph) → ReadsAs source file → IsGraph names source file graph → LeavesMain policy graph
leaves_main names policy source file graph reads drawn = record {
  uncalled = λ p call e is. by p call is call.split (call_is (slice_get (spots graph policy) p) call e);
}
  where
    none : NoneCalls graph.nodes.items graph.parts.items graph.main
    none = of_graph names source file graph NoneCalls drawn (plan_leaves names source file reads)

    by : (p : ℕ) (call : Called) → call.function ≡ graph.main → (split : Bool) → slice_get (spots graph policy) p ≡ Some (call_spot split call.seam call.function call.back) → ⊥
    by p call is true e = let o = positions_are_of_points graph policy p (SplitCall call.seam call.function call.back) e in none o.0 o.1 o.2 (o.3.1 ∙ ap (λ f. point.Call f) is)
    by p call is false e = let o = positions_are_of_points graph policy p (Call call.seam call.function call.back) e in none o.0 o.1 o.2 (o.3.1 ∙ ap (λ f. point.Call f) is)
