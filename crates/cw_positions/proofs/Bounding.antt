-- What stands at the points of a program is of the policy.
use Rattle.std.proofs.Common.{◌≡◌, ℕ, ◌<◌, ◌≤◌, List, length, Some, sym, subst, arith}
use Rattle.std.specs.Prelude.{slice_get, not}
use Rattle.std.specs.Str.{bytes_eq}
use Rattle.std.proofs.lemmas.List.{length-map}
use Rattle.std.proofs.lemmas.List.Sums.{prefix_len-le-length}
use Rattle.cw_rights.specs.Policies.{PlainPolicy, PlainDescriptor}
use Rattle.cw_syntax.specs.declared.program.Name.{Name}
use Rattle.cw_syntax.specs.Names.{text, number_or_other}
use Rattle.cw_syntax.specs.Trees.{File}
use Rattle.cw_syntax.specs.Plans.{Callee, Action, Computes, Opens, Closes, Invokes, action_of, Routine, plan_of, scene_of}
use Rattle.cw_resolve.specs.Scenes.{names_of}
use Rattle.cw_resolve.proofs.Bounds.{IsWithin, acts_within}
use Rattle.cw_points.specs.declared.graph.Point.{Point}
use Rattle.cw_points.specs.declared.graph.Point.TheVariants as point
use Rattle.cw_points.specs.declared.graph.Node.{Node}
use Rattle.cw_points.specs.declared.graph.Graph.{Graph}
use Rattle.cw_points.specs.Graphs.{nodes, IsGraph}
use Rattle.cw_points.specs.Walks.{parts_of}
use Rattle.cw_positions.specs.Origins.{IsPointWithin}
use Rattle.cw_positions.proofs.Fitting.{ActFits, PointFits, routine_fits, points_fit_from, point_fits}
use Rattle.cw_positions.proofs.Programs.{of_graph, parts_length}

module _ (policy : PlainPolicy) (source : List ℕ) (file : File) where
  act_within : (a : Action) → IsWithin (scene_of (names_of policy) source file) a
      → ActFits (λ d. d < length policy.descriptors) (λ d. d < length policy.descriptors) (λ l. l ≤ length policy.labels)
      (λ callee. callee.number < length file.functions) a
  act_within Computes h = tt
  act_within (Opens d) h = omega (arith, h, length-map policy.descriptors (λ (k : PlainDescriptor). k.name))
  act_within (Closes d) h = omega (arith, h, length-map policy.descriptors (λ (k : PlainDescriptor). k.name))
  act_within (Invokes callee) h = omega (arith, h, length-map file.functions (λ f. text source f.name))

  label_within : (name : Name) → number_or_other policy.labels (text source name) ≤ length policy.labels
  label_within name = prefix_len-le-length (λ x. not (bytes_eq (text source name) x)) policy.labels

  point_within : (w : Point)
      → PointFits (λ d. d < length policy.descriptors) (λ d. d < length policy.descriptors) (λ l. l ≤ length policy.labels)
      (λ callee. callee.number < length file.functions)
      (λ f. f < length file.functions) (λ callee h. h) w
      → IsPointWithin policy (length file.functions) w
  point_within point.Entry h = tt
  point_within point.Step h = tt
  point_within point.Branch h = tt
  point_within (point.Label l) h = h
  point_within (point.Open d) h = h
  point_within (point.Close d) h = h
  point_within (point.Call f) h = h
  point_within point.Exit h = tt

  within_plan : (p : ℕ) (n : Node) → slice_get (nodes (plan_of (names_of policy) source file)) p ≡ Some n
      → IsPointWithin policy (length (parts_of (names_of policy) source file)) n.point
  within_plan p n e =
      let names = names_of policy in
      let c = scene_of names source file in
      let rs = (plan_of names source file).routines in
      let D = λ (d : ℕ). d < length policy.descriptors in
      let L = λ (l : ℕ). l ≤ length policy.labels in
      let K = λ (callee : Callee). callee.number < length file.functions in
      let P = λ (f : ℕ). f < length file.functions in
      let each = λ (f : ℕ) (r : Routine) (s : slice_get rs f ≡ Some r).
      routine_fits D D L K c (λ t. act_within (action_of c t) (acts_within c t)) label_within file.functions 0 f r s in
      let at = point_within n.point (point_fits D D L K P (λ callee h. h) (nodes (plan_of names source file)) p n
      (points_fit_from D D L K P (λ callee h. h) 0 rs 0 each) e) in
      subst (λ k. IsPointWithin policy k n.point) (sym (parts_length names source file)) at

pub points_are_within : (policy : PlainPolicy) (source : List ℕ) (file : File) (g : Graph) → IsGraph (names_of policy) source file g
    → (p : ℕ) (n : Node) → slice_get g.nodes.items p ≡ Some n → IsPointWithin policy (length g.parts.items) n.point
points_are_within policy source file g i p n e =
    of_graph (names_of policy) source file g (λ ns ps m. slice_get ns p ≡ Some n → IsPointWithin policy (length ps) n.point) i
    (within_plan policy source file p n) e
