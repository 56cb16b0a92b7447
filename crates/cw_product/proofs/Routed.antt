-- Each function of a program's graph keeps to its own positions.
use Rattle.std.proofs.Common.{◌≡◌, ℕ, ◌<◌, ◌≤◌, List, length, false, Some, None, refl, sym, ap, ◌∙◌, subst, arith}
use Rattle.std.specs.Prelude.{slice_get, option_map}
use Rattle.cw_rights.specs.Policies.{policy_of}
use Rattle.cw_syntax.specs.Names.{Names}
use Rattle.cw_syntax.specs.Trees.{File}
use Rattle.cw_syntax.specs.Plans.{plan_of}
use Rattle.cw_syntax.specs.Runnable.{IsRunnable}
use Rattle.cw_resolve.specs.Scenes.{names_of}
use Rattle.cw_points.specs.declared.graph.Point.TheVariants as point
use Rattle.cw_points.specs.declared.graph.Node.{Node}
use Rattle.cw_points.specs.declared.graph.Part.{Part}
use Rattle.cw_points.specs.declared.graph.Graph.{Graph}
use Rattle.cw_points.specs.Graphs.{IsGraph, node, splits_of}
use Rattle.cw_positions.specs.Positions.{base_of, to, width, entry_of, exit_of}
use Rattle.cw_lemmas.proofs.Lists.{get_below}
use Rattle.cw_positions.proofs.Programs.{of_graph, routine_of, positions_are_closed}
use Rattle.cw_product.specs.Routes.{IsBetween, LeadsBetween, IsRoute}
use Rattle.cw_product.specs.Product.{Held, IsProgramsGraph, game_of}
use Rattle.cw_product.proofs.Between.{NodeGoes, part_order, points_stay}
use Rattle.cw_product.proofs.Alone.{goes_on, points_alone}
use Rattle.cw_product.proofs.Routing.{positions_stay, exits_alone}
use Rattle.cw_product.proofs.Placing.{rise}

module _ (names : Names) (source : List ℕ) (file : File) (run : IsRunnable (plan_of names source file)) (g : Graph)
    (i : IsGraph names source file g) where
  -- each function's points lead to its points
  stay : (f : ℕ) (p : Part) → slice_get g.parts.items f ≡ Some p → (q : ℕ) (m : Node) → slice_get g.nodes.items q ≡ Some m
      → IsBetween p.entry.0 p.exit.0 q → NodeGoes p.entry.0 p.exit.0 m
  stay =
      of_graph names source file g
      (λ ns ps m. (f : ℕ) (p : Part) → slice_get ps f ≡ Some p
      → (q : ℕ) (n : Node) → slice_get ns q ≡ Some n → IsBetween p.entry.0 p.exit.0 q → NodeGoes p.entry.0 p.exit.0 n) i
      (λ f p e q n s b. points_stay 0 (plan_of names source file).routines (splits_of names source file) 0 run.lands f p e q n s
      (omega (arith, b.0)) (omega (arith, b.1)))

  -- none but the last is an exit
  alone : (f : ℕ) (p : Part) → slice_get g.parts.items f ≡ Some p → (q : ℕ) (m : Node) → slice_get g.nodes.items q ≡ Some m
      → IsBetween p.entry.0 p.exit.0 q → goes_on m.point ≡ false → q ≡ p.exit.0
  alone =
      of_graph names source file g
      (λ ns ps m. (f : ℕ) (p : Part) → slice_get ps f ≡ Some p
      → (q : ℕ) (n : Node) → slice_get ns q ≡ Some n → IsBetween p.entry.0 p.exit.0 q → goes_on n.point ≡ false → q ≡ p.exit.0) i
      (λ f p e q n s b x. let z = points_alone 0 (plan_of names source file).routines (splits_of names source file) 0 f p e q n s
      (omega (arith, b.0)) (omega (arith, b.1)) x in omega (arith, z))

  -- and it ends at an exit
  ends : (f : ℕ) (p : Part) → slice_get g.parts.items f ≡ Some p → (n : Node) × (slice_get g.nodes.items p.exit.0 ≡ Some n) × (n.point ≡ point.Exit)
  ends =
      of_graph names source file g
      (λ ns ps m. (f : ℕ) (p : Part) → slice_get ps f ≡ Some p → (n : Node) × (slice_get ns p.exit.0 ≡ Some n) × (n.point ≡ point.Exit)) i
      (λ f p e. let r = routine_of names source file f p e in (node point.Exit f None None, r.2.ends.0, refl))

  order : (f : ℕ) (p : Part) → slice_get g.parts.items f ≡ Some p → p.entry.0 ≤ p.exit.0
  order = of_graph names source file g (λ ns ps m. (f : ℕ) (p : Part) → slice_get ps f ≡ Some p → p.entry.0 ≤ p.exit.0) i
      (λ f p e. part_order (plan_of names source file).routines (splits_of names source file) 0 f p e)

pub routed : (h : Held) → IsProgramsGraph (policy_of h.states.policy) h.graph → (f : ℕ) → f < length h.graph.parts.items → IsRoute (game_of h) f
routed h g f l =
    let policy = policy_of h.states.policy in
    let names = names_of (policy_of h.states.policy) in
    let found = get_below h.graph.parts.items f l in
    let p = found.0 in
    let at = base_of h.graph (policy_of h.states.policy) in
    let w = λ (n : Node). width (policy_of h.states.policy) h.graph.parts.items n.point in
    let entry : at p.entry.0 ≡ entry_of h.graph (policy_of h.states.policy) f = ap (λ o. to at (option_map (λ (q : Part). q.entry.0) o))
    (sym found.1) in
    let exit : at p.exit.0 ≡ exit_of h.graph (policy_of h.states.policy) f = ap (λ o. to at (option_map (λ (q : Part). q.exit.0) o)) (sym found.1) in
    let last = ends names g.source g.file g.runnable h.graph g.drawn f p found.1 in
    let closed = positions_are_closed names g.source g.file h.graph policy g.drawn in
    let low = rise w h.graph.nodes.items p.entry.0 p.exit.0 (order names g.source g.file g.runnable h.graph g.drawn f p found.1) in
    record {
      begins = omega (arith, low, entry, exit);
      ends = closed.exits f l;
      stays = λ q s b e.
          subst (λ x. LeadsBetween (entry_of h.graph (policy_of h.states.policy) f) x q s) exit
          (subst (λ x. LeadsBetween x (at p.exit.0) q s) entry
          (positions_stay policy h.graph.parts.items h.graph.nodes.items p.entry.0 p.exit.0 last.0 last.1 last.2
          (stay names g.source g.file g.runnable h.graph g.drawn f p found.1) q s e
          (omega (arith, b.0, entry), omega (arith, b.1, exit))));
      alone = λ q k b e.
          exits_alone policy h.graph.parts.items h.graph.nodes.items p.entry.0 p.exit.0 last.0 last.1 last.2
          (stay names g.source g.file g.runnable h.graph g.drawn f p found.1) (alone names g.source g.file g.runnable h.graph g.drawn f p found.1) q k e
          (omega (arith, b.0, entry), omega (arith, b.1, exit)) ∙ exit;
    }
