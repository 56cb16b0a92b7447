-- A program stands among the positions of its graph.
use Rattle.std.proofs.Common.{◌≡◌, ℕ, ◌<◌, List, length, Some, sym, ◌∙◌, subst, arith, ⊎_elim}
use Rattle.std.specs.Prelude.{slice_get, option_map}
use Rattle.std.proofs.lemmas.List.{length-map}
use Rattle.cw_rights.specs.Policies.{PlainPolicy, PlainDescriptor}
use Rattle.cw_syntax.specs.Trees.{File}
use Rattle.cw_syntax.specs.Plans.{Callee, Action, Computes, Opens, Closes, Invokes, action_of, Routine, plan_of, scene_of}
use Rattle.cw_syntax.specs.Frames.{new_frame}
use Rattle.cw_syntax.specs.Runnable.{IsRunnable}
use Rattle.cw_resolve.specs.Scenes.{names_of}
use Rattle.cw_resolve.proofs.Bounds.{IsWithin, acts_within}
use Rattle.cw_game.specs.declared.spots.Spot.{Spot}
use Rattle.cw_game.specs.declared.spots.Spot.TheVariants.{Call, SplitCall}
use Rattle.cw_game.specs.Games.{Game}
use Rattle.cw_game.specs.Places.{At, IsLaidOut, HasRoutines}
use Rattle.cw_points.specs.declared.graph.Part.{Part}
use Rattle.cw_points.specs.declared.graph.Graph.{Graph}
use Rattle.cw_points.specs.Points.{points}
use Rattle.cw_points.specs.Graphs.{nodes, IsGraph}
use Rattle.cw_points.specs.Walks.{parts_of}
use Rattle.cw_positions.specs.Positions.{is_split, base, to, spots_in, spots}
use Rattle.cw_positions.specs.Closed.{LeadsWithin}
use Rattle.cw_positions.specs.Laid.{IsGameOn}
use Rattle.cw_lemmas.proofs.Lists.{get_below}
use Rattle.cw_positions.proofs.Fitting.{ActFits, AllFit, routine_fits}
use Rattle.cw_positions.proofs.Placing.{at_routine}
use Rattle.cw_positions.proofs.Programs.{of_graph, part_of, parts_length, routines_length, begin_in, end_in, is_closed}
use Rattle.cw_positions.proofs.Splitting.{SplitsAs, acts_split}

module _ (policy : PlainPolicy) (source : List ℕ) (file : File) where
  act_fits : (a : Action) → IsWithin (scene_of (names_of policy) source file) a
      → SplitsAs (names_of policy) source file (plan_of (names_of policy) source file).routines (routines_length (names_of policy) source file) a
      → ActFits (λ d. d < length policy.descriptors) (λ d. d < length policy.descriptors) (λ l. Unit {0})
      (λ callee. callee.split ≡ is_split (parts_of (names_of policy) source file) callee.number) a
  act_fits Computes h s = tt
  act_fits (Opens d) h s = omega (arith, h, length-map policy.descriptors (λ (k : PlainDescriptor). k.name))
  act_fits (Closes d) h s = omega (arith, h, length-map policy.descriptors (λ (k : PlainDescriptor). k.name))
  act_fits (Invokes callee) h s = s

  body_fits : (f : ℕ) (r : Routine) → slice_get (plan_of (names_of policy) source file).routines f ≡ Some r
      → AllFit (λ d. d < length policy.descriptors) (λ d. d < length policy.descriptors) (λ l. Unit {0})
      (λ callee. callee.split ≡ is_split (parts_of (names_of policy) source file) callee.number) r.body
  body_fits f r e =
      let names = names_of policy in
      let c = scene_of names source file in
      let rs = (plan_of names source file).routines in
      let D = λ (d : ℕ). d < length policy.descriptors in
      let K = λ (callee : Callee). callee.split ≡ is_split (parts_of names source file) callee.number in
      routine_fits D D (λ l. Unit {0}) K c (λ t. act_fits (action_of c t) (acts_within c t)
      (acts_split names source file rs (routines_length names source file) t)) (λ name. tt)
      file.functions 0 f r e

  stands_plan : IsRunnable (plan_of (names_of policy) source file) → (f : ℕ) (r : Routine)
      → slice_get (plan_of (names_of policy) source file).routines f ≡ Some r
      → At (spots_in policy (parts_of (names_of policy) source file) (nodes (plan_of (names_of policy) source file))) policy
      (end_in (names_of policy) source file policy (nodes (plan_of (names_of policy) source file)) (parts_of (names_of policy) source file) f)
      (new_frame f r)
      (begin_in (names_of policy) source file policy (nodes (plan_of (names_of policy) source file)) (parts_of (names_of policy) source file) f)
  stands_plan runs f r e =
      let names = names_of policy in
      let plan = plan_of names source file in
      let ns = nodes plan in
      let ps = parts_of names source file in
      let at = base policy ps ns in
      let p = part_of names source file f r e in
      let stands = at_routine policy ps ns (points plan) f p.0.exit.0 r p.0.entry.0 (body_fits f r e) (runs.lands f r e) p.2 in
      subst (λ o. At (spots_in policy ps ns) policy (to at (option_map (λ (q : Part). q.exit.0) o)) (new_frame f r)
      (to at (option_map (λ (q : Part). q.entry.0) o))) (sym p.1) stands

  pub laid_out : (g : Graph) (game : Game) → IsGraph (names_of policy) source file g → IsRunnable (plan_of (names_of policy) source file)
      → IsGameOn g policy game
      → IsLaidOut (plan_of (names_of policy) source file) game
  laid_out g game i runs o =
      let names = names_of policy in
      let stands = λ (f : ℕ) (r : Routine) (s : slice_get (plan_of names source file).routines f ≡ Some r).
      let on = of_graph names source file g (λ ns ps m. At (spots_in policy ps ns) policy (end_in names source file policy ns ps f) (new_frame f r)
      (begin_in names source file policy ns ps f)) i
      (stands_plan runs f r s) in
      subst (λ l. At l game.policy (game.exit f) (new_frame f r) (game.entry f)) (sym o.spots)
      (subst (λ pol. At (spots_in policy g.parts.items g.nodes.items) pol (game.exit f) (new_frame f r) (game.entry f)) (sym o.under)
      (subst (λ n. At (spots_in policy g.parts.items g.nodes.items) policy n (new_frame f r) (game.entry f)) (sym (o.exit f))
      (subst (λ n. At (spots_in policy g.parts.items g.nodes.items) policy (end_in names source file policy g.nodes.items g.parts.items f)
      (new_frame f r) n) (sym (o.entry f)) on))) in
      record { main = sym i.main ∙ sym o.main; functions = stands }

  -- a function that is called is there
  routine_below : (f : ℕ) → f < length (parts_of (names_of policy) source file)
      → (r : Routine) × (slice_get (plan_of (names_of policy) source file).routines f ≡ Some r)
  routine_below f h =
      let names = names_of policy in
      get_below (plan_of names source file).routines f (omega (arith, h, parts_length names source file, routines_length names source file))

  pub has_routines : (g : Graph) (game : Game) → IsGraph (names_of policy) source file g → IsRunnable (plan_of (names_of policy) source file)
      → IsGameOn g policy game
      → HasRoutines (plan_of (names_of policy) source file) game
  has_routines g game i runs o =
      let plan = plan_of (names_of policy) source file in
      let closed = is_closed (names_of policy) source file policy g i in
      let below : (f : ℕ) → f < length g.parts.items → (r : Routine) × (slice_get plan.routines f ≡ Some r) =
      λ f h. routine_below f (subst (λ (ps : List Part). f < length ps) i.parts h) in
      let at : (p : ℕ) (s : Spot) → slice_get game.spots p ≡ Some s → LeadsWithin (length (spots g policy)) (length g.parts.items) p s =
      λ p s e. closed.leads p s (subst (λ l. slice_get l p ≡ Some s) o.spots e) in
      record {
        main = subst (λ m. (r : Routine) × (slice_get plan.routines m ≡ Some r)) (sym i.main ∙ sym o.main) runs.main;
        called = λ p j f n e. ⊎_elim (λ y. below f (at p (Call j f n) y).0) (λ y. below f (at p (SplitCall j f n) y).0) e;
      }
