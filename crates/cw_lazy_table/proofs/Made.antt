-- The positions of a made game are as the lazy table asks, and heights tell what is lost.
use Rattle.std.proofs.Common.{◌≡◌, ◌⊎◌, inl, inr, ℕ, ◌+◌, ◌<◌, List, Bool, true, false, Option, Some, None, length, refl, sym, ap, ◌∙◌, subst, arith}
use Rattle.std.specs.Prelude.{slice_get, option_map}
use Rattle.cw_rights.specs.declared.capabilities.Primitive.{Primitive}
use Rattle.cw_rights.specs.Policies.{PlainPolicy, policy_of}
use Rattle.cw_syntax.specs.Names.{Names}
use Rattle.cw_syntax.specs.Trees.{File}
use Rattle.cw_syntax.specs.Plans.{plan_of}
use Rattle.cw_resolve.specs.Scenes.{names_of}
use Rattle.cw_points.specs.declared.graph.Node.{Node}
use Rattle.cw_points.specs.declared.graph.Part.{Part}
use Rattle.cw_points.specs.declared.graph.Seam.{Seam}
use Rattle.cw_points.specs.declared.graph.Point.TheVariants as point
use Rattle.cw_points.specs.Graphs.{node, nodes, seams_from}
use Rattle.cw_points.specs.Walks.{parts_of}
use Rattle.cw_positions.specs.Positions.{base, to}
use Rattle.cw_lemmas.proofs.Lists.{get_below}
use Rattle.cw_positions.proofs.Programs.{of_graph, routine_of}
use Rattle.cw_positions.proofs.Seaming.{AreSeams, seams_of_plan}
use Rattle.cw_game.specs.declared.spots.Spot.TheVariants.{Asked, Label, Open, Close, Call, SplitCall, Exit}
use Rattle.cw_game.specs.Games.{Game, IsLost}
use Rattle.cw_game.specs.Pairs.{has, all_states, Called, call_in, call_spot}
use Rattle.cw_states.specs.States.{lists_of}
use Rattle.cw_states.proofs.Below.{stay_below}
use Rattle.cw_product.specs.Product.{Held, game_of}
use Rattle.cw_product.specs.Uses.{uses_of}
use Rattle.cw_product.specs.Routed.{IsOf}
use Rattle.cw_solve.specs.Contexts.{context, HeightIs, IsNeeded}
use Rattle.cw_product.specs.Made.{IsMade}
use Rattle.cw_solve.proofs.Falls.{call_is}
use Rattle.cw_solve.proofs.Routing.{routed_of}
use Rattle.cw_lazy_table.specs.Laws.{CanBegin}
use Rattle.cw_lazy_table.specs.Staged.{IsAsked, AreStaged, IsKnown}
use Rattle.cw_lazy_table.proofs.Staging.{of_point, visit_behind, visit_past, asked_once, seam_key_once}
use Rattle.cw_lazy_table.proofs.Stepping.{to_unasked, move_unasked}

-- where each pair that the game needs has a height, or none, it is known whether it is lost
pub known_of : (g : Game) → ((f p q e : ℕ) → IsNeeded g (context f e) → IsOf g f p → q < g.states.count → (h : Option ℕ) × HeightIs g p q e h) → IsKnown g
known_of g heights f p q e need of lt = let h = heights f p q e need of lt in by h.0 h.1
  where
    by : (o : Option ℕ) → HeightIs g p q e o → IsLost g p q (has e) ⊎ (IsLost g p q (has e) → ⊥)
    by (Some n) is = inl (n, is.lost)
    by None holds = inr (λ l. let z : true ≡ false = sym (holds l.0) ∙ l.1 in cc)

-- a part ends at the exit of its function
abbrev EndAt : List Node → List Part → ℕ → Type 0
EndAt ns ps m = (f : ℕ) (part : Part) → slice_get ps f ≡ Some part → slice_get ns part.exit.0 ≡ Some (node point.Exit f None None)

plan_ends : (names : Names) (source : List ℕ) (file : File) → EndAt (nodes (plan_of names source file)) (parts_of names source file) (plan_of names source file).main
plan_ends names source file f part e = (routine_of names source file f part e).2.ends.0

module _ (h : Held) (made : IsMade h) where
  abbrev policy : PlainPolicy
  policy = policy_of h.states.policy

  abbrev g : Game
  g = game_of h

  abbrev ns : List Node
  ns = h.graph.nodes.items

  abbrev ps : List Part
  ps = h.graph.parts.items

  abbrev names : Names
  names = names_of policy

  abbrev ss : List Seam
  ss = seams_from (plan_of names made.graph.source made.graph.file).routines 0

  are_seams : AreSeams 0 0 h.graph.nodes.items ss
  are_seams = subst (λ (ms : List Node). AreSeams 0 0 ms ss) (sym made.graph.drawn.nodes) (seams_of_plan names made.graph.source made.graph.file)

  unasked : (p : ℕ) → ((x y : ℕ) (b : Primitive) → slice_get (game_of h).spots p ≡ Some (Asked x y b) → ⊥) → IsAsked (game_of h) p → ⊥
  unasked p u k = u k.0 k.1 k.2 k.3

  begins_unasked : (f : ℕ) → IsAsked (game_of h) ((game_of h).entry f) → ⊥
  begins_unasked f k = unasked (g.entry f) (to_unasked policy ps ns (option_map (λ (part : Part). part.entry.0) (slice_get ps f))) k

  -- the part of a function that is called
  called_part : (p : ℕ) (call : Called) → call_in (slice_get (game_of h).spots p) ≡ Some call → (part : Part) × (slice_get h.graph.parts.items call.function ≡ Some part)
  called_part p call e = get_below ps call.function ((routed_of h made).called p call e).below

  exit_there : (f : ℕ) (part : Part) → slice_get h.graph.parts.items f ≡ Some part → slice_get (game_of h).spots ((game_of h).exit f) ≡ Some (Exit f)
  exit_there f part e =
      let ends = of_graph names made.graph.source made.graph.file h.graph EndAt made.graph.drawn (plan_ends names made.graph.source made.graph.file) f part e in
      let at : g.exit f ≡ base policy ps ns part.exit.0 + 0 = omega (arith, ap (λ (o : Option Part). to (base policy ps ns) (option_map (λ (q : Part). q.exit.0) o)) e) in
      ap (slice_get g.spots) at ∙ of_point policy ps ns part.exit.0 (node point.Exit f None None) 0 (Exit f) ends refl

  same_call : (p r : ℕ) (c d : Called) → call_in (slice_get (game_of h).spots p) ≡ Some c → call_in (slice_get (game_of h).spots r) ≡ Some d → c.seam ≡ d.seam → c.split ≡ d.split → p ≡ r
  same_call p r c d e k js ms = by c.split d.split ms (call_is (slice_get g.spots p) c e) (call_is (slice_get g.spots r) d k)
    where
      by : (a b : Bool) → a ≡ b → slice_get (game_of h).spots p ≡ Some (call_spot a c.seam c.function c.back) → slice_get (game_of h).spots r ≡ Some (call_spot b d.seam d.function d.back) → p ≡ r
      by true true m e k = seam_key_once policy ps ns ss are_seams p r 1 (SplitCall c.seam c.function c.back) (SplitCall d.seam d.function d.back) refl refl js e k
      by false false m e k = seam_key_once policy ps ns ss are_seams p r 0 (Call c.seam c.function c.back) (Call d.seam d.function d.back) refl refl js e k
      by true false m e k = cc
      by false true m e k = cc

  pub staged_of : AreStaged (game_of h)
  staged_of = record {
    behind = visit_behind policy ps ns;
    skipped = λ p j i a e k. visit_past policy ps ns p j i k.0 k.1 a k.2 e k.3;
    moved = λ p r w c k. unasked r (move_unasked policy ps ns p r (slice_get g.spots p) refl w c) k;
    started = begins_unasked g.main;
    called = λ p call e. begins_unasked call.function;
    asks = λ p r j i a b e k. asked_once policy ps ns ss are_seams p r j i a b e k;
    labels = λ p r j l k m n e f. seam_key_once policy ps ns ss are_seams p r 0 (Label j l m) (Label j k n) refl refl refl e f;
    opens = λ p r j d k m n e f. seam_key_once policy ps ns ss are_seams p r 0 (Open j d m) (Open j k n) refl refl refl e f;
    closes = λ p r j d k m n e f. seam_key_once policy ps ns ss are_seams p r 0 (Close j d m) (Close j k n) refl refl refl e f;
    calls = same_call;
    ends = λ p call e. let q = called_part p call e in exit_there call.function q.0 q.1;
    not_main = λ p call e. made.leaves.uncalled p call e;
  }

-- so the lazy table of a made game can begin, where its start holds
pub can_begin : (h : Held) → IsMade h → HeightIs (game_of h) ((game_of h).entry (game_of h).main) (game_of h).states.start (all_states (game_of h)) None
    → CanBegin (game_of h) (length h.graph.parts.items)
can_begin h made holds = record {
  routed = routed_of h made;
  staged = staged_of h made;
  first = (stay_below (uses_of (policy_of h.states.policy) h.graph.nodes.items) (lists_of h.states) made.lists).start;
  kept = λ l. let z : true ≡ false = sym (holds l.0) ∙ l.1 in cc;
}
