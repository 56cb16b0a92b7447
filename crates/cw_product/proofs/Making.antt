-- What is made is kept, and why nothing is made.
use Rattle.std.proofs.Common.{◌≡◌, ℕ, ◌*◌, ◌<◌, ◌≤◌, length, sym, ap, ◌∙◌, subst, arith}
use Rattle.std.proofs.Math.Nat.{mul-le-mul_left}
use Rattle.cw_core.specs.declared.quantity.Quantity.TheVariants.{PositionsTimesStates}
use Rattle.cw_core.specs.Quantities.{limit_of}
use Rattle.cw_rights.specs.declared.policy.Policy.{Policy}
use Rattle.cw_rights.specs.Policies.{PlainPolicy, policy_of}
use Rattle.cw_resolve.specs.Scenes.{names_of}
use Rattle.cw_points.specs.declared.graph.Graph.{Graph}
use Rattle.cw_positions.specs.declared.layout.Positions.{Positions}
use Rattle.cw_positions.specs.Positions.{bases, spots}
use Rattle.cw_positions.proofs.Programs.{is_whole, main_is_there, positions_are_closed}
use Rattle.cw_positions.proofs.Seen.{seams_are_seen, stages_are_seen}
use Rattle.cw_states.specs.declared.uses.Uses.{Uses}
use Rattle.cw_states.specs.declared.fault.StatesFault.{StatesFault}
use Rattle.cw_states.specs.declared.fault.StatesFault.TheVariants as states
use Rattle.cw_states.specs.States.{Held as HeldStates, AreFew, AreLists, count, lists_of, IsCause as IsStatesCause}
use Rattle.cw_states.specs.Below.{StayBelow}
use Rattle.cw_states.proofs.Below.{stay_below}
use Rattle.cw_product.specs.Faults.{fault_of}
use Rattle.cw_product.specs.Uses.{uses_of}
use Rattle.cw_product.specs.Product.{Held, IsCause, IsProgramsGraph, game_of}
use Rattle.cw_product.specs.Kept.{IsKept, IsSound}
use Rattle.cw_product.proofs.Fine.{are_fine}
use Rattle.cw_product.proofs.Routed.{routed}

-- the states' fault is the game's
cause_by : (policy : PlainPolicy) (graph : Graph) (s : StatesFault) → IsStatesCause policy (uses_of policy graph.nodes.items) s
    → IsCause policy graph (fault_of s)
cause_by policy graph states.TooManyCaps h = h
cause_by policy graph states.TooManyWords h = h
cause_by policy graph states.TooManyStates h = h
cause_by policy graph states.NoMemory h = tt

pub cause_of : (policy : PlainPolicy) (graph : Graph) (uses : Uses) → uses ≡ uses_of policy graph.nodes.items → (s : StatesFault)
    → IsStatesCause policy uses s
    → IsCause policy graph (fault_of s)
cause_of policy graph uses e s h = cause_by policy graph s (subst (λ u. IsStatesCause policy u s) e h)

-- a factor of a product that is within a limit, where the other isn't 0
factor : (a b most : ℕ) → a * b ≤ most → 0 < b → a ≤ most
factor a b most h some = omega (arith, h, mul-le-mul_left a some)

sound : (h : Held) → IsProgramsGraph (policy_of h.states.policy) h.graph → length h.graph.nodes.items ≤ 8192
    → AreLists (uses_of (policy_of h.states.policy) h.graph.nodes.items) (lists_of h.states)
    → AreFew (lists_of h.states) → length (game_of h).spots * count (lists_of h.states) ≤ limit_of PositionsTimesStates → IsSound h
sound h g narrow lists few pairs =
    let policy = policy_of h.states.policy in
    let whole = is_whole (names_of policy) g.source g.file h.graph g.drawn in
    let below : StayBelow (game_of h).states = stay_below (uses_of policy h.graph.nodes.items) (lists_of h.states) lists in
    record {
      narrow = narrow;
      few = factor (length (game_of h).spots) (count (lists_of h.states)) (limit_of PositionsTimesStates) pairs (omega (arith, below.start));
      pairs = pairs;
      few_states = few;
      fine = are_fine h g narrow;
      leads = (positions_are_closed (names_of policy) g.source g.file h.graph policy g.drawn).leads;
      routes = routed h g;
      parts = λ f part e. (whole.entries f part e, whole.exits f part e);
      main = main_is_there (names_of policy) g.source g.file h.graph g.drawn g.runnable;
      points = (positions_are_closed (names_of policy) g.source g.file h.graph policy g.drawn).points;
      seams = seams_are_seen (names_of policy) g.source g.file h.graph policy g.drawn;
      stages = stages_are_seen (names_of policy) g.source g.file h.graph policy g.drawn;
      below = below;
    }

module _ (graph : Graph) (policy : Policy) (s : HeldStates) (same : s.policy ≡ policy) where
  abbrev held : Held
  held = record { graph = graph; states = s }

  sound_made : IsProgramsGraph (policy_of policy) graph → length graph.nodes.items ≤ 8192
      → AreLists (uses_of (policy_of policy) graph.nodes.items) (lists_of s)
      → AreFew (lists_of s) → length (spots graph (policy_of policy)) * count (lists_of s) ≤ limit_of PositionsTimesStates
      → IsSound (record { graph = graph; states = s })
  sound_made g narrow lists few pairs =
      let back = sym (ap policy_of same) in
      sound held (subst (λ p. IsProgramsGraph p graph) back g) narrow (subst (λ p. AreLists (uses_of p graph.nodes.items)
      (lists_of s)) back lists) few
      (subst (λ p. length (spots graph p) * count (lists_of s) ≤ limit_of PositionsTimesStates) back pairs)

  pub kept : (positions : Positions) → positions.spots.items ≡ spots graph (policy_of policy)
      → positions.bases.items ≡ bases graph (policy_of policy)
      → IsProgramsGraph (policy_of policy) graph → length graph.nodes.items ≤ 8192
      → AreLists (uses_of (policy_of policy) graph.nodes.items) (lists_of s) → AreFew (lists_of s)
      → (n k most : ℕ) → n ≡ length (spots graph (policy_of policy)) → k ≡ count (lists_of s) → most ≡ limit_of PositionsTimesStates → n * k ≤ most
      → IsKept (record { graph = graph; states = s }) policy positions
  kept positions es eb g narrow lists few n k most en ek em pairs =
      let back = sym (ap policy_of same) in
      record {
        same_policy = same;
        same_spots = es ∙ ap (λ p. spots graph p) back;
        same_bases = eb ∙ ap (λ p. bases graph p) back;
        sound = sound_made g narrow lists few (subst (λ m. length (spots graph (policy_of policy)) * count (lists_of s) ≤ m) em
            (subst (λ c. length (spots graph (policy_of policy)) * c ≤ most) ek (subst (λ m. m * k ≤ most) en pairs)));
      }
