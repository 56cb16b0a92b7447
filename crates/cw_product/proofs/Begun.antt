-- Where points begin, and how many stages a seam has, seen of the game.
use Rattle.std.proofs.Common.{◌≡◌, ℕ, ◌+◌, ◌<◌, List, length, ap, sym, ◌∙◌, arith}
use Rattle.std.specs.Prelude.{nat_lt}
use Rattle.std.specs.List.{list_any}
use Rattle.cw_rights.specs.declared.policy.Policy.{Policy}
use Rattle.cw_rights.specs.Policies.{PlainPolicy, policy_of}
use Rattle.cw_game.specs.Conditions.{has_stage}
use Rattle.cw_points.specs.declared.graph.Node.{Node}
use Rattle.cw_points.specs.declared.graph.Graph.{Graph}
use Rattle.cw_positions.specs.Positions.{bases, width}
use Rattle.cw_positions.specs.Seams.{stages_of}
use Rattle.cw_positions.proofs.Begins.{begins_length}
use Rattle.cw_product.specs.Product.{Held, game_of}
use Rattle.cw_product.specs.Kept.{IsSound}

pub bases_length : (g : Graph) (policy : PlainPolicy) → length (bases g policy) ≡ length g.nodes.items + 1
bases_length g policy = begins_length (λ (n : Node). width policy g.parts.items n.point) g.nodes.items

module _ (inside h : Held) (is : inside ≡ h) where
  -- each point has a base
  pub first_within : (found : List ℕ) → found ≡ bases inside.graph (policy_of inside.states.policy) → (p : ℕ) → p < length h.graph.nodes.items
      → p < length found
  first_within found e p l = omega (
    arith,
    ap length e,
    bases_length inside.graph (policy_of inside.states.policy),
    ap (λ
        (x : Held). length x.graph.nodes.items) is,
  )

  -- a stage is one of the seam's
  pub stages_seen : IsSound h → (policy : Policy) → policy ≡ h.states.policy → (j i count : ℕ) → count ≡ stages_of inside.graph (policy_of policy) j
      → nat_lt i count ≡ list_any (has_stage j i) (game_of h).spots
  stages_seen sound policy e j i count found =
      ap (nat_lt i) (found ∙ ap (λ (x : Held). stages_of x.graph (policy_of policy) j) is ∙ ap (λ p. stages_of h.graph (policy_of p) j) e) ∙ sym
      (sound.stages j i)
