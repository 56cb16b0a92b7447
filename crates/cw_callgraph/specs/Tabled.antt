-- The effects of a source's functions, as one fact.
use Rattle.std.specs.Prelude.{◌≡◌, ◌↔◌, ℕ, List, length}
use Rattle.std.specs.List.{Contains}
use Rattle.std.specs.List.Sorted.{IsStrictlyIncreasing}
use Rattle.cw_syntax.specs.declared.checked.Checked.{Checked}
use Rattle.cw_syntax.specs.Trees.{file_of}
use Rattle.cw_rights.specs.Policies.{PlainPolicy}
use Rattle.cw_resolve.specs.Scenes.{names_of, plan_in}
use Rattle.cw_callgraph.specs.declared.table.Effect.{Effect}
use Rattle.cw_callgraph.specs.Effects.{calls, Reaches, Each}
use Rattle.cw_callgraph.specs.Forbidding.{Forbids, IsLeast}

-- These are the effects of a source's functions under a policy.
pub record AreEffectsOf (checked : Checked) (policy : PlainPolicy) (effects : List Effect) : Type 0 where
  pub count : length effects ≡ length checked.program.functions.items
  pub calls : Each (λ f effect. effect.calls.items ≡ calls (plan_in checked policy) f) effects
  pub ascending : Each (λ f effect. IsStrictlyIncreasing effect.reaches.items) effects
  pub reaches : Each (λ f effect. (g : ℕ) → Contains effect.reaches.items g ↔ Reaches (plan_in checked policy) f g) effects
  pub forbids : Each (λ f effect. IsLeast (Forbids (names_of policy) checked.source.now (file_of checked.program) f) effect.forbids) effects
