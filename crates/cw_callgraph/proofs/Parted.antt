-- What the effects of a source's functions are found out from, and the least place that forbids splitting one.
use Rattle.std.proofs.Common.{◌≡◌, ℕ, List, length, refl, sym, subst, Option}
use Rattle.std.specs.List.{Contains}
use Rattle.cw_syntax.specs.declared.checked.Checked.{Checked}
use Rattle.cw_syntax.specs.Trees.{file_of}
use Rattle.cw_rights.specs.Policies.{PlainPolicy}
use Rattle.cw_resolve.specs.Scenes.{scene_in, names_of, plan_in}
use Rattle.cw_callgraph.specs.declared.table.Parts.{Parts}
use Rattle.cw_callgraph.specs.Effects.{calls, Reaches}
use Rattle.cw_callgraph.specs.Finding.{AreReached, next_in}
use Rattle.cw_callgraph.specs.Forbidding.{IsLeast, Forbids}
use Rattle.cw_callgraph.specs.Lowest.{forbidden}
use Rattle.cw_callgraph.specs.Parts.{ArePartsOf}
use Rattle.cw_callgraph.proofs.Calling.{same_calls, rows_count}
use Rattle.cw_callgraph.proofs.Least.{forbidden_is}
use Rattle.cw_callgraph.proofs.Reaching.{same_reach}

module _ (checked : Checked) (policy : PlainPolicy) (parts : Parts) (are : ArePartsOf checked policy parts) where
  pub count : length parts.calls.rows.items ≡ length checked.program.functions.items
  count = rows_count (scene_in checked policy) checked.program.functions.items parts.calls.rows.items are.calls

  pub called : (f : ℕ) → next_in parts.calls.rows.items f ≡ calls (plan_in checked policy) f
  called = same_calls (scene_in checked policy) checked.program.functions.items (plan_in checked policy).main parts.calls.rows.items are.calls

  pub reached_by : (f : ℕ) (numbers : List ℕ) → AreReached (next_in parts.calls.rows.items) f numbers
      → (g : ℕ) → (Contains numbers g → Reaches (plan_in checked policy) f g) × (Reaches (plan_in checked policy) f g → Contains numbers g)
  reached_by = same_reach (plan_in checked policy) (next_in parts.calls.rows.items) called

  pub least_is : (f : ℕ) (numbers : List ℕ) (place : Option ℕ) → AreReached (next_in parts.calls.rows.items) f numbers
      → place ≡ forbidden parts.bars.heads.items parts.bars.bodies.items f numbers
      → IsLeast (Forbids (names_of policy) checked.source.now (file_of checked.program) f) place
  least_is f numbers place r e =
      subst (IsLeast (Forbids (names_of policy) checked.source.now (file_of checked.program) f)) (sym e)
      (forbidden_is (names_of policy) checked.source.now (file_of checked.program) checked.program.functions.items refl parts.bars.heads.items parts.bars.bodies.items are.heads are.bodies f numbers (reached_by f numbers r))
