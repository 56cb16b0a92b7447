-- Working definitions: what the effects of a source's functions are found out from.
use Rattle.std.specs.Prelude.{◌≡◌, ℕ, List, Some, map, length}
use Rattle.std.specs.List.{All}
use Rattle.cw_syntax.specs.declared.checked.Checked.{Checked}
use Rattle.cw_syntax.specs.Names.{Names, number_in}
use Rattle.cw_syntax.specs.Plans.{function_names}
use Rattle.cw_syntax.specs.Trees.{File, definition_of, file_of}
use Rattle.cw_rights.specs.Policies.{PlainPolicy}
use Rattle.cw_resolve.specs.Scenes.{scene_in}
use Rattle.cw_callgraph.specs.declared.table.Parts.{Parts}
use Rattle.cw_callgraph.specs.Finding.{AreBelow, lists_of, direct}
use Rattle.cw_callgraph.specs.Forbidding.{Forbids, IsLeast, body_places}
use Rattle.cw_callgraph.specs.Lowest.{lowest}
use Rattle.cw_callgraph.specs.Walking.{head_bar}

-- what each function of a source calls, and the least places in its head and in its body
pub record ArePartsOf (checked : Checked) (policy : PlainPolicy) (parts : Parts) : Type 0 where
  pub calls : lists_of parts.calls.rows.items ≡ map (direct (scene_in checked policy)) checked.program.functions.items
  pub below : All (AreBelow (length checked.program.functions.items)) (lists_of parts.calls.rows.items)
  pub heads : parts.bars.heads.items ≡ map head_bar checked.program.functions.items
  pub bodies : parts.bars.bodies.items ≡ map (λ f. lowest (body_places (scene_in checked policy) (file_of checked.program) (definition_of f))) checked.program.functions.items

-- the function of this name is there, and this is the least place that forbids splitting it
pub record IsBarred (source : List ℕ) (file : File) (names : Names) (name : List ℕ) (place : ℕ) : Type 0 where
  pub function : ℕ
  pub defined : number_in (function_names source file) name ≡ Some function
  pub least : IsLeast (Forbids names source file function) (Some place)
