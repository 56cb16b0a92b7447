-- A checked source under the names of a policy: its scene, its statements by their steps, its plan.
use Rattle.std.specs.Prelude.{List, map}
use Rattle.cw_rights.specs.Policies.{PlainPolicy}
use Rattle.cw_syntax.specs.declared.checked.Checked.{Checked}
use Rattle.cw_syntax.specs.declared.program.Stmt.{Stmt}
use Rattle.cw_syntax.specs.Names.{Names}
use Rattle.cw_syntax.specs.Trees.{statement_of, statements_of, file_of}
use Rattle.cw_syntax.specs.Plans.{Stm, Stms, Scene, scene_of, steps_of, steps_of_all, Plan, plan_of}

-- the names that a policy has
abbrev pub names_of : PlainPolicy → Names
names_of policy = record { descriptors = map (λ d. d.name) policy.descriptors; labels = policy.labels; splits = policy.split }

-- a source with the names of its functions and of its policy
abbrev pub scene_in : Checked → PlainPolicy → Scene
scene_in checked policy = scene_of (names_of policy) checked.source.now (file_of checked.program)

-- a statement by its steps, its seams not yet numbered
abbrev pub stm_in : Scene → Stmt → Stm
stm_in s statement = steps_of s (statement_of statement)

abbrev pub stms_in : Scene → List Stmt → Stms
stms_in s statements = steps_of_all s (statements_of statements)

-- the plan of a source's program under a policy
abbrev pub plan_in : Checked → PlainPolicy → Plan
plan_in checked policy = plan_of (names_of policy) checked.source.now (file_of checked.program)
