-- Working definitions: what the walk over statements holds, and what its steps give.
use Rattle.std.specs.Prelude.{ℕ, List, [], ◌∷◌, ◌++◌, Bool, Option, option_map}
use Rattle.cw_syntax.specs.declared.program.Head.{Head, out-Head}
use Rattle.cw_syntax.specs.declared.program.Function.{Function}
use Rattle.cw_syntax.specs.Trees.{definition_of, Tree, Declared, tree_of, Definition, perhaps_of}
use Rattle.cw_syntax.specs.Plans.{Scene, action_of}
use Rattle.cw_callgraph.specs.declared.scopes.Known.{Known}
use Rattle.cw_callgraph.specs.declared.statements.Setting.{Setting}
use Rattle.cw_callgraph.specs.declared.expressions.Role.TheVariants.{Value}
use Rattle.cw_callgraph.specs.Scoping.{local, parameters}
use Rattle.cw_callgraph.specs.Forbidding.{place_if, places, places_in, given, size, is_seam, init, known_by_init, stated_all, head_places}
use Rattle.cw_callgraph.specs.Lowest.{lowest}

abbrev pub scene_at : Setting → Scene
scene_at t = t.scene.now

abbrev pub source_at : Setting → List ℕ
source_at t = t.scene.now.source

abbrev pub file_at : Setting → List Known
file_at t = t.file.now

abbrev pub item_places : Setting → List Known → Bool → Declared → List ℕ
item_places t inner external i =
    size (source_at t) (file_at t) inner i.array ++ places_in (source_at t) (file_at t) (inner ++ local (source_at t) (file_at t) external i ∷ []) Value i.init

abbrev pub evaluated : Setting → List Known → ℕ → Tree → List ℕ
evaluated t inner at e = place_if (is_seam (action_of (scene_at t) e)) at ++ places (source_at t) (file_at t) inner Value e

abbrev pub head_list : Setting → List Known → Head → List ℕ
head_list t inner h =
    let o = out-Head h in
    init (scene_at t) (file_at t) inner (perhaps_of o.init)
    ++ given (source_at t) (file_at t) (inner ++ known_by_init (scene_at t) (file_at t) (perhaps_of o.init)) (option_map tree_of o.test)
    ++ given (source_at t) (file_at t) (inner ++ known_by_init (scene_at t) (file_at t) (perhaps_of o.init)) (option_map tree_of o.step)

abbrev pub body_under : Scene → List Known → Definition → List ℕ
body_under s known f = stated_all s known (parameters f.params) f.body

-- the least place in the head of a function, and the least in its body
abbrev pub head_bar : Function → Option ℕ
head_bar f = lowest (head_places (definition_of f))

abbrev pub body_bar : Scene → List Known → Function → Option ℕ
body_bar s known f = lowest (body_under s known (definition_of f))
