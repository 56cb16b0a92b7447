use Rattle.std.proofs.Common.{◌≤◌, map, ap, sym, ◌∙◌, subst}
use Rattle.cw_syntax.specs.Plans.{scene_of}
use Rattle.cw_syntax.specs.Trees.{definition_of, file_of}
use Rattle.cw_resolve.proofs.Scening.{many_functions}
use Rattle.cw_points.specs.Sizes.{size_from, capped}
use Rattle.cw_points.proofs.Counting.{few_functions, few_points, few_sizes, many_points}
use Rattle.cw_points.proofs.build.build_in.Goals as goal

pub returns-then-count_functions-gt-MOST_POINTS-clause-many : goal.returns-then-count_functions-gt-MOST_POINTS-clause-many
returns-then-count_functions-gt-MOST_POINTS-clause-many c = λ e.
    many_points (scene_of c.args.scene.now.names c.args.scene.now.source (file_of c.args.program.now)) (map definition_of c.args.program.now.functions.items) c.count_functions.result
    (c.count_functions.ensures ∙ ap (λ l. capped (size_from (map definition_of l))) c.deref.ensures.value) c.if-count_functions-gt-MOST_POINTS.true

pub returns-clause-few : goal.returns-clause-few
returns-clause-few c =
    few_points (scene_of c.args.scene.now.names c.args.scene.now.source (file_of c.args.program.now)) (map definition_of c.args.program.now.functions.items) c.count_functions.result
    (c.count_functions.ensures ∙ ap (λ l. capped (size_from (map definition_of l))) c.deref.ensures.value) c.if-count_functions-gt-MOST_POINTS.false

pub draw-requires-clause-functions : goal.draw-requires-clause-functions
draw-requires-clause-functions c =
    subst (λ n. n ≤ 65535) (sym (many_functions c.args.scene.now c.args.program.now c.requires.scene))
    (few_functions c.args.program.now.functions.items c.count_functions.result
    (c.count_functions.ensures ∙ ap (λ l. capped (size_from (map definition_of l))) c.deref.ensures.value) c.if-count_functions-gt-MOST_POINTS.false)

pub draw-requires-clause-few : goal.draw-requires-clause-few
draw-requires-clause-few c =
    few_sizes (map definition_of c.args.program.now.functions.items) c.count_functions.result
    (c.count_functions.ensures ∙ ap (λ l. capped (size_from (map definition_of l))) c.deref.ensures.value) c.if-count_functions-gt-MOST_POINTS.false
