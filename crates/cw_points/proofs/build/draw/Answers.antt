use Rattle.std.proofs.Common.{◌≡◌, ◌+◌, [], ◌∷◌, ◌++◌, length, map, drop, ap, ap₂, sym, ◌∙◌, arith}
use Rattle.std.proofs.lemmas.List.{drop_all}
use Rattle.std.specs.Prelude.{codes}
use Rattle.cw_syntax.specs.Names.{number_or_other}
use Rattle.cw_syntax.specs.Plans.{Scene, routines_from}
use Rattle.cw_syntax.specs.Trees.{definition_of, file_of}
use Rattle.cw_resolve.proofs.Scening.{scene_is}
use Rattle.cw_points.specs.Graphs.{nodes_from, parts_from, seams_from}
use Rattle.cw_points.specs.Drawing.{drawn_of, nothing_drawn, laid_one, laid_from, parted, split_of}
use Rattle.cw_points.proofs.Functions.{one_function, one_part, no_function, no_part, all_nodes, all_seams, all_parts, one_definition}
use Rattle.cw_points.proofs.Room.{first_function, rest_functions}
use Rattle.cw_points.proofs.build.draw.Goals as goal

pub loop-number-preserved : goal.loop-number-preserved
loop-number-preserved c =
    let s = c.args.scene.now in
    let fs = c.deref-function-items.result.now in
    let f = c.function-item.result in
    let i = c.loop-number.number in
    let def = definition_of f in
    let rest = map definition_of (drop (i + 1) fs) in
    let d = drawn_of c.loop-number.draft in
    let ps = c.loop-number.parts.items in
    let e = one_definition fs f i c.loop-number-test.true c.function-item.is in
    let new = c.in_ok-part.ensures.drawn ∙ ap (λ n. laid_one s n def d) c.function_number-number.ensures in
    let put = c.in_ok-push.ensures.items ∙ ap (λ p. ps ++ p ∷ []) c.in_ok-part.ensures.part in
    record {
      few = rest_functions s c.function_number-number.result def rest (map definition_of (drop i fs)) d (drawn_of c.lay_function.new.draft) e c.in_ok-part.ensures.drawn c.loop-number.invariant.few;
      drawn = ap (laid_from s (i + 1) rest) new ∙ one_function s i def rest d ∙ sym (ap (λ l. laid_from s i l d) e) ∙ c.loop-number.invariant.drawn;
      parts = ap₂ (parted s rest) new put ∙ one_part s i def rest d ps ∙ sym (ap (λ l. parted s l d ps) e) ∙ c.loop-number.invariant.parts;
    }

pub returns : goal.returns
returns c =
    let s = c.args.scene.now in
    let fs = c.deref-function-items.result.now in
    let i = c.loop-number.number in
    let all = (file_of c.args.program.now).functions in
    let d = drawn_of c.loop-number.draft in
    let ps = c.loop-number.parts.items in
    let is = sym (scene_is s (file_of c.args.program.now) c.requires.scene) in
    let none : map definition_of (drop i fs) ≡ [] = ap (map definition_of) (drop_all i fs (omega (arith, c.loop-number-test.false))) in
    let drawn : d ≡ laid_from s 0 all nothing_drawn = sym (no_function s i d) ∙ sym (ap (λ l. laid_from s i l d) none) ∙ c.loop-number.invariant.drawn in
    record {
      nodes = ap (λ d. d.nodes) drawn ∙ all_nodes s all ∙ ap (λ (t : Scene). nodes_from 0 (routines_from t 0 all) 0) is;
      parts = sym (no_part s d ps) ∙ sym (ap (λ l. parted s l d ps) none) ∙ c.loop-number.invariant.parts ∙ all_parts s all
          ∙ ap (λ (t : Scene). parts_from (routines_from t 0 all) (map (split_of t) all) 0) is;
      main = c.main_number-main.ensures ∙ ap (λ (t : Scene). number_or_other t.functions (codes "main")) is;
      seams = ap (λ d. d.seams) drawn ∙ all_seams s all ∙ ap (λ (t : Scene). seams_from (routines_from t 0 all) 0) is;
    }

pub lay_function-requires-clause-few : goal.lay_function-requires-clause-few
lay_function-requires-clause-few c =
    let fs = c.deref-function-items.result.now in
    let i = c.loop-number.number in
    let f = c.function-item.result in
    first_function (length c.loop-number.draft.nodes.items) (definition_of f) (map definition_of (drop (i + 1) fs)) (map definition_of (drop i fs))
    (one_definition fs f i c.loop-number-test.true c.function-item.is) c.loop-number.invariant.few
