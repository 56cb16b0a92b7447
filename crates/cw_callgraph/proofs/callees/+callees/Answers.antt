use Rattle.std.proofs.Common.{◌≡◌, ◌<◌, ◌+◌, List, ◌++◌, length, drop, rules, arith, ap, sym, ◌∙◌, subst}
use Rattle.std.specs.Result.{IfOk}
use Rattle.std.proofs.lemmas.List.{at_drop_more}
use Rattle.cw_syntax.specs.declared.program.Stmt.{Stmt}
use Rattle.cw_resolve.specs.Scenes.{stm_in, stms_in}
use Rattle.cw_resolve.proofs.Shapes.{block_steps}
use Rattle.cw_syntax.specs.Trees.{form_of}
use Rattle.cw_syntax.specs.Plans.{steps_of_form}
use Rattle.cw_callgraph.specs.Effects.{callees, callees_all}
use Rattle.cw_callgraph.specs.Finding.{Finds, with_all}
use Rattle.cw_callgraph.proofs.Kept.{finds_both, still, with_both}
use Rattle.cw_callgraph.proofs.callees.+callees.Goals as goal

pub find_callees-returns-in-Block : goal.find_callees-returns-in-Block
find_callees-returns-in-Block t c =
    let s = c.args.scene.now in
    let st = c.args.statement.now in
    let is =
    ap (λ l. callees_all (stms_in s l)) c.deref.ensures.value
    ∙ sym (ap callees (block_steps s st.from st.what c.in-Block.statements c.in-Block.is))
    in
    subst (λ l. IfOk c.find_callees_of_all.result (λ _. Finds l c.args.found.now c.find_callees_of_all.new.found)) is c.find_callees_of_all.ensures

pub find_callees-returns-in-Some : goal.find_callees-returns-in-Some
find_callees-returns-in-Some t c =
    let s = c.args.scene.now in
    let st = c.args.statement.now in
    let arm = stm_in s c.deref-in-If.result.now in
    let other = stm_in s c.deref-in-Some.result.now in
    let is : callees arm ++ callees other ≡ callees (steps_of_form s st.from (form_of st.what)) = search rules in
    still c.find_callees-in-Some.result (λ _. Finds (callees other) c.find_callees-in-If.new.found c.find_callees-in-Some.new.found) _ c.find_callees-in-Some.ensures
    (λ _ f. subst (λ l. Finds l c.args.found.now c.find_callees-in-Some.new.found) is (finds_both (callees arm) (callees other) c.args.found.now c.find_callees-in-If.new.found c.find_callees-in-Some.new.found c.in_ok-find_callees-in-If.ensures f))

pub find_callees_of_all-loop-statement-preserved : goal.find_callees_of_all-loop-statement-preserved
find_callees_of_all-loop-statement-preserved t c =
    let s = c.args.scene.now in
    let xs = c.args.statements.now in
    let i = c.loop-statement.statement-index in
    let x = c.statement-item.result in
    let found = c.loop-statement.found.numbers.items in
    let later = callees_all (stms_in s (drop (i + 1) xs)) in
    let l : i < length xs = omega arith in
    let f : Finds (callees (stm_in s x)) c.loop-statement.found c.find_callees.new.found = c.in_ok-find_callees.ensures in
    let here : callees_all (stms_in s (drop i xs)) ≡ callees (stm_in s x) ++ later =
    at_drop_more (λ (l : List Stmt). callees_all (stms_in s l)) xs i x l ∙ ap (λ (y : Stmt). callees (stm_in s y) ++ later) (sym c.statement-item.is)
    in
    record {
      rest = ap (λ l. with_all l later) f.numbers ∙ sym (with_both found (callees (stm_in s x)) later) ∙ ap (with_all found) (sym here) ∙ c.loop-statement.invariant.rest;
      sound = f.sound;
      wide = f.wide ∙ c.loop-statement.invariant.wide;
    }
