use Rattle.std.proofs.Common.{◌≡◌, ◌++◌, map, refl, ap, ap₂, sym, ◌∙◌, subst, is_some, option_map}
use Rattle.std.specs.Result.{IfOk}
use Rattle.std.proofs.lemmas.List.{append_assoc}
use Rattle.cw_syntax.specs.declared.program.Stmt.{Stmt}
use Rattle.cw_syntax.specs.declared.program.Head.{out-Head}
use Rattle.cw_syntax.specs.Plans.{place_if, steps_of_form}
use Rattle.cw_syntax.proofs.Shapes.{block_form}
use Rattle.cw_resolve.specs.Scenes.{stm_in, stms_in}
use Rattle.cw_points.specs.Points.{points_in, points_in_all}
use Rattle.cw_points.proofs.Shapes.{for_form}
use Rattle.cw_scope.proofs.Pushed.{further}
use Rattle.cw_deeds.specs.Rows.{row_of, head_rows}
use Rattle.cw_deeds.proofs.Laid.{both, for_rows}
use Rattle.cw_deeds.proofs.items.+rows.Goals as goal

pub put_statement-returns-in-Block : goal.put_statement-returns-in-Block
put_statement-returns-in-Block t c =
    let s = c.args.scene.now in
    let at = c.args.statement.now.from in
    let is =
    ap (λ l. c.args.rows.now.items ++ map row_of (points_in_all (stms_in s l))) c.deref.ensures.value
    ∙ ap (λ f. c.args.rows.now.items ++ map row_of (points_in (steps_of_form s at f))) (sym (block_form c.args.statement.now.what c.in-Block.statements c.in-Block.is))
    in
    subst (λ l. IfOk c.put_statements.result (λ _. c.put_statements.new.rows.items ≡ l)) is c.put_statements.ensures

pub put_statement-returns-in_ok-put_head-in-For : goal.put_statement-returns-in_ok-put_head-in-For
put_statement-returns-in_ok-put_head-in-For t c =
    let s = c.args.scene.now in
    let at = c.args.statement.now.from in
    let old = c.args.rows.now.items in
    let h = c.in-For.head.value in
    let b = c.in-For.body.value in
    let k = for_form c.args.statement.now.what c.in-For.head c.in-For.body c.in-For.is in
    let body = map row_of (points_in (stm_in s b)) in
    let head =
    c.in_ok-put_head-in-For.ensures
    ∙ ap (λ x. old ++ head_rows (option_map (λ (i : Stmt). i.from) (out-Head x).init) (is_some (out-Head x).test) (is_some (out-Head x).step) at) c.deref-in-For.ensures
    ∙ ap (λ i. old ++ head_rows i (is_some (out-Head h).test) (is_some (out-Head h).step) at) k.head_is.place
    ∙ ap₂ (λ d u. old ++ head_rows (place_if k.init) d u at) k.head_is.decided k.head_is.stepped
    in
    let is =
    ap (λ x. c.put_head.new.rows.items ++ map row_of (points_in (stm_in s x))) c.deref-in-For-2.ensures
    ∙ ap (λ l. l ++ body) head
    ∙ append_assoc old (head_rows (place_if k.init) (is_some k.test) (is_some k.step) at) body
    ∙ ap (λ l. old ++ l) (sym (for_rows at (place_if k.init) (is_some k.test) (is_some k.step) (stm_in s b) (stm_in s b) refl))
    ∙ ap (λ f. old ++ map row_of (points_in (steps_of_form s at f))) (sym k.form_is)
    in
    subst (λ l. IfOk c.put_statement-in-For.result (λ _. c.put_statement-in-For.new.rows.items ≡ l)) is c.put_statement-in-For.ensures

pub put_statements-loop-statement-preserved : goal.put_statements-loop-statement-preserved
put_statements-loop-statement-preserved t c =
    let s = c.args.scene.now in
    let x = c.statement-item.result in
    further (λ l. map row_of (points_in_all (stms_in s l))) c.args.statements.now c.loop-statement.statement-index x _ _ (map row_of (points_in (stm_in s x))) _ c.loop-statement-test.true
    c.statement-item.is (λ ys. both (points_in (stm_in s x)) (points_in_all (stms_in s ys))) c.in_ok-put_statement.ensures c.loop-statement.invariant
