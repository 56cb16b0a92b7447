use Rattle.std.proofs.Common.{◌≡◌, ◌∷◌, ◌++◌, map, append-nil, refl, ap, sym, ◌∙◌, subst, true}
use Rattle.std.specs.Result.{IfOk}
use Rattle.std.proofs.lemmas.List.{append_assoc}
use Rattle.cw_syntax.specs.declared.program.What.TheVariants.{If}
use Rattle.cw_syntax.specs.Trees.{form_of, statement_of, statements_of}
use Rattle.cw_scope.specs.Walks.{nested, nested_within, nested_all}
use Rattle.cw_scope.specs.Held.{nested_of}
use Rattle.cw_scope.proofs.Pushed.{pushed, further, all_gone}
use Rattle.cw_scope.proofs.Shapes.{block_nested, for_nested}
use Rattle.cw_scope.proofs.Placing.{with_inner, alone, no_inner, no_inner_jump}
use Rattle.cw_scope.proofs.walks.+nested.Goals as goal

pub put_statement-returns-in-Block : goal.put_statement-returns-in-Block
put_statement-returns-in-Block t c =
    let s = c.args.statement.now in
    let looped = c.args.looped in
    let old = c.args.out.now.items in
    let new = map nested_of c.put_statements.new.out.items in
    let is =
    ap (λ l. map nested_of c.push.new.self.items ++ nested_all looped (statements_of l)) c.deref.ensures.value
    ∙ pushed nested_of old c.push.new.self.items (record { statement = c.args.statement; looped = looped }) (nested_all looped (statements_of c.in-Block.statements.items)) c.in_ok-push.ensures.items
    ∙ ap (λ l. map nested_of old ++ (record { statement = statement_of s; looped = looped } ∷ l)) (sym (block_nested looped s.what c.in-Block.statements c.in-Block.is))
    in
    subst (λ l. IfOk c.put_statements.result (λ _. new ≡ l)) is c.put_statements.ensures

pub put_statement-returns-in-Label : goal.put_statement-returns-in-Label
put_statement-returns-in-Label t c =
    let looped = c.args.looped in
    let put = c.push.new.self.items in
    let is =
    ap (λ b. map nested_of put ++ nested looped (statement_of b)) c.deref-in-Label.ensures
    ∙ with_inner looped c.args.statement c.args.out.now.items put (nested looped (statement_of c.in-Label.body.value)) c.in_ok-push.ensures.items
    (ap (λ w. nested_within looped (form_of w)) c.in-Label.is)
    in
    subst (λ l. IfOk c.put_statement.result (λ _. map nested_of c.put_statement.new.out.items ≡ l)) is c.put_statement.ensures

pub put_statement-returns-in-None : goal.put_statement-returns-in-None
put_statement-returns-in-None t c =
    let looped = c.args.looped in
    let put = c.push.new.self.items in
    let first = nested looped (statement_of c.in-If.arm.value) in
    c.in_ok-put_statement-in-If.ensures
    ∙ ap (λ b. map nested_of put ++ nested looped (statement_of b)) c.deref-in-If.ensures
    ∙ with_inner looped c.args.statement c.args.out.now.items put first c.in_ok-push.ensures.items
    (ap (λ w. nested_within looped (form_of w)) c.in-If.is ∙ ap (λ o. nested_within looped (form_of (If c.in-If.field-0 c.in-If.arm o))) c.in-None.is ∙ append-nil first)

pub put_statement-returns-in-Some : goal.put_statement-returns-in-Some
put_statement-returns-in-Some t c =
    let looped = c.args.looped in
    let put = c.push.new.self.items in
    let first = nested looped (statement_of c.in-If.arm.value) in
    let second = nested looped (statement_of c.in-Some.other.value) in
    let is =
    ap (λ b. map nested_of c.put_statement-in-If.new.out.items ++ nested looped (statement_of b)) c.deref-in-Some.ensures
    ∙ ap (λ l. l ++ second) (c.in_ok-put_statement-in-If.ensures ∙ ap (λ b. map nested_of put ++ nested looped (statement_of b)) c.deref-in-If.ensures)
    ∙ append_assoc (map nested_of put) first second
    ∙ with_inner looped c.args.statement c.args.out.now.items put (first ++ second) c.in_ok-push.ensures.items
    (ap (λ w. nested_within looped (form_of w)) c.in-If.is ∙ ap (λ o. nested_within looped (form_of (If c.in-If.field-0 c.in-If.arm o))) c.in-Some.is)
    in
    subst (λ l. IfOk c.put_statement-in-Some.result (λ _. map nested_of c.put_statement-in-Some.new.out.items ≡ l)) is c.put_statement-in-Some.ensures

pub put_statement-returns-in-While : goal.put_statement-returns-in-While
put_statement-returns-in-While t c =
    let looped = c.args.looped in
    let put = c.push.new.self.items in
    let is =
    ap (λ b. map nested_of put ++ nested true (statement_of b)) c.deref-in-While.ensures
    ∙ with_inner looped c.args.statement c.args.out.now.items put (nested true (statement_of c.in-While.body.value)) c.in_ok-push.ensures.items
    (ap (λ w. nested_within looped (form_of w)) c.in-While.is)
    in
    subst (λ l. IfOk c.put_statement-in-While.result (λ _. map nested_of c.put_statement-in-While.new.out.items ≡ l)) is c.put_statement-in-While.ensures

pub put_statement-returns-in-Do : goal.put_statement-returns-in-Do
put_statement-returns-in-Do t c =
    let looped = c.args.looped in
    let put = c.push.new.self.items in
    let is =
    ap (λ b. map nested_of put ++ nested true (statement_of b)) c.deref-in-Do.ensures
    ∙ with_inner looped c.args.statement c.args.out.now.items put (nested true (statement_of c.in-Do.body.value)) c.in_ok-push.ensures.items
    (ap (λ w. nested_within looped (form_of w)) c.in-Do.is)
    in
    subst (λ l. IfOk c.put_statement-in-Do.result (λ _. map nested_of c.put_statement-in-Do.new.out.items ≡ l)) is c.put_statement-in-Do.ensures

pub put_statement-returns-in-For : goal.put_statement-returns-in-For
put_statement-returns-in-For t c =
    let s = c.args.statement.now in
    let looped = c.args.looped in
    let old = c.args.out.now.items in
    let new = map nested_of c.put_statement-in-For.new.out.items in
    let is =
    ap (λ b. map nested_of c.push.new.self.items ++ nested true (statement_of b)) c.deref-in-For.ensures
    ∙ pushed nested_of old c.push.new.self.items (record { statement = c.args.statement; looped = looped }) (nested true (statement_of c.in-For.body.value)) c.in_ok-push.ensures.items
    ∙ ap (λ l. map nested_of old ++ (record { statement = statement_of s; looped = looped } ∷ l)) (sym (for_nested looped s.what c.in-For.field-0 c.in-For.body c.in-For.is))
    in
    subst (λ l. IfOk c.put_statement-in-For.result (λ _. new ≡ l)) is c.put_statement-in-For.ensures

pub put_statement-returns-in-Decl : goal.put_statement-returns-in-Decl
put_statement-returns-in-Decl t c =
    alone c.args.looped c.args.statement c.args.out.now.items c.push.new.self.items c.in_ok-push.ensures.items (no_inner c.args.looped c.args.statement.now.what c.in-Decl.is)

pub put_statement-returns-in-Decl-2 : goal.put_statement-returns-in-Decl-2
put_statement-returns-in-Decl-2 t c =
    alone c.args.looped c.args.statement c.args.out.now.items c.push.new.self.items c.in_ok-push.ensures.items (no_inner c.args.looped c.args.statement.now.what c.in-Decl.is)

pub put_statement-returns-in-Decl-3 : goal.put_statement-returns-in-Decl-3
put_statement-returns-in-Decl-3 t c =
    alone c.args.looped c.args.statement c.args.out.now.items c.push.new.self.items c.in_ok-push.ensures.items (no_inner c.args.looped c.args.statement.now.what c.in-Decl.is)

pub put_statement-returns-in-Break : goal.put_statement-returns-in-Break
put_statement-returns-in-Break t c =
    alone c.args.looped c.args.statement c.args.out.now.items c.push.new.self.items c.in_ok-push.ensures.items (no_inner_jump c.args.looped c.args.statement.now.what c.in-Break.is)

pub put_statement-returns-in-Break-2 : goal.put_statement-returns-in-Break-2
put_statement-returns-in-Break-2 t c =
    alone c.args.looped c.args.statement c.args.out.now.items c.push.new.self.items c.in_ok-push.ensures.items (no_inner_jump c.args.looped c.args.statement.now.what c.in-Break.is)

pub put_statement-returns-in-Break-3 : goal.put_statement-returns-in-Break-3
put_statement-returns-in-Break-3 t c =
    alone c.args.looped c.args.statement c.args.out.now.items c.push.new.self.items c.in_ok-push.ensures.items (no_inner_jump c.args.looped c.args.statement.now.what c.in-Break.is)

pub put_statements-loop-statement-preserved : goal.put_statements-loop-statement-preserved
put_statements-loop-statement-preserved t c =
    let x = c.statement-item.result in
    further (λ l. nested_all c.args.looped (statements_of l)) c.args.statements.now c.loop-statement.statement-index x _ _ (nested c.args.looped (statement_of x)) _ c.loop-statement-test.true
    c.statement-item.is (λ ys. refl) c.in_ok-put_statement.ensures c.loop-statement.invariant

pub put_statements-returns : goal.put_statements-returns
put_statements-returns t c =
    all_gone (λ l. nested_all c.args.looped (statements_of l)) c.args.statements.now c.loop-statement.statement-index _ _ refl c.loop-statement-test.false c.loop-statement.invariant
