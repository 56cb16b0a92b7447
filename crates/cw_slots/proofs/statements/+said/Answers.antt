use Rattle.std.proofs.Common.{◌≡◌, ◌∷◌, ◌++◌, map, refl, ap, sym, ◌∙◌, subst}
use Rattle.std.specs.Result.{IfOk}
use Rattle.std.proofs.lemmas.List.{append_assoc}
use Rattle.cw_syntax.specs.declared.program.Head.{out-Head}
use Rattle.cw_syntax.specs.Trees.{statement_of, statements_of, perhaps_of}
use Rattle.cw_value.specs.Deeds.{said, said_all, said_init}
use Rattle.cw_slots.specs.Texts.{statement_at}
use Rattle.cw_scope.proofs.Pushed.{pushed, further}
use Rattle.cw_slots.proofs.Shapes.{block_said, for_said}
use Rattle.cw_slots.proofs.statements.+said.Goals as goal

pub put_statement-returns-in-Block : goal.put_statement-returns-in-Block
put_statement-returns-in-Block t c =
    let s = c.args.statement.now in
    let old = c.args.out.now.items in
    let new = map statement_at c.put_statements.new.out.items in
    let is =
    ap (λ l. map statement_at c.push.new.self.items ++ said_all (statements_of l)) c.deref.ensures.value
    ∙ pushed statement_at old c.push.new.self.items c.args.statement (said_all (statements_of c.in-Block.statements.items)) c.in_ok-push.ensures.items
    ∙ ap (λ l. map statement_at old ++ (statement_of s ∷ l)) (sym (block_said s.what c.in-Block.statements c.in-Block.is))
    in
    subst (λ l. IfOk c.put_statements.result (λ _. new ≡ l)) is c.put_statements.ensures

pub put_statement-returns-in_ok-put_init-in-For : goal.put_statement-returns-in_ok-put_init-in-For
put_statement-returns-in_ok-put_init-in-For t c =
    let s = c.args.statement.now in
    let old = c.args.out.now.items in
    let new = map statement_at c.put_statement-in-For.new.out.items in
    let h = c.in-For.head.value in
    let b = c.in-For.body.value in
    let init = said_init (perhaps_of (out-Head h).init) in
    let begun = map statement_at c.push.new.self.items in
    let is =
    ap (λ x. map statement_at c.put_init.new.out.items ++ said (statement_of x)) c.deref-in-For-2.ensures
    ∙ ap (λ l. l ++ said (statement_of b)) (c.in_ok-put_init-in-For.ensures ∙ ap (λ x. begun ++ said_init (perhaps_of (out-Head x).init)) c.deref-in-For.ensures)
    ∙ append_assoc begun init (said (statement_of b))
    ∙ pushed statement_at old c.push.new.self.items c.args.statement (init ++ said (statement_of b)) c.in_ok-push.ensures.items
    ∙ ap (λ l. map statement_at old ++ (statement_of s ∷ l)) (sym (for_said s.what c.in-For.head c.in-For.body c.in-For.is))
    in
    subst (λ l. IfOk c.put_statement-in-For.result (λ _. new ≡ l)) is c.put_statement-in-For.ensures

pub put_statements-loop-statement-preserved : goal.put_statements-loop-statement-preserved
put_statements-loop-statement-preserved t c =
    let x = c.statement-item.result in
    further (λ l. said_all (statements_of l)) c.args.statements.now c.loop-statement.statement-index x _ _ (said (statement_of x)) _ c.loop-statement-test.true
    c.statement-item.is (λ ys. refl) c.in_ok-put_statement.ensures c.loop-statement.invariant
