use Rattle.std.proofs.Common.{◌≡◌, ◌++◌, refl, ap, sym, ◌∙◌, subst}
use Rattle.std.specs.Result.{IfOk}
use Rattle.cw_syntax.specs.Trees.{statement_of, statements_of}
use Rattle.cw_syntax.proofs.Shapes.{block_form}
use Rattle.cw_scope.proofs.Pushed.{further}
use Rattle.cw_items.specs.Flags.{flags, flags_in, flags_all}
use Rattle.cw_items.proofs.flags.+flags.Goals as goal

pub put_all_flags-loop-statement-preserved : goal.put_all_flags-loop-statement-preserved
put_all_flags-loop-statement-preserved t c =
    let x = c.statement-item.result in
    further (λ l. flags_all c.args.forks.now (statements_of l)) c.args.statements.now c.loop-statement.statement-index x _ _ (flags c.args.forks.now (statement_of x)) _ c.loop-statement-test.true
    c.statement-item.is (λ ys. refl) c.in_ok-put_flags.ensures c.loop-statement.invariant

pub put_flags-returns-in-Block : goal.put_flags-returns-in-Block
put_flags-returns-in-Block t c =
    let s = c.args.statement.now in
    let old = c.args.out.now.items in
    let is =
    ap (λ l. old ++ flags_all c.args.forks.now (statements_of l)) c.deref.ensures.value
    ∙ ap (λ f. old ++ flags_in c.args.forks.now s.from f) (sym (block_form s.what c.in-Block.statements c.in-Block.is))
    in
    subst (λ l. IfOk c.put_all_flags.result (λ _. c.put_all_flags.new.out.items ≡ l)) is c.put_all_flags.ensures
