use Rattle.std.proofs.Common.{◌≡◌, ◌++◌, length, rules, sym, ap, ◌∙◌}
use Rattle.std.proofs.lemmas.List.{append-nil}
use Rattle.cw_syntax.specs.declared.program.Head.{out-Head}
use Rattle.cw_syntax.specs.Trees.{statement_of, statements_of, perhaps_of}
use Rattle.cw_callgraph.specs.Forbidding.{stated, stated_all, known_by_init}
use Rattle.cw_callgraph.specs.Walking.{scene_at, file_at, head_list}
use Rattle.cw_callgraph.proofs.Nodes.{block_places, for_is, for_known, for_done, cut}
use Rattle.cw_callgraph.proofs.statements.+stated.Goals as goal

pub put_statement-returns-in_ok-put_statements-in-Block-clause-places : goal.put_statement-returns-in_ok-put_statements-in-Block-clause-places
put_statement-returns-in_ok-put_statements-in-Block-clause-places t c =
    let s = scene_at c.args.setting.now in
    let file = file_at c.args.setting.now in
    let inner = c.args.inner.now.items in
    let out = c.args.out.now.items in
    let st = c.args.statement.now in
    c.in_ok-put_statements-in-Block.ensures.places
    ∙ ap (λ l. out ++ stated_all s file inner (statements_of l)) c.deref.ensures.value
    ∙ ap (λ l. out ++ l) (sym (block_places s file inner st.from st.what c.in-Block.statements c.in-Block.is))

pub put_statement-returns-in_ok-put_statement-in-For-clause-places : goal.put_statement-returns-in_ok-put_statement-in-For-clause-places
put_statement-returns-in_ok-put_statement-in-For-clause-places t c =
    let setting = c.args.setting.now in
    let s = scene_at setting in
    let file = file_at setting in
    let inner = c.args.inner.now.items in
    let out = c.args.out.now.items in
    let st = c.args.statement.now in
    let head = c.put_head.new in
    let body = c.put_statement-in-For.new in
    for_done setting inner head.inner.items c.in-For.head.value c.in-For.body.value out head.out.items body.out.items
    (c.in_ok-put_head-in-For.ensures.places ∙ ap (λ h. out ++ head_list setting inner h) c.deref-in-For.ensures)
    (c.in_ok-put_head-in-For.ensures.known ∙ ap (λ h. inner ++ known_by_init s file (perhaps_of (out-Head h).init)) c.deref-in-For.ensures)
    (c.in_ok-put_statement-in-For.ensures.places ∙ ap (λ b. head.out.items ++ stated s file head.inner.items (statement_of b)) c.deref-in-For-2.ensures)
    ∙ ap (λ l. out ++ l) (sym (for_is s file inner st.from st.what c.in-For.head c.in-For.body c.in-For.is))

pub put_statement-returns-in_ok-put_statement-in-For-clause-known : goal.put_statement-returns-in_ok-put_statement-in-For-clause-known
put_statement-returns-in_ok-put_statement-in-For-clause-known t c =
    let s = scene_at c.args.setting.now in
    let file = file_at c.args.setting.now in
    let inner = c.args.inner.now.items in
    let head = c.put_head.new.inner.items in
    let body = c.put_statement-in-For.new.inner.items in
    let depth : c.len-depth.result ≡ length inner = search rules in
    let kept =
    cut inner c.truncate-in-For.new.self.items _ _ c.len-depth.result head body depth c.in_ok-put_head-in-For.ensures.known c.in_ok-put_statement-in-For.ensures.known
    c.truncate-in-For.ensures.items
    in
    kept ∙ sym (append-nil inner) ∙ ap (λ l. inner ++ l) (sym (for_known s file c.args.statement.now.what c.in-For.head c.in-For.body c.in-For.is))
