use Rattle.std.proofs.Common.{◌≡◌, true, false, not, map, Ok, arith, sym, ap, refl, ◌∙◌}
use Rattle.cw_syntax.specs.Trees.{statement_of}
use Rattle.std.proofs.lemmas.Result.{err_from_is_err_and}
use Rattle.cw_grammar.specs.declared.terminals.Terminal.TheVariants as w
use Rattle.cw_expressions.specs.Cursor.{begins}
use Rattle.cw_parse.specs.Lists.{one_more}
use Rattle.cw_parse.proofs.Listed.{many_ends, many_fails, many_further}
use Rattle.cw_parse.specs.StatementReading.{goes_on, block, read_statement}
use Rattle.cw_parse.specs.StatementView.{one}
use Rattle.cw_parse.proofs.Rows.{block_is}
use Rattle.cw_parse.proofs.StatementsSound.{read_shortens}
use Rattle.cw_parse.proofs.Over.{read_over}
use Rattle.cw_parse.proofs.More.{one_more_is, one_more_fails, one_shortens}
use Rattle.cw_parse.proofs.statements.+parser.Goals as goal

pub read-returns-then-depth-eq0 : goal.read-returns-then-depth-eq0
unfolding read_statement
read-returns-then-depth-eq0 t c = rw c.if-depth-eq0.true refl

pub read-returns : goal.read-returns
read-returns t c = rw (read_over c.args.depth (omega (arith, c.if-depth-eq0.false)) c.args.in_block c.args.tokens.now) c.statement_at.ensures

pub block_at-returns : goal.block_at-returns
unfolding block
block_at-returns t c =
    rw (c.in_ok-kids.ensures, c.in_ok-close.ensures.token, block_is c.in_ok-kids.kids) refl

pub listed_at-returns-in_err-statement : goal.listed_at-returns-in_err-statement
listed_at-returns-in_err-statement t c =
    let p = err_from_is_err_and c.from_residual.result c.from_residual.ensures.1 in
    let stay : begins w.CloseBrace c.statements.rest.now ≡ false = sym c.begins_with.ensures.begins ∙ c.statements-test.true in
    rw (p.1, p.2, ← c.statements.invariant) (many_fails (read_statement c.args.depth true) goes_on c.in_err-statement.field-0.0
    (map statement_of c.statements.list.items, c.statements.rest.now) (ap not stay)
    (one_more_fails (read_statement c.args.depth true) c.in_err-statement.field-0.0 (map statement_of c.statements.list.items) c.statements.rest.now c.in_err-statement.ensures))

pub listed_at-statements-smaller : goal.listed_at-statements-smaller
listed_at-statements-smaller t c =
    let stay : begins w.CloseBrace c.statements.rest.now ≡ false = sym c.begins_with.ensures.begins ∙ c.statements-test.true in
    one_shortens c.args.depth c.statements.rest.now (one (c.in_ok-statement.statement, c.in_ok-statement.behind)) (ap not stay) c.in_ok-statement.ensures

pub listed_at-statements-preserved : goal.listed_at-statements-preserved
listed_at-statements-preserved t c =
    let stay : begins w.CloseBrace c.statements.rest.now ≡ false = sym c.begins_with.ensures.begins ∙ c.statements-test.true in
    let more : one_more (read_statement c.args.depth true) (map statement_of c.statements.list.items, c.statements.rest.now) ≡ Ok
    (map statement_of c.put_statement.new.list.items, c.in_ok-statement.behind.now)
    = rw c.in_ok-put_statement.ensures (one_more_is statement_of
    (read_statement c.args.depth true) c.statements.list.items c.in_ok-statement.statement c.statements.rest.now c.in_ok-statement.behind.now c.in_ok-statement.ensures) in
    many_further (read_statement c.args.depth true) goes_on (read_shortens c.args.depth) (map statement_of c.statements.list.items, c.statements.rest.now)
    (map statement_of c.put_statement.new.list.items, c.in_ok-statement.behind.now) (ap not stay) more ∙ c.statements.invariant

pub listed_at-returns : goal.listed_at-returns
listed_at-returns t c =
    let close : begins w.CloseBrace c.statements.rest.now ≡ true = sym c.begins_with.ensures.begins ∙ c.statements-test.false in
    rw c.shrink_to_fit.ensures.items (sym c.statements.invariant
    ∙ many_ends (read_statement c.args.depth true) goes_on (map statement_of c.statements.list.items, c.statements.rest.now) (ap not close))
