use Rattle.std.proofs.Common.{sym, arith}
use Rattle.std.proofs.lemmas.List.{length-map}
use Rattle.cw_lemmas.proofs.Lists.{get_mapped}
use Rattle.cw_certs.specs.Strategies.{row_of, strategy_of}
use Rattle.cw_product.specs.Product.{game_of}
use Rattle.cw_play.proofs.FirstRow.{first_row, one_more, some_row}
use Rattle.cw_play.proofs.start.start_row.Goals as goal

pub returns-then-is_start : goal.returns-then-is_start
returns-then-is_start c =
    let lt = rw c.deref-row-items.ensures.value at c.loop-number-test.true in
    let is = rw c.deref-row-items.ensures.value at c.row-item.is in
    record {
      start = first_row (game_of c.args.game.now) (strategy_of c.args.cert.now) c.loop-number.number (row_of c.row-item.result)
          (get_mapped row_of c.args.cert.now.rows.items c.loop-number.number c.row-item.result lt is) (sym c.if-is_start.ensures) c.loop-number.invariant;
    }

pub loop-number-preserved : goal.loop-number-preserved
loop-number-preserved c =
    let lt = rw c.deref-row-items.ensures.value at c.loop-number-test.true in
    let is = rw c.deref-row-items.ensures.value at c.row-item.is in
    one_more (game_of c.args.game.now) (strategy_of c.args.cert.now).rows c.loop-number.number (row_of c.row-item.result)
    (get_mapped row_of c.args.cert.now.rows.items c.loop-number.number c.row-item.result lt is) (sym c.if-is_start.ensures) c.loop-number.invariant

pub unreachable-requires : goal.unreachable-requires
unreachable-requires c =
    let le = rw c.deref-row-items.ensures.value at c.loop-number-test.false in
    some_row (game_of c.args.game.now) (strategy_of c.args.cert.now) c.loop-number.number c.requires.good (omega (arith, le, length-map c.args.cert.now.rows.items row_of)) c.loop-number.invariant
