use Rattle.std.proofs.Common.{length, ◌∙◌}
use Rattle.cw_product.specs.Product.{game_of}
use Rattle.cw_solve.proofs.Rounding.{round_ends, round_rests}
use Rattle.cw_solve.proofs.rounds.rounds.Goals as goal

pub returns-then-table-written-clause-done : goal.returns-then-table-written-clause-done
returns-then-table-written-clause-done c =
    let g = game_of c.args.game.now in
    let functions = length c.args.game.now.graph.parts.items in
    round_rests g functions c.requires.routed c.rounds.table c.look_all.new.table c.rounds.n c.in_default.ensures.table c.rounds.invariant.round c.in_default.ensures.later c.in_default.ensures.round
    c.if-table-written.true

pub rounds-preserved : goal.rounds-preserved
rounds-preserved c =
    let g = game_of c.args.game.now in
    let functions = length c.args.game.now.graph.parts.items in
    record {
      table = c.in_default.ensures.table;
      blocks = c.in_default.ensures.later.blocks ∙ c.rounds.invariant.blocks;
      round = round_ends g functions c.requires.routed c.rounds.table c.look_all.new.table c.rounds.n c.rounds.invariant.round c.in_default.ensures.later c.in_default.ensures.round
          c.if-table-written.false;
    }
