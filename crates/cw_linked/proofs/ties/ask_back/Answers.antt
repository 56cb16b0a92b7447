use Rattle.std.proofs.Common.{arith}
use Rattle.cw_product.specs.Product.{game_of}
use Rattle.cw_linked.proofs.Telling.{nothing}
use Rattle.cw_linked.proofs.ties.ask_back.Goals as goal

-- a cell that is lost within these moves is asked for by no link that promises for so many
pub returns-then-height-moves : goal.returns-then-height-moves
returns-then-height-moves c =
    record {
      step = nothing (game_of c.args.game.now) c.args.work.now c.requires.long c.requires.high c.requires.right;
      asked = λ less. absurd (omega (arith, less, c.if-height-moves.true, c.height_in-height.ensures.is));
    }

pub returns : goal.returns
returns c = record { step = c.in_ok-ask_return.ensures.step; asked = λ less. c.in_ok-ask_return.ensures }
