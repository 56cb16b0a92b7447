use Rattle.std.proofs.Common.{rules, ◌<◌, length, None, Some, Fits, w32, ℕ}
use Rattle.std.proofs.Math.Facts.{Fits-lt-pow}
use Rattle.cw_product.specs.Product.{game_of}
use Rattle.cw_lazy_table.proofs.Choosing.{none_is, some_is}
use Rattle.cw_lazy_table.proofs.Looking.{numbered, height_is}
use Rattle.cw_lazy_table.proofs.choice.is_lost_in.Goals as goal

pub height-requires : goal.height-requires
height-requires c = record { cell = numbered c.args.game.now c.args.solved.now c.requires.ready c.args.number c.args.promise.now c.args.pos.0 c.args.state.0 c.requires.here c.requires.state }

pub returns-in-None : goal.returns-in-None
returns-in-None c =
    none_is (game_of c.args.game.now) (length c.args.game.now.graph.parts.items) c.requires.ready.begins c.args.pos.0 c.args.state.0 c.args.promise.now
    (height_is c.args.game.now c.args.solved.now c.requires.ready c.args.number c.args.promise.now c.args.pos.0 c.args.state.0 None c.requires.here c.in-None.ensures)

fit : {n : ℕ} → Fits w32 n → n < 4294967296
fit f = Fits-lt-pow f

pub returns-in-Some : goal.returns-in-Some
returns-in-Some c =
    some_is (game_of c.args.game.now) (length c.args.game.now.graph.parts.items) c.requires.ready.begins c.args.pos.0 c.args.state.0 c.args.promise.now c.in-Some.field-0 c.requires.state
    (fit (search rules))
    (height_is c.args.game.now c.args.solved.now c.requires.ready c.args.number c.args.promise.now c.args.pos.0 c.args.state.0 (Some c.in-Some.field-0) c.requires.here c.in-Some.ensures)
