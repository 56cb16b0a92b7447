use Rattle.std.proofs.Common.{length, sym, ◌∙◌}
use Rattle.cw_solve.proofs.Numbering.{under_position, found_in}
use Rattle.cw_solve.proofs.solved.Solved.number_of.Goals as goal

pub function_near-requires : goal.function_near-requires
function_near-requires c =
    under_position c.args.self.now (length c.args.self.now.game.graph.parts.items) c.fact_is_kept.ensures.routed c.args.promise.now c.args.pos.0 c.requires.under

pub returns-then-has_position : goal.returns-then-has_position
returns-then-has_position c =
    found_in c.args.self.now c.number_near-near.result c.args.promise.now c.args.pos.0 (sym c.has_position.ensures ∙ c.if-has_position.true)
