use Rattle.std.proofs.Common.{sym, subst}
use Rattle.cw_product.specs.Product.{game_of}
use Rattle.cw_solve.specs.Numbering.{IsUnder, IsNumberOf}
use Rattle.cw_solve.specs.Solved.{Held}
use Rattle.cw_lazy_table.proofs.looked.Looked.number_of.Goals as goal

pub number_of-requires : goal.number_of-requires
number_of-requires c = record { under = subst (λ (s : Held). IsUnder (game_of s.game) c.args.pos.0 c.args.promise.now) (sym c.self.view_is) c.requires.under }

pub returns-else-has_position : goal.returns-else-has_position
returns-else-has_position c = subst (λ (s : Held). IsNumberOf (game_of s.game) s.contexts c.number_of.result c.args.promise.now c.args.pos.0) c.self.view_is c.number_of.ensures
