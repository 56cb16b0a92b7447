use Rattle.std.proofs.Common.{◌≡◌, length, ap, sym, ◌∙◌, true, false, eqb-true, eq-eqb, arith}
use Rattle.std.proofs.lemmas.Option.{slice_get_past}
use Rattle.cw_product.specs.Product.{Held, game_of}
use Rattle.cw_solve.specs.Numbering.{has_position}
use Rattle.cw_solve.proofs.Numbering.{function_there, has_is, has_not}
use Rattle.cw_solve.proofs.solved.Solved.has_position.Goals as goal

pub returns-then-number-contexts : goal.returns-then-number-contexts
returns-then-number-contexts c =
    ap (has_position (game_of c.args.self.now.game) c.args.pos.0 c.args.promise.now)
    (sym (slice_get_past c.args.self.now.contexts c.args.number (omega (arith, c.contexts.ensures, c.if-number-contexts.true))))

pub entry-first-requires : goal.entry-first-requires
entry-first-requires c =
    rw c.game-game.ensures
    (function_there c.args.self.now (length c.args.self.now.game.graph.parts.items) c.fact_is_kept.ensures.routed c.fact_is_kept.ensures.needed c.args.number c.context-context.result.now
    c.context-context.ensures).below

pub exit-last-requires : goal.exit-last-requires
exit-last-requires c =
    rw c.game-game.ensures
    (function_there c.args.self.now (length c.args.self.now.game.graph.parts.items) c.fact_is_kept.ensures.routed c.fact_is_kept.ensures.needed c.args.number c.context-context.result.now
    c.context-context.ensures).below

pub returns-then-eq : goal.returns-then-eq
returns-then-eq c =
    let f = c.context-context.result.now.function in
    has_is c.args.self.now c.args.pos.0 c.args.promise.now c.args.number c.entry-first.result.0 c.exit-last.result.0 c.context-context.result.now c.is_between.result c.context-context.ensures
    (c.entry-first.ensures.is ∙ ap (λ (x : Held). (game_of x).entry f) c.game-game.ensures) (c.exit-last.ensures.is ∙ ap (λ (x : Held). (game_of x).exit f) c.game-game.ensures)
    c.is_between.ensures (eqb-true c.context-context.result.now.promise c.args.promise.now (sym c.eq.ensures ∙ c.if-eq.true))

pub returns-else-eq : goal.returns-else-eq
returns-else-eq c =
    has_not c.args.self.now c.args.pos.0 c.args.promise.now c.args.number c.context-context.result.now c.context-context.ensures
    (λ e. let w : false ≡ true = sym c.if-eq.false ∙ c.eq.ensures ∙ eq-eqb c.context-context.result.now.promise c.args.promise.now e in cc)
