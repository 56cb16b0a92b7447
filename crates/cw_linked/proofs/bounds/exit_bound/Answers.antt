use Rattle.std.proofs.Common.{◌∙◌, suc, sym, ap, arith}
use Rattle.std.proofs.lemmas.Bool.{false≢true, le-ltb, eq-eqb}
use Rattle.cw_core.specs.StateSet.{has as has_member}
use Rattle.cw_game.specs.Pairs.{has}
use Rattle.cw_solve.specs.declared.contexts.Context.{Context}
use Rattle.cw_solve.proofs.Tabling.{read_context}
use Rattle.cw_linked.proofs.Bounding.{main_ends, other_ends}
use Rattle.cw_linked.proofs.bounds.exit_bound.Goals as goal
use Rattle.cw_linked.proofs.bounds.exit_bound.Goals.{then-function-from, else-function-from}

pub returns-then-contains-clause-tells : goal.returns-then-contains-clause-tells
unfolding has_member
returns-then-contains-clause-tells c n =
    let main = c.args.game.now.graph.main in
    let held = has c.args.at.now.context.promise c.args.state.0 in
    elim c.if-function-from.branch [
      | then-function-from w ↦ main_ends c.args.function main held (omega (arith, w.if-function-from.true, c.from.ensures, c.main.ensures))
      | else-function-from w ↦ sym c.if-contains.true ∙ w.value-is ∙ w.contains.ensures.member ∙ ap (λ (x : Context). has x.promise c.args.state.0)
          (read_context c.args.blocks.now c.args.at.now w.number.result w.index.result.now w.number.ensures c.requires.tabled w.index.ensures)
          ∙ other_ends c.args.function main held (λ e. w.if-function-from.false (omega (arith, e, c.from.ensures, c.main.ensures)))
    ]

pub returns-else-contains-clause-tells : goal.returns-else-contains-clause-tells
unfolding has_member
returns-else-contains-clause-tells c n =
    let main = c.args.game.now.graph.main in
    let held = has c.args.at.now.context.promise c.args.state.0 in
    le-ltb (suc n) 1 (omega arith)
    ∙ elim c.if-function-from.branch [
      | then-function-from w ↦ absurd (false≢true (sym c.if-contains.false ∙ w.value-is ∙ eq-eqb c.args.function c.from.result (omega (arith, w.if-function-from.true))))
      | else-function-from w ↦ sym c.if-contains.false ∙ w.value-is ∙ w.contains.ensures.member ∙ ap (λ (x : Context). has x.promise c.args.state.0)
          (read_context c.args.blocks.now c.args.at.now w.number.result w.index.result.now w.number.ensures c.requires.tabled w.index.ensures)
          ∙ other_ends c.args.function main held (λ e. w.if-function-from.false (omega (arith, e, c.from.ensures, c.main.ensures)))
    ]
