use Rattle.std.proofs.Common.{◌≡◌, ◌+◌, ℕ, length, sym, ap, ◌∙◌, subst, arith, refl}
use Rattle.cw_product.specs.Product.{game_of}
use Rattle.cw_solve.specs.Rounds.{slot}
use Rattle.cw_solve.specs.Tables.{IsInRound}
use Rattle.cw_solve.proofs.Slots.{slot_run}
use Rattle.cw_solve.proofs.Tabling.{there_at}
use Rattle.cw_solve.proofs.look.look_state.Goals as goal

pub entry-p-requires : goal.entry-p-requires
entry-p-requires c =
    let at = c.args.at.now in
    rw c.function-function.ensures (there_at (game_of c.args.game.now) (length c.args.game.now.graph.parts.items) c.requires.routed c.args.table.now.blocks c.requires.table.blocks at.number
    at.context c.requires.tabled).below

pub exit-p-end-requires : goal.exit-p-end-requires
exit-p-end-requires c =
    let at = c.args.at.now in
    rw c.function-function.ensures (there_at (game_of c.args.game.now) (length c.args.game.now.graph.parts.items) c.requires.routed c.args.table.now.blocks c.requires.table.blocks at.number
    at.context c.requires.tabled).below

pub overflow_add-p-end : goal.overflow_add-p-end
overflow_add-p-end c = let lt = c.exit-p-end.ensures.within in let short = c.requires.routed.short in omega (arith, lt, short)

pub loop-p-init : goal.loop-p-init
loop-p-init c =
    let g = game_of c.args.game.now in
    let t = c.args.table.now in
    let at = c.args.at.now in
    record {
      table = c.requires.table;
      later = record { blocks = refl; more = omega arith; same = λ e. refl };
      tabled = c.requires.tabled;
      round = subst (λ (s : ℕ). IsInRound g t c.args.n s)
          (ap (λ (p : ℕ). slot g t.blocks.contexts.items at.number at.context.function p c.args.state.0) (sym (c.entry-p.ensures.is ∙ ap g.entry c.function-function.ensures))) c.requires.round;
    }

pub returns-clause-round : goal.returns-clause-round
returns-clause-round c =
    let g = game_of c.args.game.now in
    let t = c.loop-p.table in
    let at = c.args.at.now in
    let th = there_at g (length c.args.game.now.graph.parts.items) c.requires.routed c.args.table.now.blocks c.requires.table.blocks at.number at.context c.requires.tabled in
    let le = c.loop-p.auto.p-end in
    let first = c.entry-p.ensures.is ∙ ap g.entry c.function-function.ensures in
    let last = c.exit-p-end.ensures.is ∙ ap g.exit c.function-function.ensures in
    let e : c.loop-p.p ≡ c.exit-p-end.result.0 + 1 = omega (arith, c.loop-p-test.false, le, th.begins, first, last) in
    subst (λ (s : ℕ). IsInRound g t c.args.n s)
    (ap (λ (p : ℕ). slot g t.blocks.contexts.items at.number at.context.function p c.args.state.0) (e ∙ ap (λ (x : ℕ). x + 1) last)
    ∙ slot_run g t.blocks.contexts.items at.number at.context.function c.args.state.0 th.begins)
    c.loop-p.invariant.round
