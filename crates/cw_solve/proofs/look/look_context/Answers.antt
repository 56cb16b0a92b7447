use Rattle.std.proofs.Common.{◌≡◌, ℕ, ap, ◌∙◌, subst, arith, refl}
use Rattle.cw_product.specs.Product.{game_of}
use Rattle.cw_solve.specs.Rounds.{slot}
use Rattle.cw_solve.specs.Tables.{IsInRound}
use Rattle.cw_solve.proofs.Slots.{slot_begins, slot_ends}
use Rattle.cw_solve.proofs.look.look_context.Goals as goal

pub loop-x-init : goal.loop-x-init
loop-x-init c =
    let g = game_of c.args.game.now in
    let t = c.args.table.now in
    let at = c.args.at.now in
    record {
      table = c.requires.table;
      later = record { blocks = refl; more = omega arith; same = λ e. refl };
      tabled = c.requires.tabled;
      round = subst (λ (s : ℕ). IsInRound g t c.args.n s) (slot_begins g t.blocks.contexts.items at.number at.context.function) c.requires.round;
    }

pub returns-clause-round : goal.returns-clause-round
returns-clause-round c =
    let g = game_of c.args.game.now in
    let t = c.loop-x.table in
    let at = c.args.at.now in
    let e : c.loop-x.x ≡ c.states-x-end.result = omega (arith, c.loop-x-test.false, c.loop-x.auto.x-end) in
    subst (λ (s : ℕ). IsInRound g t c.args.n s)
    (ap (λ (x : ℕ). slot g t.blocks.contexts.items at.number at.context.function (g.entry at.context.function) x) (e ∙ c.states-x-end.ensures)
    ∙ slot_ends g t.blocks.contexts.items at.number at.context c.loop-x.invariant.tabled)
    c.loop-x.invariant.round
