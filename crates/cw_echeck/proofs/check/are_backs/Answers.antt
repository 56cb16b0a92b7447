use Rattle.std.proofs.Common.{◌∙◌, ℕ, sym}
use Rattle.cw_lemmas.proofs.Lists.{all_done, all_not}
use Rattle.cw_core.specs.declared.ids.StateId.{StateId}
use Rattle.cw_certs.specs.Strategies.{row_of, strategy_of}
use Rattle.cw_product.specs.Product.{game_of}
use Rattle.cw_echeck.specs.Checks.{returns_by}
use Rattle.cw_echeck.proofs.check.are_backs.Goals as goal

pub returns-then-not-is_back : goal.returns-then-not-is_back
returns-then-not-is_back c =
    sym (all_not (returns_by (game_of c.args.game.now) (strategy_of c.args.cert.now) (row_of c.args.row.now) c.args.aim.now c.args.split
    c.args.back.0) (λ (b : StateId × ℕ). (b.0.0, b.1))
    c.args.backs.now c.loop-named.named-index (record { 0 = 0 }, 0) c.loop-named-test.true (sym c.is_back.ensures ∙ c.if-not-is_back.true))

pub returns : goal.returns
returns c =
    sym (all_done (returns_by (game_of c.args.game.now) (strategy_of c.args.cert.now) (row_of c.args.row.now) c.args.aim.now c.args.split
    c.args.back.0) (λ (b : StateId × ℕ). (b.0.0, b.1))
    c.args.backs.now c.loop-named.named-index c.loop-named-test.false c.loop-named.invariant)
