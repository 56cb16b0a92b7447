use Rattle.std.proofs.Common.{◌≡◌, ◌∙◌, sym, ap, Some, length, arith}
use Rattle.std.proofs.lemmas.Grind.{common_steps}
use Rattle.std.proofs.lemmas.List.{length-map}
use Rattle.cw_certs.specs.Strategies.{row_of, strategy_of}
use Rattle.cw_game.specs.Conditions.{fault_in}
use Rattle.cw_product.specs.Product.{game_of}
use Rattle.cw_echeck.specs.Checks.{fault_of}
use Rattle.cw_echeck.proofs.Laws.{all_beat}
use Rattle.cw_echeck.proofs.Checks.{row_fails, start_fails, none_fails}
use Rattle.cw_echeck.proofs.check.check_env.Goals as goal

pub returns-in-Some-clause-fault : goal.returns-in-Some-clause-fault
returns-in-Some-clause-fault c =
    row_fails (game_of c.args.game.now) (strategy_of c.args.cert.now) (c.if-cert-states.false
    ∙ c.states.ensures) (fault_of c.in-Some.bad) c.in-Some.ensures

pub returns-then-not-has_start-clause-fault : goal.returns-then-not-has_start-clause-fault
returns-then-not-has_start-clause-fault c =
    let count : length c.args.cert.now.rows.items ≡ c.len.result = grind (arith, common_steps) in
    start_fails (game_of c.args.game.now) (strategy_of c.args.cert.now) (c.if-cert-states.false
    ∙ c.states.ensures) c.in_default.ensures (sym c.if-not-has_start.ensures)
    ∙ ap (λ n. Some (fault_in n 8)) (length-map c.args.cert.now.rows.items row_of ∙ count)

pub returns-clause-good : goal.returns-clause-good
returns-clause-good c =
    none_fails (game_of c.args.game.now) (strategy_of c.args.cert.now) (c.if-cert-states.false
    ∙ c.states.ensures) c.in_default.ensures (sym c.if-not-has_start.ensures)

pub returns-clause-beats : goal.returns-clause-beats
returns-clause-beats c =
    all_beat (game_of c.args.game.now) (strategy_of c.args.cert.now)
    (none_fails (game_of c.args.game.now) (strategy_of c.args.cert.now) (c.if-cert-states.false
    ∙ c.states.ensures) c.in_default.ensures (sym c.if-not-has_start.ensures))
