use Rattle.std.proofs.Common.{ap, sym, ◌∙◌, inl, inr, refl, arith, length, subst}
use Rattle.std.proofs.lemmas.List.{length-map}
use Rattle.cw_rights.specs.Policies.{policy_of}
use Rattle.cw_syntax.specs.Trees.{file_of}
use Rattle.cw_certs.specs.Strategies.{row_of, Strategy}
use Rattle.cw_game.specs.Conditions.{IsGoodStrategy}
use Rattle.cw_least_strategy.specs.Strategies.{rows_of}
use Rattle.cw_product.specs.Product.{game_of}
use Rattle.cw_strategy_text.specs.StrategyText.{strategy_text}
use Rattle.cw_stages.proofs.Counted.{AreKept, are_numbers}
use Rattle.cw_stages.proofs.Weaves.{IsMadeStrategy, is_refuted}
use Rattle.cw_stages.proofs.counting.of_strategy.Goals as goal

pub confirm_strategy-requires : goal.confirm_strategy-requires
confirm_strategy-requires c =
    let same = c.in_ok-cert-in-Ok.ensures in
    let long = ap (λ (s : Strategy). length s.rows) same in
    let rows = length-map c.in_ok-cert-in-Ok.cert.rows.items row_of in
    let few = c.in-Ok.ensures.few in
    record { few = omega (arith, long, rows, few); good = subst (IsGoodStrategy (game_of c.args.game.now)) (sym same) c.in-Ok.ensures.good }

pub returns-in_ok-cert-in-Ok : goal.returns-in_ok-cert-in-Ok
returns-in_ok-cert-in-Ok c =
    let source = c.args.checked.now.source.now in
    let file = file_of c.args.checked.now.program in
    let game = c.args.game.now in
    let whole = policy_of game.states.policy in
    let strategy = c.in-Ok.strategy in
    let made : IsMadeStrategy (game_of game) strategy = record { is_least = c.in-Ok.ensures.least; ascend = c.in-Ok.ensures.ascend; few = c.in-Ok.ensures.few; good = c.in-Ok.ensures.good } in
    let kept : AreKept game c.args.solved.now c.make.result (rows_of strategy) = record {
      same = c.requires.solved;
      needed = c.fact_contexts_are_needed.ensures;
      points = c.make.ensures.points;
      positions = c.make.ensures.positions;
      states = c.make.ensures.states;
      contexts = c.make.ensures.contexts;
      cells = c.make.ensures.cells;
      are_rows = c.make.ensures.rows ∙ c.strategy_rows.ensures;
    } in
    let text = strategy_text whole.format strategy in
    let refuted = is_refuted whole source file (game_of game) strategy text c.requires.is_game refl made in
    record {
      due = (
        text,
        inr (
          refuted.0,
          kept.are_rows ∙ ap rows_of (sym refuted.1),
          are_numbers game c.args.solved.now c.make.result (rows_of strategy) whole source file c.requires.graph kept,
        ),
      );
    }

pub returns-in-Err-TooManyRows : goal.returns-in-Err-TooManyRows
returns-in-Err-TooManyRows c = record { due = λ due e. inl (inr (c.requires.lost, c.in-Err-TooManyRows.ensures.there c.in-Err-TooManyRows.field-0-is), e) }
