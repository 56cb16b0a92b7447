use Rattle.std.proofs.Common.{ℕ, List, ◌++◌, ap, sym, inl, inr, ◌∙◌}
use Rattle.cw_rights.specs.declared.policy.Policy.{Policy}
use Rattle.cw_rights.specs.Policies.{policy_of}
use Rattle.cw_syntax.specs.Trees.{file_of}
use Rattle.cw_least_strategy.specs.Strategies.{rows_of}
use Rattle.cw_product.specs.Product.{game_of}
use Rattle.cw_strategy_text.specs.StrategyText.{strategy_text}
use Rattle.cw_stages.proofs.Counted.{AreKept, are_numbers}
use Rattle.cw_stages.proofs.Weaves.{IsMadeStrategy, is_refuted}
use Rattle.cw_stages.proofs.verdict.refuted.Goals as goal

pub returns-in-Ok-clause-due : goal.returns-in-Ok-clause-due
returns-in-Ok-clause-due g c =
    let source = c.args.checked.now.source.now in
    let file = file_of c.args.checked.now.program in
    let game = c.args.game.now in
    let whole = policy_of game.states.policy in
    let strategy = c.in-Ok.strategy in
    let spelled = c.put_least.ensures.text ∙ ap (λ (t : List ℕ). t ++ strategy_text c.policy.result.now.format strategy) c.begin-writer.ensures.text
    ∙ ap (λ (p : Policy). strategy_text p.format strategy) c.policy.ensures in
    let made : IsMadeStrategy (game_of game) strategy = record { is_least = c.in-Ok.ensures.least; ascend = c.in-Ok.ensures.ascend; few = c.in-Ok.ensures.few; good = c.in-Ok.ensures.good } in
    let kept : AreKept game c.args.solved.now c.make.result (rows_of strategy) = record {
      same = c.requires.solved;
      needed = c.fact_contexts_are_needed.ensures;
      points = c.make.ensures.points;
      positions = c.make.ensures.positions;
      states = c.make.ensures.states;
      contexts = c.make.ensures.contexts;
      cells = c.make.ensures.cells;
      are_rows = c.make.ensures.rows ∙ c.strategy_rows.ensures;
    } in
    let refuted = is_refuted whole source file (game_of game) strategy c.put_least.new.writer.text c.requires.is_game spelled made in
    inr (
      refuted.0,
      kept.are_rows ∙ ap rows_of (sym refuted.1),
      are_numbers game c.args.solved.now c.make.result (rows_of strategy) whole source file c.requires.graph kept,
    )

pub returns-in-Err-TooManyRows-clause-due : goal.returns-in-Err-TooManyRows-clause-due
returns-in-Err-TooManyRows-clause-due g c = λ due e. inl (inr (c.requires.lost, c.in-Err-TooManyRows.ensures.there c.in-Err-TooManyRows.field-0-is), e)
