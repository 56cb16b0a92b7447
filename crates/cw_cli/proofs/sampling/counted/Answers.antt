use Rattle.std.proofs.Common.{inl, inr, sym, subst}
use Rattle.std.proofs.lemmas.Result.{err_from_is_err_and}
use Rattle.cw_rights.specs.Policies.{PlainPolicy}
use Rattle.cw_model.specs.Boards.{problem_of}
use Rattle.cw_game.specs.Standing.{IsGameOf}
use Rattle.cw_product.specs.Product.{game_of}
use Rattle.cw_stages.specs.Counting.{IsCounted}
use Rattle.cw_stages.specs.Stops.{file_in, source_of, whole_of, Counts, Nothing}
use Rattle.cw_stages.specs.Verdicts.{AfterGame}
use Rattle.cw_stages.proofs.Answering.{wider_count}
use Rattle.cw_stages.proofs.Made.{graph_over}
use Rattle.cw_cli.specs.Weaving.{AfterPair}
use Rattle.cw_cli.proofs.Counted.{behind_game}
use Rattle.cw_cli.proofs.sampling.counted.Goals as goal

pub returns-in_err-graph : goal.returns-in_err-graph
returns-in_err-graph c =
    let p = err_from_is_err_and c.from_residual.result c.from_residual.ensures.1 in
    record { due = rw (p.1, p.2) c.in_err-graph.ensures.stop }

pub returns-in_err-game : goal.returns-in_err-game
returns-in_err-game c =
    let p = err_from_is_err_and c.from_residual-in_err-game.result c.from_residual-in_err-game.ensures.1 in
    let drawn = c.in_ok-graph.ensures in
    record {
      due = rw (p.1, p.2) (λ due r. inr (drawn.fits, inr (drawn.none, inr (drawn.few, c.in_ok-graph.graph, drawn.graph, inl (c.in_err-game.ensures.stop due r)))));
    }

pub reckon-requires : goal.reckon-requires
reckon-requires c = record {
  reads = c.requires.is.reads;
  made = c.in_ok-game.ensures.made;
  graph = graph_over c.in_ok-game.ensures.game c.in_ok-graph.ensures.graph;
  is_game = subst (λ (p : PlainPolicy). IsGameOf (problem_of p (source_of c.args.reading.now) (file_in c.args.reading.now)) (game_of c.in_ok-game.game))
      (sym c.in_ok-game.ensures.game.policy_is) c.in_ok-game.ensures.is_game;
}

pub returns : goal.returns
returns c =
    let whole = whole_of c.args.reading.now in
    let source = source_of c.args.reading.now in
    let file = file_in c.args.reading.now in
    let held = c.in_ok-game.game in
    let made = c.in_ok-game.ensures in
    let drawn = c.in_ok-graph.ensures in
    let due = subst (λ (p : PlainPolicy). Counts p source (λ numbers. AfterGame (IsCounted numbers p source file) (game_of held)) (AfterGame Nothing (game_of held)) c.reckon.result)
    made.game.policy_is c.reckon.ensures.due in
    record {
      due =
          wider_count whole source (λ numbers. AfterGame (IsCounted numbers whole source file) (game_of held)) (λ numbers. AfterPair (IsCounted numbers whole source file) source whole file)
          (AfterGame Nothing (game_of held)) (AfterPair Nothing source whole file) c.reckon.result
          (λ numbers due h. behind_game (IsCounted numbers whole source file) source whole file due drawn.fits drawn.none drawn.few c.in_ok-graph.graph drawn.graph held made.game made.made made.is_game h)
          (λ due h. behind_game Nothing source whole file due drawn.fits drawn.none drawn.few c.in_ok-graph.graph drawn.graph held made.game made.made made.is_game h) due;
    }
