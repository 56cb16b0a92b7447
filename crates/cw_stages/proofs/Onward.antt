-- What stands behind the stages gives way to what follows from it.
use Rattle.std.proofs.Common.{List, ℕ, inl, inr}
use Rattle.cw_rights.specs.Policies.{PlainPolicy}
use Rattle.cw_syntax.specs.Trees.{File}
use Rattle.cw_points.specs.declared.graph.Graph.{Graph}
use Rattle.cw_game.specs.Games.{Game}
use Rattle.cw_product.specs.Product.{game_of}
use Rattle.cw_commands.specs.Outcomes.{Due}
use Rattle.cw_stages.specs.Games.{WhereFits, WithGame, WithGraph}
use Rattle.cw_stages.specs.Verdicts.{AfterCells, AfterGame}

module _ (Next Other : Game → Due → Type 0) (due : Due) (to : (g : Game) → Next g due → Other g due) where
  by_cells : (g : Game) → AfterCells Next g due → AfterCells Other g due
  by_cells g (inl many) = inl many
  by_cells g (inr next) = inr (to g next)

  pub by_game : (g : Game) → AfterGame Next g due → AfterGame Other g due
  by_game g (inl many) = inl many
  by_game g (inr (few, next)) = inr (few, by_cells g next)

  by_graph : (source : List ℕ) (whole : PlainPolicy) (file : File) (graph : Graph) → WithGame (AfterGame Next) source whole file graph due → WithGame (AfterGame Other) source whole file graph due
  by_graph source whole file graph (inl over) = inl over
  by_graph source whole file graph (inr (held, is, made, of, next)) = inr (held, is, made, of, by_game (game_of held) next)

  pub by_points : (source : List ℕ) (whole : PlainPolicy) (file : File) → WithGraph (AfterGame Next) source whole file due → WithGraph (AfterGame Other) source whole file due
  by_points source whole file (inl many) = inl many
  by_points source whole file (inr (few, graph, drawn, next)) = inr (few, graph, drawn, by_graph source whole file graph next)

  pub by_fit : (source : List ℕ) (whole : PlainPolicy) (file : File) → WhereFits (AfterGame Next) source whole file due → WhereFits (AfterGame Other) source whole file due
  by_fit source whole file (inl other) = inl other
  by_fit source whole file (inr (fits, next)) = inr (fits, by_points source whole file next)
