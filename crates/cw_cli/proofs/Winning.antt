-- What is known where a text is due for `weave`.
use Rattle.std.proofs.Common.{◌≡◌, ℕ, ◌≤◌, List, length, sym, subst, inl, inr}
use Rattle.cw_core.specs.Quantities.{limit_of}
use Rattle.cw_core.specs.declared.quantity.Quantity.TheVariants.{Points}
use Rattle.cw_rights.specs.Policies.{PlainPolicy}
use Rattle.cw_syntax.specs.Plans.{plan_of}
use Rattle.cw_syntax.specs.Trees.{File}
use Rattle.cw_resolve.specs.Scenes.{names_of}
use Rattle.cw_model.specs.Boards.{problem_of}
use Rattle.cw_points.specs.declared.graph.Graph.{Graph}
use Rattle.cw_points.specs.Graphs.{IsGraph}
use Rattle.cw_points.specs.Points.{point_count}
use Rattle.cw_game.specs.Standing.{IsGameOf}
use Rattle.cw_product.specs.declared.fault.GameFault.{GameFault}
use Rattle.cw_product.specs.declared.fault.GameFault.TheVariants.{TooManyCaps, TooManyWords, TooManyStates, TooManyPositions, NoMemory}
use Rattle.cw_product.specs.Product.{Held, game_of}
use Rattle.cw_product.specs.Made.{IsMade}
use Rattle.cw_callgraph.specs.Fitting.{Fits}
use Rattle.cw_answer_texts.specs.Spelled.{IsGameMade}
use Rattle.cw_commands.specs.declared.outcome.Reply.{Reply}
use Rattle.cw_commands.specs.Outcomes.{Told}
use Rattle.cw_stages.specs.Reading.{AreRead, IsUnread}
use Rattle.cw_stages.specs.Games.{game_refusal, IsGame}
use Rattle.cw_stages.specs.Verdicts.{IsVerdict}
use Rattle.cw_cli.specs.Weaving.{IsWeaveDue}
use Rattle.cw_stages.proofs.Withins.{nodes_few}

pub never_game : (r : Reply) (text : List ℕ) (f : GameFault) → Told r text ≡ game_refusal f → ⊥
never_game r text TooManyCaps e = cc
never_game r text TooManyWords e = cc
never_game r text TooManyStates e = cc
never_game r text TooManyPositions e = cc
never_game r text NoMemory e = cc

pub never_unread : (policy source : List ℕ) (r : Reply) (text : List ℕ) → IsUnread policy source (Told r text) → ⊥
never_unread policy source r text (inl (f, is, ne, e)) = cc
never_unread policy source r text (inr (whole, spelled, inl (f, is, ne, e))) = cc
never_unread policy source r text (inr (whole, spelled, inr (file, reads, (f, is, e)))) = cc

-- a policy and a source are read, their game is made, and this is so of it
pub record IsPlayed (policy source : List ℕ) (Verdict : PlainPolicy → File → Held → Type 0) : Type 0 where
  pub whole : PlainPolicy
  pub file : File
  pub graph : Graph
  pub held : Held
  pub are : AreRead policy source whole file
  pub fits : Fits source file whole
  pub few : point_count (plan_of (names_of whole) source file) ≤ limit_of Points
  pub drawn : IsGraph (names_of whole) source file graph
  pub is_game : IsGame whole graph held
  pub made : IsMade held
  pub of : IsGameOf (problem_of whole source file) (game_of held)
  pub verdict : Verdict whole file held

-- what is known where a text is due for `weave`
abbrev pub IsWon : (policy source : List ℕ) (r : Reply) (text : List ℕ) → Type 0
IsWon policy source r text = IsPlayed policy source (λ whole file held. IsVerdict whole source file (game_of held) (Told r text))

pub won : (policy source : List ℕ) (r : Reply) (text : List ℕ) → IsWeaveDue policy source (Told r text) → IsWon policy source r text
won policy source r text (inl u) = absurd (never_unread policy source r text u)
won policy source r text (inr (whole, file, are, inl (f, is, e))) = absurd cc
won policy source r text (inr (whole, file, are, inr (fits, inl (some, e)))) = absurd cc
won policy source r text (inr (whole, file, are, inr (fits, inr (none, inl (many, e))))) = absurd cc
won policy source r text (inr (whole, file, are, inr (fits, inr (none, inr (few, graph, drawn, inl (f, ne, is, e)))))) = absurd (never_game r text f e)
won policy source r text (inr (whole, file, are, inr (fits, inr (none, inr (few, graph, drawn, inr (held, is_game, made, of, inl (cells, e))))))) = absurd cc
won policy source r text (inr (whole, file, are, inr (fits, inr (none, inr (few, graph, drawn, inr (held, is_game, made, of, inr (cells, inl (rows, e)))))))) = absurd cc
won policy source r text (inr (whole, file, are, inr (fits, inr (none, inr (few, graph, drawn, inr (held, is_game, made, of, inr (cells, inr verdict))))))) = record {
  whole = whole;
  file = file;
  graph = graph;
  held = held;
  are = are;
  fits = fits;
  few = few;
  drawn = drawn;
  is_game = is_game;
  made = made;
  of = of;
  verdict = verdict;
}

pub game_made : (whole : PlainPolicy) (source : List ℕ) (file : File) (graph : Graph) (held : Held) → IsGraph (names_of whole) source file graph
    → point_count (plan_of (names_of whole) source file) ≤ 8192
    → IsGame whole graph held → IsMade held → IsGameMade held
game_made whole source file graph held drawn few is made = record {
  made = made;
  points = subst (λ (g : Graph). length g.nodes.items ≤ 8192) (sym is.graph_is) (nodes_few (names_of whole) source file graph drawn few);
}
