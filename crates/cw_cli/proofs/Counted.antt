-- What comes behind the stages of `weave`: the verdict with its numbers, the verdict alone, and the lines of a sample.
use Rattle.std.proofs.Common.{◌≡◌, ℕ, ◌≤◌, List, [], inl, inr}
use Rattle.cw_core.specs.Quantities.{limit_of}
use Rattle.cw_core.specs.declared.quantity.Quantity.TheVariants.{Points}
use Rattle.cw_rights.specs.Policies.{PlainPolicy}
use Rattle.cw_syntax.specs.Plans.{plan_of}
use Rattle.cw_syntax.specs.Trees.{File}
use Rattle.cw_resolve.specs.Scenes.{names_of}
use Rattle.cw_points.specs.declared.graph.Graph.{Graph}
use Rattle.cw_points.specs.Graphs.{IsGraph}
use Rattle.cw_points.specs.Points.{point_count}
use Rattle.cw_model.specs.Boards.{problem_of}
use Rattle.cw_game.specs.Games.{Game}
use Rattle.cw_game.specs.Standing.{IsGameOf}
use Rattle.cw_product.specs.Made.{IsMade}
use Rattle.cw_product.specs.Product.{Held, game_of}
use Rattle.cw_callgraph.specs.Fitting.{Fits}
use Rattle.cw_commands.specs.declared.outcome.Reply.{Reply}
use Rattle.cw_commands.specs.declared.outcome.Reply.TheVariants.{Yes, No}
use Rattle.cw_commands.specs.Outcomes.{Due, Told, Refused}
use Rattle.cw_stages.specs.declared.numbers.Numbers.{Numbers}
use Rattle.cw_stages.specs.Counting.{IsCounted}
use Rattle.cw_stages.specs.Games.{IsGame}
use Rattle.cw_stages.specs.Reading.{IsSourceUnread, WithSource}
use Rattle.cw_stages.specs.Stops.{Nothing}
use Rattle.cw_stages.specs.Verdicts.{AfterGame, IsVerdict}
use Rattle.cw_stages.proofs.Onward.{by_points}
use Rattle.cw_cli.specs.Weaving.{AfterFit, AfterPair}
use Rattle.cw_cli.proofs.Winning.{never_game}

-- what stands behind the stages gives way to what follows from it
module _ (Next Other : Game → Due → Type 0) (due : Due) (to : (g : Game) → Next g due → Other g due) where
  by_fit : (source : List ℕ) (whole : PlainPolicy) (file : File) → AfterFit Next source whole file due → AfterFit Other source whole file due
  by_fit source whole file (inl detached) = inl detached
  by_fit source whole file (inr (none, next)) = inr (none, by_points Next Other due to source whole file next)

  pub by_pair : (source : List ℕ) (whole : PlainPolicy) (file : File) → AfterPair Next source whole file due → AfterPair Other source whole file due
  by_pair source whole file (inl other) = inl other
  by_pair source whole file (inr (fits, next)) = inr (fits, by_fit source whole file next)

-- the same of a text that is due: behind the stages no other thing is
module _ (Next Other : Game → Due → Type 0) (r : Reply) (text told : List ℕ) (to : (g : Game) → Next g (Told r text) → Other g (Told r told)) where
  tell_pair : (source : List ℕ) (whole : PlainPolicy) (file : File) → AfterPair Next source whole file (Told r text) → AfterPair Other source whole file (Told r told)
  tell_pair source whole file (inl (f, is, e)) = absurd cc
  tell_pair source whole file (inr (fits, inl (some, e))) = absurd cc
  tell_pair source whole file (inr (fits, inr (none, inl (many, e)))) = absurd cc
  tell_pair source whole file (inr (fits, inr (none, inr (few, graph, drawn, inl (f, ne, is, e))))) = absurd (never_game r text f e)
  tell_pair source whole file (inr (fits, inr (none, inr (few, graph, drawn, inr (held, is, made, of, inl (cells, e)))))) = absurd cc
  tell_pair source whole file (inr (fits, inr (none, inr (few, graph, drawn, inr (held, is, made, of, inr (cells, inl (rows, e))))))) = absurd cc
  tell_pair source whole file (inr (fits, inr (none, inr (few, graph, drawn, inr (held, is, made, of, inr (cells, inr next)))))) =
      inr (fits, inr (none, inr (few, graph, drawn, inr (held, is, made, of, inr (cells, inr (to (game_of held) next))))))

verdict_of : (numbers : Numbers) (whole : PlainPolicy) (source : List ℕ) (file : File) (due : Due) (g : Game) → IsCounted numbers whole source file g due → IsVerdict whole source file g due
verdict_of numbers whole source file (Told Yes text) g (woven, rows, are) = woven
verdict_of numbers whole source file (Told No text) g (refuted, rows, are) = refuted
verdict_of numbers whole source file (Refused cause line) g h = absurd h

module _ (whole : PlainPolicy) (source : List ℕ) (Next Other : File → Game → Due → Type 0) where
  by_source : (due : Due) → ((file : File) (g : Game) → Next file g due → Other file g due)
      → WithSource (λ file. AfterPair (Next file) source whole file) source whole due → WithSource (λ file. AfterPair (Other file) source whole file) source whole due
  by_source due to (inl unread) = inl unread
  by_source due to (inr (file, reads, descriptors, next)) = inr (file, reads, descriptors, by_pair (Next file) (Other file) due (to file) source whole file next)

  never_source : (r : Reply) (text : List ℕ) → IsSourceUnread source whole (Told r text) → ⊥
  never_source r text (inl (f, is, ne, e)) = cc
  never_source r text (inr (file, reads, (f, is, e))) = cc

  pub tell_source : (r : Reply) (text told : List ℕ) → ((file : File) (g : Game) → Next file g (Told r text) → Other file g (Told r told))
      → WithSource (λ file. AfterPair (Next file) source whole file) source whole (Told r text) → WithSource (λ file. AfterPair (Other file) source whole file) source whole (Told r told)
  tell_source r text told to (inl unread) = absurd (never_source r text unread)
  tell_source r text told to (inr (file, reads, descriptors, next)) = inr (file, reads, descriptors, tell_pair (Next file) (Other file) r text told (to file) source whole file next)

-- what is due with its numbers is due for `weave`, and what is due with no verdict whatever that is
pub verdict_due : (numbers : Numbers) (whole : PlainPolicy) (source : List ℕ) (due : Due) → WithSource (λ file. AfterPair (IsCounted numbers whole source file) source whole file) source whole due
    → WithSource (λ file. AfterPair (IsVerdict whole source file) source whole file) source whole due
verdict_due numbers whole source due h =
    by_source whole source (λ file. IsCounted numbers whole source file) (λ file. IsVerdict whole source file) due (λ file g. verdict_of numbers whole source file due g) h

pub no_verdict : (Next : File → Game → Due → Type 0) (whole : PlainPolicy) (source : List ℕ) (due : Due) → WithSource (λ file. AfterPair Nothing source whole file) source whole due
    → WithSource (λ file. AfterPair (Next file) source whole file) source whole due
no_verdict Next whole source due h = by_source whole source (λ file. Nothing) Next due (λ file g never. absurd never) h

-- what comes behind the game of a program comes behind the program
pub behind_game : (Next : Game → Due → Type 0) (source : List ℕ) (whole : PlainPolicy) (file : File) (due : Due) → Fits source file whole → whole.detached ≡ []
    → point_count (plan_of (names_of whole) source file) ≤ limit_of Points → (graph : Graph) → IsGraph (names_of whole) source file graph → (held : Held) → IsGame whole graph held → IsMade held
    → IsGameOf (problem_of whole source file) (game_of held) → AfterGame Next (game_of held) due → AfterPair Next source whole file due
behind_game Next source whole file due fits none few graph drawn held is made of h = inr (fits, inr (none, inr (few, graph, drawn, inr (held, is, made, of, h))))
