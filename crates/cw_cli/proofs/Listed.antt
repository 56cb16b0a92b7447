-- The lines of a program's graph are due for its source.
use Rattle.std.proofs.Common.{◌≡◌, ℕ, List, [], ◌++◌, refl, ap, ◌∙◌, inr}
use Rattle.cw_syntax.specs.Plans.{function_names}
use Rattle.cw_syntax.specs.Trees.{File}
use Rattle.cw_resolve.specs.Held.{lists}
use Rattle.cw_resolve.specs.Labels.{label_names}
use Rattle.cw_listing.specs.Listing.{graph_text}
use Rattle.cw_source_graph.specs.declared.own.Drawn.{Drawn}
use Rattle.cw_source_graph.specs.Own.{own_names, IsDrawn}
use Rattle.cw_commands.specs.declared.outcome.Reply.TheVariants.{Yes}
use Rattle.cw_commands.specs.Outcomes.{Told}
use Rattle.cw_cli.specs.Listings.{IsListed}

module _ (source : List ℕ) (file : File) (drawn : Drawn) (is : IsDrawn (own_names source file) source file drawn) where
  -- the lines as they were put: the names of functions and labels, and what each function calls
  pub listed_due : (functions labels calls : List (List ℕ)) (begun text : List ℕ) → begun ≡ [] → functions ≡ function_names source file → labels ≡ lists drawn.labels.items
      → calls ≡ lists drawn.calls.items → text ≡ begun ++ graph_text functions labels [] calls drawn.graph → IsListed source file (Told Yes text)
  listed_due functions labels calls begun text none named labelled called put =
      let lines = put
      ∙ ap (λ (b : List ℕ). b ++ graph_text functions labels [] calls drawn.graph) none
      ∙ ap (λ (f : List (List ℕ)). graph_text f labels [] calls drawn.graph) named
      ∙ ap (λ (l : List (List ℕ)). graph_text (function_names source file) l [] calls drawn.graph) (labelled ∙ is.labels)
      ∙ ap (λ (k : List (List ℕ)). graph_text (function_names source file) (label_names source file) [] k drawn.graph) (called ∙ is.calls) in
      inr (is.few, text, (drawn.graph, is.graph, lines), refl)
