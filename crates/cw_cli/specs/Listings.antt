-- What is due for the bytes of a source whose graph is asked for.
use Rattle.std.specs.Prelude.{◌≡◌, ◌⊎◌, ℕ, ◌<◌, ◌≤◌, List, [], length}
use Rattle.cw_core.specs.Quantities.{limit_of}
use Rattle.cw_core.specs.declared.quantity.Quantity.TheVariants.{Points}
use Rattle.cw_syntax.specs.Trees.{File}
use Rattle.cw_syntax.specs.Plans.{plan_of, function_names}
use Rattle.cw_points.specs.declared.graph.Graph.{Graph}
use Rattle.cw_points.specs.Points.{point_count}
use Rattle.cw_points.specs.Graphs.{IsGraph}
use Rattle.cw_resolve.specs.Labels.{label_names}
use Rattle.cw_listing.specs.Listing.{graph_text}
use Rattle.cw_source.specs.Read.{ReadsAs}
pub use Rattle.cw_source_graph.specs.Own.{call_lists, own_names}
use Rattle.cw_commands.specs.declared.outcome.Reply.TheVariants.{Yes}
use Rattle.cw_commands.specs.Outcomes.{Due, Told}
use Rattle.cw_stages.specs.Refusals.{IsSourceRefusal, over}

-- The lines of the graph of the program's points.
abbrev pub IsListing : List ℕ → File → List ℕ → Type 0
IsListing source file text =
    (g : Graph)
    × IsGraph (own_names source file) source file g
    × (text ≡ graph_text (function_names source file) (label_names source file) [] (call_lists (plan_of (own_names source file) source file) (length file.functions)) g)

-- That the program has too many points; or it hasn't, and the lines of its graph.
abbrev pub IsListed : List ℕ → File → Due → Type 0
IsListed source file due =
    ((limit_of Points < point_count (plan_of (own_names source file) source file)) × (due ≡ over Points))
    ⊎ ((point_count (plan_of (own_names source file) source file) ≤ limit_of Points) × (text : List ℕ) × IsListing source file text × (due ≡ Told Yes text))

-- The source is read first.
abbrev pub IsListingDue : List ℕ → Due → Type 0
IsListingDue source due = IsSourceRefusal source due ⊎ ((file : File) × ReadsAs source file × IsListed source file due)
