-- What is told of an audit, for a program.
use Rattle.std.proofs.Common.{◌≡◌, ℕ, ◌<◌, List, length, ⊎_elim, inl, inr, ap, ◌∙◌, subst}
use Rattle.cw_rights.specs.Policies.{PlainPolicy}
use Rattle.cw_syntax.specs.Trees.{File}
use Rattle.cw_resolve.specs.Scenes.{names_of}
use Rattle.cw_points.specs.declared.graph.Graph.{Graph}
use Rattle.cw_points.specs.Graphs.{IsGraph}
use Rattle.cw_positions.proofs.Programs.{parts_length}
use Rattle.cw_model.specs.Boards.{Problem}
use Rattle.cw_game.specs.Games.{Game}
use Rattle.cw_game.specs.Standing.{IsGameOf}
use Rattle.cw_product.specs.Product.{Held}
use Rattle.cw_product.specs.Routes.{IsRoute}
use Rattle.cw_audit_table.specs.Tables.{Audit}
use Rattle.cw_audit_table.specs.Conditions.{EndAlone}
use Rattle.cw_commands.specs.Outcomes.{Due}
use Rattle.cw_stages.specs.Games.{IsGame}
use Rattle.cw_auditing.specs.Reauditing.{IsReaudited, IsReauditedBy}

-- a game has as many functions as its program
pub functions_many : (source : List ℕ) (whole : PlainPolicy) (file : File) (graph : Graph) (held : Held) → IsGraph (names_of whole) source file graph → IsGame whole graph held
    → length held.graph.parts.items ≡ length file.functions
functions_many source whole file graph held drawn is = ap (λ (k : Graph). length k.parts.items) is.graph_is ∙ ap length drawn.parts ∙ parts_length (names_of whole) source file

-- an exit stands at the end of each function alone
pub end_alone : (g : Game) (functions : ℕ) → ((f : ℕ) → f < functions → IsRoute g f) → EndAlone g functions
end_alone g functions routes = λ f p k lt low high e. (routes f lt).alone p k (low, high) e

pub reaudited_for : (p : Problem) (g : Game) (functions many : ℕ) (t : Audit) (due : Due) → IsGameOf p g → functions ≡ many → IsReauditedBy g functions t due → IsReaudited p g many t due
reaudited_for p g functions many t due is e h =
    subst (λ n. IsReaudited p g n t due) e (⊎_elim (λ a. inl (a.0, a.1, a.2, a.3 p is)) (λ b. inr b) h)
