-- A program is drawn under its own labels.
use Rattle.std.proofs.Common.{◌≡◌, ℕ, suc, ◌+◌, ◌≤◌, List, [], ◌∷◌, length, map, Vec, Global, Some, refl, sym, ap, ap₂, ◌∙◌, arith}
use Rattle.std.specs.Prelude.{slice_get}
use Rattle.std.specs.List.{range_with_len}
use Rattle.std.proofs.lemmas.List.{length-map}
use Rattle.cw_core.specs.Quantities.{limit_of}
use Rattle.cw_core.specs.declared.quantity.Quantity.TheVariants.{Points}
use Rattle.cw_syntax.specs.declared.program.Program.{Program}
use Rattle.cw_syntax.specs.Names.{Names}
use Rattle.cw_syntax.specs.Plans.{Plan, plan_of}
use Rattle.cw_syntax.specs.Trees.{File, definition_of, file_of}
use Rattle.cw_resolve.specs.Held.{lists}
use Rattle.cw_points.specs.Graphs.{IsGraph}
use Rattle.cw_points.specs.Points.{point_count}
use Rattle.cw_callgraph.specs.Effects.{calls, Each}
use Rattle.cw_source_graph.specs.declared.own.Drawn.{Drawn}
use Rattle.cw_source_graph.specs.Own.{call_lists, IsDrawn}

rows_from : (plan : Plan) (k : ℕ) (rows : List (Vec ℕ Global)) → ((f : ℕ) (row : Vec ℕ Global) → slice_get rows f ≡ Some row → row.items ≡ calls plan (k + f))
    → lists rows ≡ map (calls plan) (range_with_len k (length rows))
rows_from plan k [] h = refl
rows_from plan k (row ∷ rows) h =
    let same : k + 0 ≡ k = omega arith in
    let first = h 0 row refl ∙ ap (calls plan) same in
    let next : (f : ℕ) → k + suc f ≡ k + 1 + f = λ f. omega arith in
    ap₂ (λ a b. a ∷ b) first (rows_from plan (k + 1) rows (λ f d s. h (suc f) d s ∙ ap (calls plan) (next f)))

-- the rows of a table of calls are what the functions call
rows_are : (plan : Plan) (n : ℕ) (rows : List (Vec ℕ Global)) → length rows ≡ n → Each (λ f row. row.items ≡ calls plan f) rows → lists rows ≡ call_lists plan n
rows_are plan n rows count h =
    let none : (f : ℕ) → f ≡ 0 + f = λ f. omega arith in
    rows_from plan 0 rows (λ f row s. h f row s ∙ ap (calls plan) (none f)) ∙ ap (λ k. map (calls plan) (range_with_len 0 k)) count

module _ (names : Names) (source : List ℕ) (p : Program) where
  pub is_drawn : (drawn : Drawn) → point_count (plan_of names source (file_of p)) ≤ limit_of Points → lists drawn.labels.items ≡ names.labels → IsGraph names source (file_of p) drawn.graph
      → length drawn.calls.items ≡ length p.functions.items → Each (λ f row. row.items ≡ calls (plan_of names source (file_of p)) f) drawn.calls.items → IsDrawn names source (file_of p) drawn
  is_drawn drawn few labels graph count rows =
      let plan = plan_of names source (file_of p) in
      let many = sym (length-map p.functions.items definition_of) in
      record {
        few = few;
        labels = labels;
        graph = graph;
        calls = rows_are plan (length p.functions.items) drawn.calls.items count rows ∙ ap (call_lists plan) many;
      }
