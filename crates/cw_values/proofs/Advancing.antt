-- What the code's steps leave, by the row of the point.
use Rattle.std.proofs.Common.{◌≡◌, ℕ, zero, suc, List, [], ◌∷◌, false, map, drop, Option, Some, None, Ok, Err, refl, sym, ap, subst, ◌∙◌}
use Rattle.std.specs.Prelude.{slice_get}
use Rattle.std.proofs.lemmas.Option.{none-some, same_Some}
use Rattle.cw_core.specs.declared.ids.PointId.{PointId}
use Rattle.cw_rights.specs.Policies.{PlainPolicy}
use Rattle.cw_syntax.specs.declared.program.Name.{Name}
use Rattle.cw_syntax.specs.Frames.{Item}
use Rattle.cw_points.specs.declared.graph.Node.{Node}
use Rattle.cw_points.specs.declared.graph.Part.{Part}
use Rattle.cw_points.specs.Walks.{Stand, stand, returned}
use Rattle.cw_value.specs.Machines.{Source, step_by}
use Rattle.cw_value.specs.Runs.{Going}
use Rattle.cw_eval.specs.declared.halt.Halt.{Halt}
use Rattle.cw_eval.specs.declared.halt.Halt.TheVariants as halt
use Rattle.cw_eval.specs.declared.deeds.Way.{Way as HeldWay}
use Rattle.cw_eval.specs.Passings.{way_in}
use Rattle.cw_deeds.specs.declared.items.Row.{Row}
use Rattle.cw_deeds.specs.declared.items.Row.TheVariants as row
use Rattle.cw_deeds.specs.Rows.{row_of}
use Rattle.cw_starts.specs.Sources.{source_in}
use Rattle.cw_machine.specs.declared.machine.Wait.{Wait}
use Rattle.cw_machine.specs.declared.machine.Machine.{Machine as HeldMachine}
use Rattle.cw_machine.specs.Shown.{Goes, IsInnerRow, Waits, back_of, call_of, machine_of}
use Rattle.cw_values.specs.declared.running.Run.{Run}
use Rattle.cw_values.specs.Running.{IsRunOf, first, first_back, next_by, rows_of}
use Rattle.cw_values.specs.Stands.{Advances, StandsAt, here_of}
use Rattle.cw_values.proofs.Fronts.{CallLeads}
use Rattle.cw_values.proofs.Following.{Fronted, fronted, halts_here, all_parts}
use Rattle.cw_values.proofs.Reached.{Reaches, inner_on, end_on, call_there, call_on, waiting_below}

row_at : (items : List Item) (n : ℕ) (i : Item) (r : Row) → slice_get items n ≡ Some i → slice_get (map row_of items) n ≡ Some r → row_of i ≡ r
row_at [] n i r a b = absurd (none-some i a)
row_at (x ∷ xs) zero i r a b = sym (ap row_of (same_Some x i a)) ∙ same_Some (row_of x) r b
row_at (x ∷ xs) (suc n) i r a b = row_at xs n i r a b

returned_first : (ws : List Wait) → returned (map back_of ws) ≡ here_of (first_back ws) (map back_of (drop 1 ws))
returned_first [] = refl
returned_first (w ∷ ws) = refl

later_calls : (ws : List Wait) → drop 1 (map call_of ws) ≡ map call_of (drop 1 ws)
later_calls [] = refl
later_calls (w ∷ ws) = refl

module _ (policy : PlainPolicy) (run : Run) (is_run : IsRunOf policy run) (old : HeldMachine) (g : Going) (point : PointId) (h : StandsAt policy (source_in run.known.source) (Some point) old g) where
  abbrev s : Source
  s = source_in run.known.source

  abbrev here : Stand
  here = stand (map back_of old.waits.items) point.0

  abbrev waiting : List (Option (ℕ × Option Name))
  waiting = map call_of old.waits.items

  pub front : Fronted policy s here g
  front = fronted policy s here waiting (machine_of old) g h

  node_is : (node : Node) → slice_get run.graph.now.nodes.items point.0 ≡ Some node → front.what ≡ node
  node_is node e = same_Some front.what node (sym front.node ∙ (ap (λ (ns : List Node). slice_get ns point.0) (sym is_run.graph.nodes) ∙ e))

  pub row_is : (r : Row) → slice_get (rows_of run) point.0 ≡ Some r → row_of front.item ≡ r
  row_is r e = row_at _ point.0 front.item r front.point (ap (λ (rs : List Row). slice_get rs point.0) (sym is_run.rows) ∙ e)

  pub err_advances : (e : Halt) (new : HeldMachine) → Goes (Err e) (machine_of new) (step_by s false front.item front.frames (machine_of old)) → Advances policy s (Err e) new g
  err_advances (halt.Stop why) new q = halts_here policy s here waiting (machine_of old) g h front why (machine_of new) q
  err_advances halt.NoMemory new q = tt

  pub waits_below : Waits front.frames old.waits.items
  waits_below = waiting_below policy s here waiting (machine_of old) g h front

  pub inner_advances : (node : Node) (r : Row) → slice_get run.graph.now.nodes.items point.0 ≡ Some node → slice_get (rows_of run) point.0 ≡ Some r → IsInnerRow r → (way : HeldWay) (new : HeldMachine)
      → Goes (Ok way) (machine_of new) (step_by s false front.item front.frames (machine_of old)) → new.waits.items ≡ old.waits.items
      → Advances policy s (Ok (record { way = way; next = next_by node.next (way_in way) })) new g
  inner_advances node r en er inner way new q ws =
      let on = inner_on policy s here waiting (machine_of old) g h front (subst IsInnerRow (sym (row_is r er)) inner) (way_in way) (machine_of new) q in
      subst (λ (n : Node). Reaches policy s (way_in way) (here_of (next_by n.next (way_in way)) (map back_of new.waits.items)) (map call_of new.waits.items) (machine_of new) g) (node_is node en)
      (subst (λ (l : List Wait). Reaches policy s (way_in way) (here_of (next_by front.what.next (way_in way)) (map back_of l)) (map call_of l) (machine_of new) g) (sym ws) on)

  pub end_advances : slice_get (rows_of run) point.0 ≡ Some row.Ends → (way : HeldWay) (new : HeldMachine)
      → Goes (Ok way) (machine_of new) (step_by s false front.item front.frames (machine_of old)) → new.waits.items ≡ drop 1 old.waits.items
      → Advances policy s (Ok (record { way = way; next = first_back old.waits.items })) new g
  end_advances er way new q ws =
      let on = end_on policy s here waiting (machine_of old) g h front (row_is row.Ends er) (way_in way) (machine_of new) q in
      subst (λ (l : List Wait). Reaches policy s (way_in way) (here_of (first_back old.waits.items) (map back_of l)) (map call_of l) (machine_of new) g) (sym ws)
      (subst (λ (o : Option Stand). Reaches policy s (way_in way) o (map call_of (drop 1 old.waits.items)) (machine_of new) g) (returned_first old.waits.items)
      (subst (λ (l : List (Option (ℕ × Option Name))). Reaches policy s (way_in way) (returned (map back_of old.waits.items)) l (machine_of new) g) (later_calls old.waits.items) on))

  module _ (node : Node) (at number : ℕ) (taker : Option Name) (en : slice_get run.graph.now.nodes.items point.0 ≡ Some node)
      (er : slice_get (rows_of run) point.0 ≡ Some (row.Calls at number taker)) where
    there : (o : Option Stand) × CallLeads (all_parts policy s) here.returns number front.what.next o
    there = call_there policy s here waiting (machine_of old) g h front at number taker (row_is (row.Calls at number taker) er)

    -- the callee of a call is there

    pub has_callee : slice_get run.graph.now.parts.items number ≡ None → ⊥
    has_callee e = absurd (none-some there.1.part (sym e ∙ (ap (λ (ps : List Part). slice_get ps number) is_run.graph.parts ∙ there.1.callee)))

    pub call_advances : (back : PointId) (part : Part) → first node.next ≡ Some back → slice_get run.graph.now.parts.items number ≡ Some part → (way : HeldWay) (new : HeldMachine)
        → Goes (Ok way) (machine_of new) (step_by s false front.item front.frames (machine_of old)) → map back_of new.waits.items ≡ back.0 ∷ map back_of old.waits.items
        → map call_of new.waits.items ≡ Some (at, taker) ∷ map call_of old.waits.items → Advances policy s (Ok (record { way = way; next = Some part.entry })) new g
    call_advances back part eb ep way new q backs calls =
        let on =
        call_on policy s here waiting (machine_of old) g h front at number taker (row_is (row.Calls at number taker) er) back part
        (ap (λ (n : Node). first n.next) (node_is node en) ∙ eb) (ap (λ (ps : List Part). slice_get ps number) (sym is_run.graph.parts) ∙ ep) (way_in way) (machine_of new) q
        in
        subst (λ (l : List ℕ). Reaches policy s (way_in way) (Some (stand l part.entry.0)) (map call_of new.waits.items) (machine_of new) g) (sym backs)
        (subst (λ (l : List (Option (ℕ × Option Name))). Reaches policy s (way_in way) (Some (stand (back.0 ∷ map back_of old.waits.items) part.entry.0)) l (machine_of new) g) (sym calls) on)
