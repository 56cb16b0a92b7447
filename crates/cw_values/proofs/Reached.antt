-- The steps by their rows: within a frame, into a callee, back to a caller.
use Rattle.std.proofs.Common.{◌≡◌, ℕ, List, [], ◌∷◌, true, false, map, drop, Option, Some, None, option_map, refl, sym, ap, subst, ◌∙◌}
use Rattle.std.specs.Prelude.{slice_get}
use Rattle.std.proofs.lemmas.Option.{none-some, same_Some}
use Rattle.cw_core.specs.declared.ids.PointId.{PointId}
use Rattle.cw_rights.specs.Policies.{PlainPolicy}
use Rattle.cw_syntax.specs.declared.program.Name.{Name}
use Rattle.cw_syntax.specs.Plans.{Callee, Plain, Break, Continue, Return, Open, Close, Call, Group, Label, If, While, Do, For, Plan}
use Rattle.cw_syntax.specs.Frames.{Item, Entry, Todo, Test, After, LoopEnd, End, Frame, Way, On, Left, Right, Opened, Failed, after, settle, popped, pass, frame_of, new_frame}
use Rattle.cw_points.specs.declared.graph.Point.{Point}
use Rattle.cw_points.specs.declared.graph.Point.TheVariants as point
use Rattle.cw_points.specs.declared.graph.Part.{Part}
use Rattle.cw_points.specs.Walks.{Stand, stand, returned, goes as goes_to}
use Rattle.cw_points.proofs.Laying.{situated_program}
use Rattle.cw_points.proofs.Ways.{StackAt, Tied}
use Rattle.cw_points.proofs.Walking.{tied}
use Rattle.cw_resolve.specs.Scenes.{names_of}
use Rattle.cw_value.specs.Machines.{Source, Machine, Locals, goes, step_by, call_in}
use Rattle.cw_value.specs.Runs.{Going}
use Rattle.cw_agree.proofs.Progress.{Ready}
use Rattle.cw_deeds.specs.declared.items.Row.TheVariants as row
use Rattle.cw_deeds.specs.Rows.{row_of}
use Rattle.cw_machine.specs.Shown.{IsInnerRow}
use Rattle.cw_machine.proofs.Rowed.{an_end}
use Rattle.cw_values.specs.Stands.{plan, below, here_of, Stands, Follows, Passes}
use Rattle.cw_values.specs.Running.{first, next_by}
use Rattle.cw_values.proofs.Fronts.{Suits, IsInnerPoint, inner_leads, exit_leads, call_leads, CallLeads}
use Rattle.cw_values.proofs.Following.{Fronted, goes_here, stands_on, leads_here, of_stack, all_nodes, all_items, all_parts}

-- ---- items by their rows

suits_inner : (i : Item) (n : Point) → IsInnerRow (row_of i) → Suits i n → IsInnerPoint n
suits_inner (Entry g j) n r h = h
suits_inner (Test at d u s) n r h = h
suits_inner (After at) n r h = h
suits_inner LoopEnd n r h = h
suits_inner (End g) n r h = absurd r
suits_inner (Todo (Plain at)) n r h = h
suits_inner (Todo (Break at)) n r h = h
suits_inner (Todo (Continue at)) n r h = h
suits_inner (Todo (Return at)) n r h = h
suits_inner (Todo (Open at j d)) n r h = h
suits_inner (Todo (Close at j d)) n r h = h
suits_inner (Todo (Call at j callee)) n r h = absurd r
suits_inner (Todo (Group ss)) n r h = h
suits_inner (Todo (Label at mark j l s)) n r h = h
suits_inner (Todo (If at s t)) n r h = h
suits_inner (Todo (While at s)) n r h = h
suits_inner (Todo (Do at s)) n r h = h
suits_inner (Todo (For at init d u s)) n r h = h

-- a call of this function, at this place, whose result this name takes
pub record IsCall (i : Item) (at number : ℕ) (taker : Option Name) : Type 0 where
  pub seam : ℕ
  pub callee : Callee
  pub item : i ≡ Todo (Call at seam callee)
  pub called : callee.number ≡ number
  pub takes : callee.result ≡ taker

pub a_call : (i : Item) (at number : ℕ) (taker : Option Name) → row_of i ≡ row.Calls at number taker → IsCall i at number taker
a_call (Entry g j) at n x e = absurd (cc)
a_call (Test at' true u b) at n x e = absurd (cc)
a_call (Test at' false u b) at n x e = absurd (cc)
a_call (After at') at n x e = absurd (cc)
a_call LoopEnd at n x e = absurd (cc)
a_call (End g) at n x e = absurd (cc)
a_call (Todo (Plain at')) at n x e = absurd (cc)
a_call (Todo (Break at')) at n x e = absurd (cc)
a_call (Todo (Continue at')) at n x e = absurd (cc)
a_call (Todo (Return at')) at n x e = absurd (cc)
a_call (Todo (Open at' j d)) at n x e = absurd (cc)
a_call (Todo (Close at' j d)) at n x e = absurd (cc)
a_call (Todo (Call at' j callee)) at n x e =
    let a : at' ≡ at = cc in
    let b : callee.number ≡ n = cc in
    let c : callee.result ≡ x = cc in
    record { seam = j; callee = callee; item = ap (λ k. Todo (Call k j callee)) a; called = b; takes = c }
a_call (Todo (Group ss)) at n x e = absurd (cc)
a_call (Todo (Label at' mark j l b)) at n x e = absurd (cc)
a_call (Todo (If at' a b)) at n x e = absurd (cc)
a_call (Todo (While at' b)) at n x e = absurd (cc)
a_call (Todo (Do at' b)) at n x e = absurd (cc)
a_call (Todo (For at' init d u b)) at n x e = absurd (cc)

-- ---- the frames below, after a step

mapped_below : (frames next : List Frame) (o : Option Frame) → option_map (λ n. settle n ∷ frames) o ≡ Some next → below next ≡ frames
mapped_below frames next None e = absurd (none-some next e)
mapped_below frames next (Some x) e = ap below (sym (same_Some (settle x ∷ frames) next e))

module _ (p : Plan) where
  inner_below : (i : Item) (is : Frame) (frames next : List Frame) (way : Way) → IsInnerRow (row_of i) → pass p ((i ∷ is) ∷ frames) way ≡ Some next → below next ≡ frames
  inner_below (Entry g j) is frames next way r e = mapped_below frames next (after (Entry g j) way is) e
  inner_below (Test at d u s) is frames next way r e = mapped_below frames next (after (Test at d u s) way is) e
  inner_below (After at) is frames next way r e = mapped_below frames next (after (After at) way is) e
  inner_below LoopEnd is frames next way r e = mapped_below frames next (after LoopEnd way is) e
  inner_below (End g) is frames next way r e = absurd r
  inner_below (Todo (Plain at)) is frames next way r e = mapped_below frames next (after (Todo (Plain at)) way is) e
  inner_below (Todo (Break at)) is frames next way r e = mapped_below frames next (after (Todo (Break at)) way is) e
  inner_below (Todo (Continue at)) is frames next way r e = mapped_below frames next (after (Todo (Continue at)) way is) e
  inner_below (Todo (Return at)) is frames next way r e = mapped_below frames next (after (Todo (Return at)) way is) e
  inner_below (Todo (Open at j d)) is frames next way r e = mapped_below frames next (after (Todo (Open at j d)) way is) e
  inner_below (Todo (Close at j d)) is frames next way r e = mapped_below frames next (after (Todo (Close at j d)) way is) e
  inner_below (Todo (Call at j callee)) is frames next way r e = absurd r
  inner_below (Todo (Group ss)) is frames next way r e = mapped_below frames next (after (Todo (Group ss)) way is) e
  inner_below (Todo (Label at mark j l s)) is frames next way r e = mapped_below frames next (after (Todo (Label at mark j l s)) way is) e
  inner_below (Todo (If at s t)) is frames next way r e = mapped_below frames next (after (Todo (If at s t)) way is) e
  inner_below (Todo (While at s)) is frames next way r e = mapped_below frames next (after (Todo (While at s)) way is) e
  inner_below (Todo (Do at s)) is frames next way r e = mapped_below frames next (after (Todo (Do at s)) way is) e
  inner_below (Todo (For at init d u s)) is frames next way r e = mapped_below frames next (after (Todo (For at init d u s)) way is) e

  popped_below : (frames next : List Frame) → popped frames ≡ Some next → below next ≡ below frames
  popped_below [] next e = ap below (sym (same_Some [] next e))
  popped_below ([] ∷ frames) next e = absurd (none-some next e)
  popped_below ((call ∷ rest) ∷ frames) next e = ap below (sym (same_Some (settle rest ∷ frames) next e))

  end_below : (g : ℕ) (is : Frame) (frames next : List Frame) (way : Way) → pass p ((End g ∷ is) ∷ frames) way ≡ Some next → below next ≡ below frames
  end_below g is frames next On e = popped_below frames next e
  end_below g is frames next Left e = absurd (none-some next e)
  end_below g is frames next Right e = absurd (none-some next e)
  end_below g is frames next Opened e = absurd (none-some next e)
  end_below g is frames next Failed e = absurd (none-some next e)

  pushed_below : (stack next : List Frame) (o : Option Frame) → option_map (λ frame. frame ∷ stack) o ≡ Some next → below next ≡ stack
  pushed_below stack next None e = absurd (none-some next e)
  pushed_below stack next (Some x) e = ap below (sym (same_Some (x ∷ stack) next e))

  call_below : (at j : ℕ) (callee : Callee) (is : Frame) (frames next : List Frame) (way : Way) → pass p ((Todo (Call at j callee) ∷ is) ∷ frames) way ≡ Some next
      → below next ≡ (Todo (Call at j callee) ∷ is) ∷ frames
  call_below at j callee is frames next On e = pushed_below ((Todo (Call at j callee) ∷ is) ∷ frames) next (frame_of p callee.number) e
  call_below at j callee is frames next Left e = absurd (none-some next e)
  call_below at j callee is frames next Right e = absurd (none-some next e)
  call_below at j callee is frames next Opened e = absurd (none-some next e)
  call_below at j callee is frames next Failed e = absurd (none-some next e)

calls_below : (frames : List Frame) → map call_in (below frames) ≡ drop 1 (map call_in frames)
calls_below [] = refl
calls_below (frame ∷ frames) = refl

-- ---- the state behind the step

abbrev pub Calls : Type 0
Calls = List (Option (ℕ × Option Name))

module _ (policy : PlainPolicy) (s : Source) where
  abbrev pub Reaches : Way → Option Stand → Calls → Machine → Going → Type 0
  Reaches way here calls k g = (now : Going) × Stands policy s here calls k now × Follows policy s g now × Passes policy s way g now

  module _ (st : Stand) (calls : Calls) (m : Machine) (g : Going) (h : Stands policy s (Some st) calls m g) (f : Fronted policy s st g) where
    pub waiting_below : map call_in f.frames ≡ calls
    waiting_below = sym (ap (λ (x : List Frame). map call_in (below x)) f.front) ∙ h.waiting

    pub inner_on : IsInnerRow (row_of f.item) → (way : Way) (k : Machine) → step_by s false f.item f.frames m ≡ goes way k → Reaches way (here_of (next_by f.what.next way) st.returns) calls k g
    inner_on inner way k e =
        let moved = goes_here policy s st calls m g h f way k e in
        stands_on policy s st calls m g h f way k e (here_of (next_by f.what.next way) st.returns) calls
        (inner_leads (all_parts policy s) st.returns f.what.point f.what.next way moved.here (suits_inner f.item f.what.point inner f.suits)
        (leads_here policy s st calls m g h f way moved.here moved.leads))
        (ap (map call_in) (inner_below (plan policy s) f.item f.rest f.frames moved.next way inner moved.passes) ∙ waiting_below)

    pub end_on : row_of f.item ≡ row.Ends → (way : Way) (k : Machine) → step_by s false f.item f.frames m ≡ goes way k → Reaches way (returned st.returns) (drop 1 calls) k g
    end_on ends way k e =
        let moved = goes_here policy s st calls m g h f way k e in
        let q = an_end f.item ends in
        let exit : f.what.point ≡ point.Exit = subst (λ (i : Item). Suits i f.what.point) q.1 f.suits in
        let passes = subst (λ (i : Item). pass (plan policy s) ((i ∷ f.rest) ∷ f.frames) way ≡ Some moved.next) q.1 moved.passes in
        stands_on policy s st calls m g h f way k e (returned st.returns) (drop 1 calls)
        (exit_leads (all_parts policy s) st.returns f.what.point f.what.next way moved.here exit (leads_here policy s st calls m g h f way moved.here moved.leads))
        (ap (map call_in) (end_below (plan policy s) q.0 f.rest f.frames moved.next way passes) ∙ (calls_below f.frames ∙ ap (drop 1) waiting_below))

    module _ (at number : ℕ) (taker : Option Name) (is_call : row_of f.item ≡ row.Calls at number taker) where
      called_point : f.what.point ≡ point.Call number
      called_point =
          let c = a_call f.item at number taker is_call in
          let suits : f.what.point ≡ point.Call c.callee.number = subst (λ (i : Item). Suits i f.what.point) c.item f.suits in
          suits ∙ ap (λ n. point.Call n) c.called

      callee_there : (c : IsCall f.item at number taker) (ls : List Locals) → Ready policy s h.runs ((Todo (Call at c.seam c.callee) ∷ f.rest) ∷ f.frames) ls
          → (next : List Frame) × (pass (plan policy s) ((Todo (Call at c.seam c.callee) ∷ f.rest) ∷ f.frames) On ≡ Some next)
      callee_there c [] r = absurd r
      callee_there c (l ∷ ls) r =
          let full : List Frame = (Todo (Call at c.seam c.callee) ∷ f.rest) ∷ f.frames in
          let there = r.1.0 in
          (new_frame c.callee.number there.0 ∷ full, ap (λ o. option_map (λ frame. frame ∷ full) (option_map (new_frame c.callee.number) o)) there.1)

      -- the callee is there, and the call has a successor, whatever its arguments do
      pub call_there : (here : Option Stand) × CallLeads (all_parts policy s) st.returns number f.what.next here
      call_there =
          let c = a_call f.item at number taker is_call in
          let stack : List Frame = (Todo (Call at c.seam c.callee) ∷ f.rest) ∷ f.frames in
          let front : g.woven.board.stack ≡ stack = f.front ∙ ap (λ (i : Item). (i ∷ f.rest) ∷ f.frames) c.item in
          let stands = subst (λ (x : List Frame). StackAt (all_nodes policy s) (all_items policy s) x (Some st)) front h.stack in
          let there = callee_there c g.machine.frames (subst (λ (x : List Frame). Ready policy s h.runs x g.machine.frames) front h.ready) in
          let both = tied (all_nodes policy s) (all_items policy s) (plan policy s) (all_parts policy s) (situated_program (names_of policy) s.bytes s.file)
          (Todo (Call at c.seam c.callee) ∷ f.rest) f.frames st On stands in
          let to = of_stack policy s there.0 (goes_to (all_nodes policy s) (all_parts policy s) st On)
          (subst (λ o. Tied (all_nodes policy s) (all_items policy s) o (goes_to (all_nodes policy s) (all_parts policy s) st On)) there.1 both) in
          (to.0, call_leads (all_parts policy s) st.returns number f.what.point f.what.next On to.0 called_point (leads_here policy s st calls m g h f On to.0 to.1))

      pub call_on : (back : PointId) (part : Part) → first f.what.next ≡ Some back → slice_get (all_parts policy s) number ≡ Some part
          → (way : Way) (k : Machine) → step_by s false f.item f.frames m ≡ goes way k → Reaches way (Some (stand (back.0 ∷ st.returns) part.entry.0)) (Some (at, taker) ∷ calls) k g
      call_on back part behind callee way k e =
          let moved = goes_here policy s st calls m g h f way k e in
          let c = a_call f.item at number taker is_call in
          let to = call_leads (all_parts policy s) st.returns number f.what.point f.what.next way moved.here called_point (leads_here policy s st calls m g h f way moved.here moved.leads) in
          let same_back : to.back ≡ back = same_Some to.back back (sym to.behind ∙ behind) in
          let same_part : to.part ≡ part = same_Some to.part part (sym to.callee ∙ callee) in
          let passes = subst (λ (i : Item). pass (plan policy s) ((i ∷ f.rest) ∷ f.frames) way ≡ Some moved.next) c.item moved.passes in
          stands_on policy s st calls m g h f way k e (Some (stand (back.0 ∷ st.returns) part.entry.0)) (Some (at, taker) ∷ calls)
          (to.to ∙ (ap (λ (b : PointId). Some (stand (b.0 ∷ st.returns) to.part.entry.0)) same_back ∙ ap (λ (q : Part). Some (stand (back.0 ∷ st.returns) q.entry.0)) same_part))
          (ap (map call_in) (call_below (plan policy s) at c.seam c.callee f.rest f.frames moved.next way passes)
          ∙ (ap (λ x. Some (at, x) ∷ map call_in f.frames) c.takes ∙ ap (λ l. Some (at, taker) ∷ l) waiting_below))
