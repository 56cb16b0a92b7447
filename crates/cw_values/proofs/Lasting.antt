-- The steps of a run, one after the other.
use Rattle.std.proofs.Common.{◌≡◌, ℕ, suc, ◌+◌, ◌-◌, ◌<◌, List, [], ◌∷◌, Option, Some, None, Ok, Err, refl, sym, subst, ◌∙◌, arith}
use Rattle.cw_core.specs.declared.ids.PointId.{PointId}
use Rattle.cw_rights.specs.Policies.{PlainPolicy}
use Rattle.cw_syntax.specs.Frames.{Frame}
use Rattle.cw_points.specs.Graphs.{nodes}
use Rattle.cw_points.specs.Points.{points}
use Rattle.cw_points.specs.Walks.{Stand}
use Rattle.cw_points.proofs.Ways.{StackAt}
use Rattle.cw_model.specs.Boards.{problem_of, Over, begin, primitives_in}
use Rattle.cw_model.proofs.Moving.{onward_not_over}
use Rattle.cw_value.specs.declared.values.Stop.{Stop}
use Rattle.cw_value.specs.declared.values.Stop.TheVariants.{Ended, Steps}
use Rattle.cw_value.specs.Machines.{Source, Machine}
use Rattle.cw_value.specs.Shown.{Values}
use Rattle.cw_value.specs.Runs.{Going, Ends, over, spent, most_steps}
use Rattle.cw_eval.specs.declared.halt.Halt.TheVariants as halt
use Rattle.cw_machine.specs.declared.machine.Machine.{Machine as HeldMachine}
use Rattle.cw_machine.specs.Shown.{machine_of}
use Rattle.cw_values.specs.declared.running.Onward.{Onward}
use Rattle.cw_values.specs.Stands.{plan, Advances, EndsSo, Leads, StandsAt}

module _ (policy : PlainPolicy) (s : Source) where
  abbrev Standing : List Frame → Option Stand → Type 0
  Standing stack here = StackAt (nodes (plan policy s)) (points (plan policy s)) stack here

  begins_not : (stack : List Frame) (st : Stand) → Standing stack (Some st) → begin policy stack ≡ Over → ⊥
  begins_not [] st h e = h
  begins_not (frame ∷ frames) st h e = onward_not_over 0 (primitives_in policy frame) e

  begins_over : (stack : List Frame) → Standing stack None → begin policy stack ≡ Over
  begins_over [] h = refl
  begins_over (frame ∷ frames) h = absurd h

  told_so : (left : ℕ) (now : Going) (m : Machine) (stop : Stop) → now.machine ≡ m → now.tried ≡ 0
      → Ends s (problem_of policy s.bytes s.file) None left now (record { made = now.machine.made; tried = now.tried; stop = stop })
      → Ends s (problem_of policy s.bytes s.file) None left now (record { made = m.made; tried = 0; stop = stop })
  told_so left now m stop e t h =
      subst (λ (n : ℕ). Ends s (problem_of policy s.bytes s.file) None left now (record { made = m.made; tried = n; stop = stop })) t
      (subst (λ (x : Machine). Ends s (problem_of policy s.bytes s.file) None left now (record { made = x.made; tried = now.tried; stop = stop })) e h)

  pub leads_on : (old new : HeldMachine) (at : PointId) (next : Onward) (g : Going) (i : ℕ) → i < most_steps → Leads policy s (Some at) old g (most_steps - i)
      → ((now : Going) → StandsAt policy s (Some at) old now → Advances policy s (Ok next) new now) → Leads policy s next.next new g (most_steps - (i + 1))
  leads_on old new at next g i below l step =
      let on = step l.0 l.1 in
      let left : most_steps - i ≡ suc (most_steps - (i + 1)) = omega arith in
      (on.0, on.1, λ v e. l.2 v (subst (λ (n : ℕ). Ends s (problem_of policy s.bytes s.file) None n l.0 v) (sym left) (on.2 (most_steps - (i + 1)) v e)))

  pub leads_stop : (old new : HeldMachine) (at : PointId) (why : Stop) (g : Going) (i : ℕ) → i < most_steps → Leads policy s (Some at) old g (most_steps - i)
      → ((now : Going) → StandsAt policy s (Some at) old now → Advances policy s (Err (halt.Stop why)) new now) → EndsSo policy s new g why
  leads_stop old new at why g i below l step =
      let left : most_steps - i ≡ suc (most_steps - suc i) = omega arith in
      let v : Values = record { made = (machine_of new).made; tried = 0; stop = why } in
      l.2 v (subst (λ (n : ℕ). Ends s (problem_of policy s.bytes s.file) None n l.0 v) (sym left) ((step l.0 l.1).ends (most_steps - suc i)))

  pub leads_over : (m : HeldMachine) (g : Going) (left : ℕ) → Leads policy s None m g left → EndsSo policy s m g Ended
  leads_over m g left l =
      let now = l.0 in
      l.2 _ (told_so left now (machine_of m) Ended l.1.machine l.1.tried (over left now (l.1.phase ∙ begins_over now.woven.board.stack l.1.stack)))

  pub leads_spent : (m : HeldMachine) (at : PointId) (g : Going) (left : ℕ) → left ≡ 0 → Leads policy s (Some at) m g left → EndsSo policy s m g Steps
  leads_spent m at g left none l =
      let now = l.0 in
      let end = told_so 0 now (machine_of m) Steps l.1.machine l.1.tried (spent now (λ e. begins_not now.woven.board.stack _ l.1.stack (sym l.1.phase ∙ e))) in
      let v : Values = record { made = (machine_of m).made; tried = 0; stop = Steps } in
      l.2 v (subst (λ (n : ℕ). Ends s (problem_of policy s.bytes s.file) None n now v) (sym none) end)
