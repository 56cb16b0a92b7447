-- The steps of a woven run, one after the other.
use Rattle.std.proofs.Common.{◌≡◌, ◌≢◌, ℕ, suc, ◌+◌, ◌-◌, ◌<◌, ◌≤◌, List, ◌∷◌, Some, None, Ok, Err, sym, ap, ◌∙◌, subst, arith}
use Rattle.cw_core.specs.declared.ids.SeamId.{SeamId}
use Rattle.cw_certs.specs.declared.moves.Move.{Move}
use Rattle.cw_certs.specs.Tables.{Table}
use Rattle.cw_syntax.specs.Frames.{Frame}
use Rattle.cw_model.specs.Boards.{Over}
use Rattle.cw_product.specs.Product.{Held}
use Rattle.cw_run.specs.declared.walk.Here.{Here as HereData}
use Rattle.cw_run.specs.Walks.{Wait, here_of}
use Rattle.cw_value.specs.declared.values.Stop.{Stop}
use Rattle.cw_value.specs.declared.values.Stop.TheVariants.{Ended, Steps as StepsStop, Refused}
use Rattle.cw_value.specs.Machines.{Source, Machine}
use Rattle.cw_value.specs.Shown.{Values}
use Rattle.cw_value.specs.Runs.{Going, Ends, spent, most_steps}
use Rattle.cw_eval.specs.declared.halt.Halt.TheVariants as halt
use Rattle.cw_machine.specs.declared.machine.Machine.{Machine as HeldMachine}
use Rattle.cw_machine.specs.Shown.{machine_of}
use Rattle.cw_agree.proofs.Paired.{Fits}
use Rattle.cw_woven_values.specs.declared.stepping.Stand.{Stand}
use Rattle.cw_woven_values.specs.Standing.{IsWoven, problem}
use Rattle.cw_woven_values.specs.Visiting.{Quits, Arrives}
use Rattle.cw_woven_values.specs.Stepping.{StandsWoven, Steps}
use Rattle.cw_woven_values.specs.Ending.{EndsSo, Leads}
use Rattle.cw_woven_values.proofs.Seeing.{seen}

module _ (h : Held) (s : Source) (t : Table) (w : IsWoven h s t) where
  one_less : (i : ℕ) → i < most_steps → suc (most_steps - (i + 1)) ≡ most_steps - i
  one_less i below = omega arith

  -- what was called, as the code holds it
  made_is : (stand : Stand) (m : HeldMachine) (waits : List Wait) (left : List Move) (made : ℕ) (now : Going) → StandsWoven h s t w stand m waits left made now → now.machine.made ≡ (machine_of m).made
  made_is stand m waits left made now k = sym (ap (λ (x : Machine). x.made) k.weaves.paired.values) ∙ ap (λ (x : Machine). x.made) k.stands.machine

  never_over : (stand : Stand) (m : HeldMachine) (waits : List Wait) (left : List Move) (made : ℕ) (now : Going) → StandsWoven h s t w stand m waits left made now → now.woven.board.phase ≢ Over
  never_over stand m waits left made now k e =
      let there = seen h s t w now.woven (here_of stand.here) waits k.weaves.sits in
      fits now.woven.board.stack there.frame there.frames there.stack (subst (Fits now.woven.board.stack) e k.weaves.paired.woven_fits)
    where
      fits : (stack : List Frame) (frame : Frame) (frames : List Frame) → stack ≡ frame ∷ frames → Fits stack Over → ⊥
      fits stack frame frames q f = subst (λ (x : List Frame). Fits x Over) q f

  module _ (stand : Stand) (m : HeldMachine) (waits : List Wait) (left : List Move) (made : ℕ) (run : Going) (i : ℕ) (l : Leads h s t w stand m waits left made run (most_steps - i)) where
    abbrev now : Going
    now = l.0

    abbrev stands : StandsWoven h s t w stand m waits left made now
    stands = l.1

    -- an end with one step less is one of the run
    back : (below : i < most_steps) (v : Values) → Ends s (problem h s t) (Some t) (suc (most_steps - (i + 1))) now v → Ends s (problem h s t) (Some t) most_steps run v
    back below v e = l.2 v (subst (λ (n : ℕ). Ends s (problem h s t) (Some t) n now v) (one_less i below) e)

    pub leads_quits : i < most_steps → (left2 : List Move) (made2 : ℕ) (seam : SeamId) → Quits h s t w stands.plain waits left2 made2 now seam → EndsSo h s t m made2 run (Refused seam)
    leads_quits below left2 made2 seam q =
        subst (λ x. Ends s (problem h s t) (Some t) most_steps run (record { made = x; tried = made2; stop = Refused seam })) (made_is stand m waits left made now stands)
        (back below _ (q (most_steps - (i + 1))))

    pub leads_spent : most_steps ≤ i → EndsSo h s t m made run StepsStop
    leads_spent past =
        let none : 0 ≡ most_steps - i = omega arith in
        let end = spent now (never_over stand m waits left made now stands) in
        l.2 _
        (subst (λ (n : ℕ). Ends s (problem h s t) (Some t) n now (record { made = (machine_of m).made; tried = made; stop = StepsStop })) none
        (subst (λ x. Ends s (problem h s t) (Some t) 0 now (record { made = x; tried = made; stop = StepsStop })) (made_is stand m waits left made now stands)
        (subst (λ (x : ℕ). Ends s (problem h s t) (Some t) 0 now (record { made = now.machine.made; tried = x; stop = StepsStop })) stands.weaves.tried end)))

    module _ (below : i < most_steps) (here : HereData) (left2 : List Move) (made2 : ℕ) (then : Going) (a : Arrives h s t w stands.plain waits left2 made2 now (here_of here) then)
        (waits2 : List Wait) (m2 : HeldMachine) where
      pub leads_on : (next : Stand) → Steps h s t w waits2 left2 made2 then m2 (Ok (Some next)) → Leads h s t w next m2 waits2 left2 made2 run (most_steps - (i + 1))
      leads_on next k = (k.0, k.1, λ v e. back below v (a.ends (most_steps - (i + 1)) v (k.2 (most_steps - (i + 1)) v e)))

      pub leads_over : Steps h s t w waits2 left2 made2 then m2 (Ok None) → EndsSo h s t m2 made2 run Ended
      leads_over k = back below _ (a.ends (most_steps - (i + 1)) _ (k (most_steps - (i + 1))))

      pub leads_stop : (why : Stop) → Steps h s t w waits2 left2 made2 then m2 (Err (halt.Stop why)) → EndsSo h s t m2 made2 run why
      leads_stop why k = back below _ (a.ends (most_steps - (i + 1)) _ (k (most_steps - (i + 1))))
