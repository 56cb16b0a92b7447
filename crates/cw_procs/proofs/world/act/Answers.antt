use Rattle.std.proofs.Common.{List, refl, sym, ap, ◌∙◌}
use Rattle.std.specs.Prelude.{slice_get}
use Rattle.cw_run.specs.Walks.{landing_in}
use Rattle.cw_procs.specs.declared.world.Process.{Process as ProcessData}
use Rattle.cw_procs.specs.Walks.{process_of, over}
use Rattle.cw_procs.proofs.Acting.{mapped_get}
use Rattle.cw_procs.proofs.world.act.Goals as goal

pub returns-in-Over-clause-acted : goal.returns-in-Over-clause-acted
returns-in-Over-clause-acted g c =
    let there = ap (λ (l : List ProcessData). slice_get l c.args.step.process) (sym c.deref.ensures.value) ∙ sym c.process_at.ensures.is ∙ c.in-Some.is in
    (over (process_of c.in-Some.process) (mapped_get process_of c.args.processes.now.items c.args.step.process c.in-Some.process there) (ap landing_in c.in-Over.is), refl)
