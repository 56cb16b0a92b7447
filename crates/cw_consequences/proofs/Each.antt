-- For each command one answer is due.
use Rattle.std.proofs.Common.{◌≡◌, ℕ, List, [], ◌∷◌}
use Rattle.cw_commands.specs.declared.command.Command.{Command}
use Rattle.cw_commands.specs.declared.command.Command.TheVariants.{Weave, Procs, Graph, Refute, Check, Play, Run, Sample, Reaudit, World, Audit, Values}
use Rattle.cw_commands.specs.Outcomes.{Due}
use Rattle.cw_cli.specs.Due.{IsDue}
use Rattle.cw_consequences.specs.Laws.{EachHasOneAnswer}
use Rattle.cw_consequences.proofs.Answered.{one_check, one_graph, one_played, one_refute, one_run_due}
use Rattle.cw_consequences.proofs.Parted.{one_procs}
use Rattle.cw_consequences.proofs.Audited.{one_reaudit}
use Rattle.cw_consequences.proofs.Valued.{one_values}
use Rattle.cw_consequences.proofs.Worlded.{one_world_due}
use Rattle.cw_consequences.proofs.Readings.{one_answer}
use Rattle.cw_consequences.proofs.Summed.{one_sample}

pub one : EachHasOneAnswer
one Weave fixed [] due answer x y = absurd x
one Weave fixed (a ∷ []) due answer x y = absurd x
one Weave fixed (a ∷ (b ∷ [])) due answer x y = one_answer a b due answer x y
one Weave fixed (a ∷ (b ∷ (d ∷ rest))) due answer x y = absurd x
one Procs fixed [] due answer x y = absurd x
one Procs fixed (a ∷ []) due answer x y = absurd x
one Procs fixed (a ∷ (b ∷ [])) due answer x y = one_procs a b due answer x y
one Procs fixed (a ∷ (b ∷ (d ∷ rest))) due answer x y = absurd x
one Graph fixed [] due answer x y = absurd x
one Graph fixed (a ∷ []) due answer x y = one_graph a due answer x y
one Graph fixed (a ∷ (b ∷ rest)) due answer x y = absurd x
one Refute fixed [] due answer x y = absurd x
one Refute fixed (a ∷ []) due answer x y = absurd x
one Refute fixed (a ∷ (b ∷ [])) due answer x y = absurd x
one Refute fixed (a ∷ (b ∷ (d ∷ []))) due answer x y = one_refute a b d due answer x y
one Refute fixed (a ∷ (b ∷ (d ∷ (e ∷ rest)))) due answer x y = absurd x
one Check fixed [] due answer x y = absurd x
one Check fixed (a ∷ []) due answer x y = absurd x
one Check fixed (a ∷ (b ∷ [])) due answer x y = one_check a b due answer x y
one Check fixed (a ∷ (b ∷ (d ∷ rest))) due answer x y = absurd x
one Play fixed [] due answer x y = absurd x
one Play fixed (a ∷ []) due answer x y = absurd x
one Play fixed (a ∷ (b ∷ [])) due answer x y = absurd x
one Play fixed (a ∷ (b ∷ (d ∷ []))) due answer x y = absurd x
one Play fixed (a ∷ (b ∷ (d ∷ (e ∷ [])))) due answer x y = one_played a b d e due answer x y
one Play fixed (a ∷ (b ∷ (d ∷ (e ∷ (f ∷ rest))))) due answer x y = absurd x
one Run fixed [] due answer x y = absurd x
one Run fixed (a ∷ []) due answer x y = absurd x
one Run fixed (a ∷ (b ∷ [])) due answer x y = absurd x
one Run fixed (a ∷ (b ∷ (d ∷ []))) due answer x y = one_run_due a b d due answer x y
one Run fixed (a ∷ (b ∷ (d ∷ (e ∷ rest)))) due answer x y = absurd x
one World fixed [] due answer x y = absurd x
one World fixed (a ∷ []) due answer x y = absurd x
one World fixed (a ∷ (b ∷ [])) due answer x y = absurd x
one World fixed (a ∷ (b ∷ (d ∷ []))) due answer x y = one_world_due a b d due answer x y
one World fixed (a ∷ (b ∷ (d ∷ (e ∷ rest)))) due answer x y = absurd x
one Values fixed [] due answer x y = absurd x
one Values fixed (a ∷ []) due answer x y = absurd x
one Values fixed (a ∷ (b ∷ [])) due answer x y = absurd x
one Values fixed (a ∷ (b ∷ (d ∷ []))) due answer x y = one_values a b d due answer x y
one Values fixed (a ∷ (b ∷ (d ∷ (e ∷ rest)))) due answer x y = absurd x
one (Sample number) fixed [] due answer x y = one_sample number due answer x y
one (Sample number) fixed (a ∷ rest) due answer x y = absurd x
one Reaudit fixed [] due answer x y = absurd x
one Reaudit fixed (a ∷ []) due answer x y = absurd x
one Reaudit fixed (a ∷ (b ∷ [])) due answer x y = absurd x
one Reaudit fixed (a ∷ (b ∷ (d ∷ []))) due answer x y = one_reaudit a b d due answer x y
one Reaudit fixed (a ∷ (b ∷ (d ∷ (e ∷ rest)))) due answer x y = absurd x
one Audit fixed files due answer x y = absurd fixed
