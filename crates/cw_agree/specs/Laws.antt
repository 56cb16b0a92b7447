-- Laws of runs over values, of every policy, table, source and program.
use Rattle.std.specs.Prelude.{◌≡◌, ℕ, List, Option}
use Rattle.cw_core.specs.declared.ids.SeamId.{SeamId}
use Rattle.cw_rights.specs.Policies.{PlainPolicy}
use Rattle.cw_certs.specs.Tables.{Table}
use Rattle.cw_syntax.specs.Trees.{File}
use Rattle.cw_syntax.specs.Plans.{plan_of}
use Rattle.cw_syntax.specs.Runnable.{IsRunnable}
use Rattle.cw_resolve.specs.Scenes.{names_of}
use Rattle.cw_model.specs.Boards.{problem_of}
use Rattle.cw_callgraph.specs.Fitting.{Fits}
use Rattle.cw_value.specs.Shown.{Answers, Values}
use Rattle.cw_value.specs.declared.values.Stop.TheVariants.{Refused}
use Rattle.cw_value.specs.Expressions.{Memory, gives}
use Rattle.cw_value.specs.Declarations.{done}
use Rattle.cw_value.specs.Starts.{begun}
use Rattle.cw_value.specs.Runs.{source_of, going_start, IsRun, IsPlainRun, IsWovenRun}
use Rattle.cw_agree.specs.Agreements.{Agrees, IsRefused, IsUnrefused}

-- Over the same answers the woven run of a policy that fits makes the calls of the plain run and ends as it does, unless the weaver ends it.
abbrev pub RunsAgree : Type 0
RunsAgree = (policy : PlainPolicy) (table : Table) (bytes : List ℕ) (file : File) (handed_in : Answers) (v w : Values) → Fits bytes file policy
    → IsPlainRun policy bytes file handed_in v → IsWovenRun policy table bytes file handed_in w → Agrees policy v w

-- A source has at most one run over the same answers, and so has a woven program.
abbrev pub OneRun : Type 0
OneRun = (weaver : Option Table) (policy : PlainPolicy) (bytes : List ℕ) (file : File) (handed_in : Answers) (v w : Values)
    → IsRun weaver policy bytes file handed_in v → IsRun weaver policy bytes file handed_in w → v ≡ w

-- A run that the weaver has ended was ended right after a refusal that took an entry of the answers to tries.
abbrev pub RefusalsAreTaken : Type 0
RefusalsAreTaken = (weaver : Option Table) (policy : PlainPolicy) (bytes : List ℕ) (file : File) (handed_in : Answers) (v : Values) (seam : SeamId) → v.stop ≡ Refused seam
    → IsRun weaver policy bytes file handed_in v
    → (m : Memory) × (begun (source_of bytes file handed_in) handed_in.calls ≡ gives done m)
    × IsRefused (source_of bytes file handed_in) (problem_of policy bytes file) weaver (going_start (source_of bytes file handed_in) (problem_of policy bytes file) weaver handed_in.tries m) v

-- A source whose jumps stand in loops and whose `main` is there has a run, over any answers.
abbrev pub SomeRun : Type 0
SomeRun = (policy : PlainPolicy) (bytes : List ℕ) (file : File) (handed_in : Answers) → IsRunnable (plan_of (names_of policy) bytes file)
    → (v : Values) × IsPlainRun policy bytes file handed_in v

-- A plain run tries nothing, and isn't ended by the weaver.
abbrev pub PlainRunsTryNothing : Type 0
PlainRunsTryNothing = (policy : PlainPolicy) (bytes : List ℕ) (file : File) (handed_in : Answers) (v : Values) → IsPlainRun policy bytes file handed_in v → (v.tried ≡ 0) × IsUnrefused v.stop

-- So beside each woven run of a policy that fits there is a plain run with which it agrees.
abbrev pub SomeRunAgrees : Type 0
SomeRunAgrees = (policy : PlainPolicy) (table : Table) (bytes : List ℕ) (file : File) (handed_in : Answers) (w : Values) → IsRunnable (plan_of (names_of policy) bytes file) → Fits bytes file policy
    → IsWovenRun policy table bytes file handed_in w → (v : Values) × IsPlainRun policy bytes file handed_in v × Agrees policy v w
