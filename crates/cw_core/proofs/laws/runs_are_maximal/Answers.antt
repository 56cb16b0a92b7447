use Rattle.std.proofs.Common.{arith}
use Rattle.cw_core.proofs.Runs.{runs_ascend, runs_have, runs_have_only, whole_runs}
use Rattle.cw_core.proofs.laws.runs_are_maximal.Goals as goal

pub returns : goal.returns
returns c = record {
  ascend = rw (whole_runs c.args.set.now) at (runs_ascend c.args.set.now 0 1024);
  members = λ s. (
    (λ member. rw (whole_runs c.args.set.now) at (runs_have c.args.set.now 0 1024 s member (omega arith) (let p = c.fact_members_are_below_1024.ensures.below s member in omega (arith, p)))),
    (λ there. (runs_have_only c.args.set.now 0 1024 s (rw (whole_runs c.args.set.now) there)).0),
  );
}
