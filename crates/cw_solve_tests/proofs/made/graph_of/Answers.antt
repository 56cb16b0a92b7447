use Rattle.std.proofs.Common.{sym, subst}
use Rattle.cw_rights.specs.Policies.{policy_of}
use Rattle.cw_syntax.specs.Trees.{file_of}
use Rattle.cw_resolve.specs.Scenes.{names_of}
use Rattle.cw_source.specs.Read.{ReadsAs}
use Rattle.cw_solve_tests.proofs.made.graph_of.Goals as goal

pub returns-clause-drawn : goal.returns-clause-drawn
returns-clause-drawn c =
    let text = c.in-Ok.checked.source.now in
    let file = file_of c.in-Ok.checked.program in
    record {
      source = text;
      file = file;
      runnable =
          c.programs_are_runnable.ensures.runnable (names_of (policy_of c.args.policy.now)) text file
          (subst (λ t. ReadsAs t file) (sym c.in-Ok.ensures.source) c.in-Ok.ensures.program);
      drawn = c.in-Ok-build.ensures.graph;
    }

pub returns-clause-leaves : goal.returns-clause-leaves
returns-clause-leaves c =
    let policy = policy_of c.args.policy.now in
    let text = c.in-Ok.checked.source.now in
    let file = file_of c.in-Ok.checked.program in
    c.read_programs_leave_main.ensures (names_of policy) policy text file c.in-Ok-build.graph
    (subst (λ t. ReadsAs t file) (sym c.in-Ok.ensures.source) c.in-Ok.ensures.program)
    c.in-Ok-build.ensures.graph
