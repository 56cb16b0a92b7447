-- What is read can be run.
use Rattle.std.proofs.Common.{sym, subst}
use Rattle.cw_rights.specs.Policies.{policy_of}
use Rattle.cw_resolve.specs.Scenes.{names_of}
use Rattle.cw_syntax.specs.Trees.{file_of}
use Rattle.cw_source.specs.Read.{ReadsAs}
use Rattle.cw_check_tests.proofs.tables.graph_of.Goals as goal

pub returns-clause-drawn : goal.returns-clause-drawn
returns-clause-drawn c =
    let source = c.in-Ok.checked.source.now in
    let file = file_of c.in-Ok.checked.program in
    let reads = subst (λ s. ReadsAs s file) (sym c.in-Ok.ensures.source) c.in-Ok.ensures.program in
    record {
      source = source;
      file = file;
      runnable = c.programs_are_runnable.ensures.runnable (names_of (policy_of c.args.policy.now)) source file reads;
      drawn = c.in-Ok-build.ensures.graph;
    }
