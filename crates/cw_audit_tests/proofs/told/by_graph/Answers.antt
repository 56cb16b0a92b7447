-- What is read can be run, and its game is the program's.
use Rattle.cw_rights.specs.Policies.{policy_of}
use Rattle.cw_resolve.specs.Scenes.{names_of}
use Rattle.cw_model.specs.Boards.{problem_of}
use Rattle.cw_syntax.specs.Trees.{file_of}
use Rattle.cw_source.proofs.Runnable.{runnable}
use Rattle.cw_source_laws.proofs.Opening.{read_programs_assign}
use Rattle.cw_audit_tests.proofs.told.by_graph.Goals as goal

pub make-requires-clause-graph : goal.make-requires-clause-graph
make-requires-clause-graph c =
    let source = c.args.checked.now.source.now in
    let file = file_of c.args.checked.now.program in
    record { source = source; file = file; runnable = runnable (names_of (policy_of c.args.policy.now)) source file c.requires.reads; drawn = c.requires.graph }

pub find-requires : goal.find-requires
find-requires c =
    let source = c.args.checked.now.source.now in
    let file = file_of c.args.checked.now.program in
    let runs = runnable (names_of (policy_of c.args.policy.now)) source file c.requires.reads in
    record {
      program = (
        problem_of (policy_of c.args.policy.now) source file,
        c.in-Ok.ensures.is_game source file c.requires.graph runs (read_programs_assign source file c.requires.reads),
      );
    }
