use Rattle.std.proofs.Common.{◌≤◌, map, sym, ap, ◌∙◌, subst}
use Rattle.cw_syntax.specs.Trees.{file_of}
use Rattle.cw_syntax.specs.Plans.{Scene, scene_of, plan_of}
use Rattle.cw_resolve.proofs.Scening.{scene_is, many_functions}
use Rattle.cw_callgraph.specs.Finding.{direct}
use Rattle.cw_callgraph.proofs.Calling.{same_calls, rows_count, row_at}
use Rattle.cw_callgraph.proofs.table.calls_in.Goals as goal

pub all_calls-requires : goal.all_calls-requires
all_calls-requires c = record { few = subst (λ n. n ≤ 65535) (sym (many_functions c.args.scene.now c.args.program.now c.requires.scene)) c.requires.few }

pub returns-clause-count : goal.returns-clause-count
returns-clause-count c = rows_count c.args.scene.now c.args.program.now.functions.items c.in_ok-rows.rows.items c.in_ok-rows.ensures.calls

pub returns-clause-calls : goal.returns-clause-calls
returns-clause-calls c =
    let s = c.args.scene.now in
    let fs = c.args.program.now.functions.items in
    let file = file_of c.args.program.now in
    let rows = c.in_ok-rows.rows.items in
    let calls = c.in_ok-rows.ensures.calls ∙ ap (λ (t : Scene). map (direct t) fs) (sym (scene_is s file c.requires.scene)) in
    let same = same_calls (scene_of s.names s.source file) fs (plan_of s.names s.source file).main rows calls in
    λ f row at. sym (row_at rows f row at) ∙ same f
