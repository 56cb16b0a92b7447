use Rattle.std.proofs.Common.{Some, sym, subst, ◌∙◌}
use Rattle.cw_value.specs.Shown.{Values}
use Rattle.cw_value.specs.Runs.{Ends, going_start, most_steps}
use Rattle.cw_starts.specs.Sources.{source_in}
use Rattle.cw_woven_values.specs.Standing.{problem}
use Rattle.cw_woven_values.proofs.Beginning.{ends_first}
use Rattle.cw_woven_values.proofs.woven.run_main.Goals as goal

pub returns-in-None : goal.returns-in-None
returns-in-None c = λ w mem is_run all begins.
    let s = source_in c.args.run.now.known.source in
    let h = c.args.game.now in
    let t = c.args.table.now in
    subst (λ (v : Values). Ends s (problem h s t) (Some t) most_steps (going_start s (problem h s t) (Some t) c.args.tries.now mem) v) (sym c.at_once.ensures)
    (ends_first h c.args.run.now t w mem c.args.tries.now c.args.main begins (sym c.entry.ensures ∙ c.in-None.is))
