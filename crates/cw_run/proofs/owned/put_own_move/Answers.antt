use Rattle.std.proofs.Common.{sym, ap, ◌∙◌, ◌++◌}
use Rattle.cw_rights.specs.Policies.{policy_of}
use Rattle.cw_trace.specs.Labels.{name_lists}
use Rattle.cw_trace.specs.Told.{spot_lines}
use Rattle.cw_run.proofs.Prefixed.{line_told, told_after, untold_after}
use Rattle.cw_run.proofs.owned.put_own_move.Goals as goal
use Rattle.cw_run.proofs.owned.put_own_move.Goals.{then-has_line, else-has_line}

pub returns-clause-text : goal.returns-clause-text
returns-clause-text g c =
    let line = spot_lines (name_lists c.args.names.now) (policy_of c.args.policy.now) c.args.main c.args.spot c.args.by in
    let is = line_told (name_lists c.args.names.now) (policy_of c.args.policy.now) c.args.main c.args.spot c.args.by ∙ sym c.has_line.ensures in
    elim c.if-has_line.branch [
      | then-has_line w ↦
          told_after c.args.process c.args.writer.now.text c.if-has_line.writer.text _ line (is ∙ w.if-has_line.true)
          (ap (λ (y : _). y.text) w.writer-is ∙ w.put_process.ensures.text) c.put_move.ensures.text
      | else-has_line w ↦
          untold_after c.args.process c.args.writer.now.text _ line (is ∙ w.if-has_line.false)
          (c.put_move.ensures.text ∙ ap (λ (y : _). y.text ++ line) w.writer-is)
    ]
