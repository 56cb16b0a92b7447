use Rattle.std.proofs.Common.{sym, ap, ◌∙◌, ◌++◌}
use Rattle.cw_rights.specs.Policies.{policy_of}
use Rattle.cw_trace.specs.Labels.{name_lists}
use Rattle.cw_trace.specs.Told.{label_lines}
use Rattle.cw_run.proofs.Prefixed.{reached_told, told_after, untold_after}
use Rattle.cw_run.proofs.owned.put_own_reached.Goals as goal
use Rattle.cw_run.proofs.owned.put_own_reached.Goals.{then-is_label, else-is_label}

pub returns-clause-text : goal.returns-clause-text
returns-clause-text g c =
    let line = label_lines (name_lists c.args.names.now) (policy_of c.args.policy.now) c.args.caps.now c.args.spot in
    let is = reached_told (name_lists c.args.names.now) (policy_of c.args.policy.now) c.args.caps.now c.args.spot ∙ sym c.is_label.ensures in
    elim c.if-is_label.branch [
      | then-is_label w ↦
          told_after c.args.process c.args.writer.now.text c.if-is_label.writer.text _ line (is ∙ w.if-is_label.true)
          (ap (λ (y : _). y.text) w.writer-is ∙ w.put_process.ensures.text) c.put_reached.ensures.text
      | else-is_label w ↦
          untold_after c.args.process c.args.writer.now.text _ line (is ∙ w.if-is_label.false)
          (c.put_reached.ensures.text ∙ ap (λ (y : _). y.text ++ line) w.writer-is)
    ]
