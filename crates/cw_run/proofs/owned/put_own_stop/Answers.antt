use Rattle.cw_run.proofs.Prefixed.{stop_told, told_after}
use Rattle.cw_run.proofs.owned.put_own_stop.Goals as goal

pub returns-clause-text : goal.returns-clause-text
returns-clause-text g c =
    told_after c.args.process c.args.writer.now.text c.put_process.new.writer.text _ _ (stop_told c.args.seam.0) c.put_process.ensures.text c.put_stop.ensures.line
