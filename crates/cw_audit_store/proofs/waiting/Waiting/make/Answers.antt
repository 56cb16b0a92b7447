use Rattle.std.proofs.Common.{map, ap}
use Rattle.cw_audit_store.specs.Nearest.{keyed}
use Rattle.cw_audit_store.proofs.waiting.Waiting.make.Goals as goal

pub returns : goal.returns
returns c = ap (map keyed) c.new.ensures.items
