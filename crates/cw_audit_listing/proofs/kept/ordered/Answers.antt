use Rattle.cw_audit_listing.proofs.Keeping.{are_ordered}
use Rattle.cw_audit_listing.proofs.kept.ordered.Goals as goal

pub returns : goal.returns
returns c = are_ordered c.args.row_keys.items c.sort.new.self.items c.sort.ensures.permutation c.in_ok-sort.ensures.sorted
