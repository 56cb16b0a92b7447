use Rattle.cw_audit_listing.proofs.Keeping.{all_below_of}
use Rattle.cw_audit_listing.proofs.kept.below.Goals as goal

pub returns : goal.returns
returns c = all_below_of c.args.store.now c.args.bound c.kept.result c.len.ensures.unique c.kept.ensures
