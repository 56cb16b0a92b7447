use Rattle.cw_audit_search.proofs.Lawful.{listings_stated}
use Rattle.cw_audit_search.proofs.laws.listings_are_stated.Goals as goal

pub returns : goal.returns
returns c = record { stated = listings_stated }
