use Rattle.cw_audit_listing.proofs.Reading.{read_none, read_more}
use Rattle.cw_audit_listing.proofs.groups.rows_of.Goals as goal

pub rows-init : goal.rows-init
rows-init c = read_none c.args.store.now c.args.entrance c.args.row_keys.now c.new-rows.result.items c.new-rows.ensures.items c.requires

pub rows-preserved : goal.rows-preserved
rows-preserved c =
    read_more c.args.store.now c.args.entrance c.args.row_keys.now c.rows.rest.now c.in-Some.more.now c.rows.rows.items c.push.new.self.items c.in-Some.row c.rows.invariant c.in-Some.ensures.some
    c.in_ok-push.ensures.items
