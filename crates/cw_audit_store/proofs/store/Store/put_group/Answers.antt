use Rattle.std.proofs.Common.{◌<◌, ◌^◌, refl, arith, length}
use Rattle.cw_audit_store.specs.declared.store.Store.{Store}
use Rattle.cw_audit_store.proofs.Work.{group_lowered}
use Rattle.cw_audit_store.proofs.store.Store.put_group.Goals as goal

pub returns-clause-less : goal.returns-clause-less
returns-clause-less c =
    let s = c.args.self.now in
    let few_rows : length s.rows.entries < 2 ^ 63 = omega (arith, c.len.ensures.small, c.len.ensures.len) in
    let few_groups : length s.groups.entries < 2 ^ 63 = omega (arith, c.len-2.ensures.small, c.len-2.ensures.len) in
    let t : Store = record { rows = s.rows; groups = c.insert.new.self; hit = s.hit } in
    group_lowered s t c.args.entrance c.args.entered refl refl c.in_ok-insert.ensures.entries few_groups few_rows c.requires
