use Rattle.std.proofs.Common.{◌<◌, ◌^◌, refl, Some, arith, length}
use Rattle.cw_audit_store.specs.declared.store.Store.{Store}
use Rattle.cw_audit_store.proofs.Work.{hit_lowered}
use Rattle.cw_audit_store.proofs.store.Store.put_hit.Goals as goal

pub returns-clause-less : goal.returns-clause-less
returns-clause-less c =
    let s = c.args.self.now in
    let few_rows : length s.rows.entries < 2 ^ 63 = omega (arith, c.len.ensures.small, c.len.ensures.len) in
    let few_groups : length s.groups.entries < 2 ^ 63 = omega (arith, c.len-2.ensures.small, c.len-2.ensures.len) in
    let t : Store = record { rows = s.rows; groups = s.groups; hit = Some c.args.hit } in
    hit_lowered s t c.args.hit refl refl refl few_rows few_groups c.requires
