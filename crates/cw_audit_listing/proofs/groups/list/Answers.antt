use Rattle.std.proofs.Common.{refl, sym}
use Rattle.cw_audit_table.specs.declared.table.Group.{Group}
use Rattle.cw_audit_listing.proofs.Grouping.{none_yet, all_listed, has_group, fewer, one_more}
use Rattle.cw_audit_listing.proofs.groups.list.Goals as goal

pub groups-init : goal.groups-init
groups-init c = none_yet c.args.store.now c.args.row_keys.now c.new-groups.result.items c.new-groups.ensures.items c.requires.known

pub returns-in_default : goal.returns-in_default
returns-in_default c = record {
  listed = λ D below. all_listed c.args.store.now c.args.row_keys.now c.groups.rest.now c.groups.groups.items D c.requires.ascend c.groups.invariant c.in_default.ensures.value below;
}

pub returns-in_default-group : goal.returns-in_default-group
returns-in_default-group c =
    absurd (has_group c.args.store.now c.groups.rest.now c.in-Some.first.now c.groups.invariant.known c.in-Some.ensures.value (sym c.in_default-group.ensures))

pub rows_of-requires : goal.rows_of-requires
rows_of-requires c = c.groups.invariant.known

pub groups-smaller : goal.groups-smaller
groups-smaller c =
    fewer c.args.store.now c.groups.rest.now c.in_ok-rows.more.now c.in-Some.first.now c.in_ok-rows.rows.items c.in-Some.ensures.value c.in_ok-rows.ensures.read c.in_ok-rows.ensures.ends

pub groups-preserved : goal.groups-preserved
groups-preserved c =
    let grp : Group
    = record { function = c.in-Some.first.now.entrance.function; entered = c.in-Some.first.now.entrance.state; reach = c.in-Some-group.entered.reach; rows = c.in_ok-rows.rows } in
    one_more c.args.store.now c.args.row_keys.now c.groups.rest.now c.in_ok-rows.more.now c.groups.groups.items c.push.new.self.items c.in-Some.first.now c.in-Some-group.entered
    c.in_ok-rows.rows.items grp c.groups.invariant c.in-Some.ensures.value c.in-Some-group.ensures c.in_ok-rows.ensures.read c.in_ok-rows.ensures.ends refl
    c.in_ok-push.ensures.items
