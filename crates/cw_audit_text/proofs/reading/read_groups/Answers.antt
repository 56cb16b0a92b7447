use Rattle.std.proofs.Common.{◌++◌, refl, sym, ap, subst, ◌∙◌}
use Rattle.std.specs.List.{All}
use Rattle.std.proofs.lemmas.List.Elements.{All-nil}
use Rattle.cw_audit_table.specs.declared.table.Group.{Group}
use Rattle.cw_audit_text.specs.TextLines.{FitsLine}
use Rattle.cw_audit_text.specs.AuditText.{whole_lines}
use Rattle.cw_audit_text.specs.Reading.{StopsAt}
use Rattle.cw_audit_text.proofs.Behind.{no_lines, groups_lines, groups_more, groups_fit, groups_stop}
use Rattle.cw_audit_text.proofs.reading.read_groups.Goals as goal

pub groups-init : goal.groups-init
groups-init c =
    let none = ap groups_lines c.new-groups.ensures.items in
    record {
      text = no_lines c.args.text.now ∙ ap (λ ls. whole_lines ls ++ c.args.text.now) (sym none);
      fits = subst (All FitsLine) (sym none) (All-nil FitsLine);
      stops = subst (λ gs. StopsAt gs c.args.text.now c.args.text.now) (sym c.new-groups.ensures.items) refl;
    }

pub groups-preserved : goal.groups-preserved
groups-preserved c =
    let g : Group = record { function = c.in-Some.function; entered = record { 0 = c.in-Some.entered }; reach = c.in-Some.reach; rows = c.in_ok-rows.rows } in
    record {
      text = groups_more c.args.text.now c.groups.rest.now c.in-Some.after.now c.in_ok-rows.more.now c.groups.groups.items c.push.new.self.items g c.in_ok-push.ensures.items
          c.groups.invariant.text c.in-Some.ensures.some c.in_ok-rows.ensures.text;
      fits = groups_fit c.groups.groups.items c.push.new.self.items g c.in_ok-push.ensures.items c.groups.invariant.fits c.in-Some.ensures.some.fits c.in_ok-rows.ensures.fits;
      stops = groups_stop c.args.text.now c.in_ok-rows.more.now c.groups.groups.items c.push.new.self.items g c.in_ok-push.ensures.items c.in_ok-rows.ensures.stops;
    }
