use Rattle.std.proofs.Common.{ap, sym, subst, ◌∙◌}
use Rattle.std.proofs.lemmas.List.Elements.{All-push}
use Rattle.cw_slots.specs.Standing.{seen, AreNamesAt, IsNameAt}
use Rattle.cw_slots.proofs.names_at.empty_slots.Goals as goal

pub loop-preserved : goal.loop-preserved
loop-preserved c =
    let s = seen c.args.source.now c.args.own.now c.args.shared.now in
    subst (AreNamesAt s) (sym c.in_ok-push.ensures.items) (All-push (IsNameAt s) c.loop.slots.items c.name_at-empty.result c.loop.invariant c.name_at-empty.ensures)
