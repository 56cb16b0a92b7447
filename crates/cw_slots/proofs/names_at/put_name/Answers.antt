use Rattle.std.proofs.lemmas.List.Elements.{All-set}
use Rattle.cw_slots.specs.Standing.{seen, IsNameAt}
use Rattle.cw_slots.proofs.names_at.put_name.Goals as goal

pub returns-then-is_name : goal.returns-then-is_name
returns-then-is_name c =
    All-set (IsNameAt (seen c.args.source.now c.args.own.now c.args.shared.now)) c.args.slots.now.items c.slot_of-slot.result c.name_at.result c.name_at.ensures c.requires.names
