use Rattle.std.proofs.Common.{ap, ◌∙◌, map, arith}
use Rattle.std.proofs.lemmas.List.{take_all}
use Rattle.cw_slots.specs.Standing.{seen}
use Rattle.cw_machine.proofs.Standing.{all_seen}
use Rattle.cw_machine.proofs.prepared.all_names_at.Goals as goal

pub returns : goal.returns
returns c = record {
  standing = λ file own shared.
      all_seen c.args.source.now file c.args.own.now c.args.shared.now c.loop-names.all.items own shared
      (c.loop-names.invariant ∙ ap (map (λ names. seen c.args.source.now names c.args.shared.now)) (take_all c.loop-names.names-index c.args.own.now (omega arith)));
}
