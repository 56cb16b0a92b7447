use Rattle.std.proofs.Common.{◌≡◌, ◌++◌, map, drop}
use Rattle.std.specs.List.{filter_map}
use Rattle.cw_syntax.specs.Names.{text}
use Rattle.cw_slots.specs.Texts.{text_at}
use Rattle.cw_slots.proofs.declared.put_params.Given as goal

abbrev pub invariant-loop-param : goal.invariant-loop-param
invariant-loop-param l = map text_at l.out.items ++ map (text l.source) (filter_map (λ p. p.name) (drop l.param-index l.params)) ≡ map text_at l.initial.out.items
    ++ map (text l.source) (filter_map (λ p. p.name) (l.params))
