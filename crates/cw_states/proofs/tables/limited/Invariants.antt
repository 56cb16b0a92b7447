use Rattle.std.proofs.Common.{◌≡◌, map, take}
use Rattle.cw_rights.specs.declared.capabilities.Primitive.TheVariants.{Limit}
use Rattle.cw_states.specs.declared.acts.Act.TheVariants.{Granted}
use Rattle.cw_states.specs.States.{lists_of}
use Rattle.cw_states.specs.Tables.{all_items, indices_after}
use Rattle.cw_states.proofs.tables.limited.Given as goal

abbrev pub invariant-loop-limit : goal.invariant-loop-limit
invariant-loop-limit l = record {
  done : all_items l.columns.items ≡ map (λ limit. indices_after (lists_of l.pairs) (Granted (Limit limit))) (take l.limit-index l.limits);
}
