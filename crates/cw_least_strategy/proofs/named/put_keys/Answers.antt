use Rattle.std.proofs.Common.{ap, sym, ◌∙◌, map, ◌++◌, ◌∷◌, [], List}
use Rattle.cw_core.specs.declared.ids.StateId.{StateId}
use Rattle.cw_least_strategy.specs.declared.key.Key.{Key}
use Rattle.cw_least_strategy.specs.declared.key.SmallKey.{SmallKey}
use Rattle.cw_least_strategy.specs.Acts.{act_of}
use Rattle.cw_least_strategy.specs.Small.{small, small_of_back}
use Rattle.cw_least_strategy.specs.Strategies.{keys_in}
use Rattle.cw_least_strategy.proofs.Small.{into_small}
use Rattle.cw_least_strategy.proofs.named.put_keys.Goals as goal

pub returns-in_ok-put_backs-in-Into : goal.returns-in_ok-put_backs-in-Into
returns-in_ok-put_backs-in-Into c =
    let aims = c.args.aims.now in
    let old = c.args.keys.now.items in
    into_small aims old c.in-Into.callee.value c.in-Into.backs.items
    (c.in_ok-put_backs-in-Into.ensures
    ∙ ap (λ (l : List SmallKey). l ++ map (small_of_back aims) c.deref-in-Into.result.now)
    (c.in_ok-push-in-Into.ensures.items ∙ ap (λ (k : SmallKey). old ++ k ∷ []) (c.small-in-Into.ensures ∙ ap (small aims) c.deref.ensures))
    ∙ ap (λ (l : List (StateId × Key)). (old ++ small aims c.in-Into.callee.value ∷ []) ++ map (small_of_back aims) l) c.deref-in-Into.ensures.value)
    ∙ ap (λ a. old ++ map (small aims) (keys_in (act_of c.args.aim.now a))) (sym c.in-Into.is)
