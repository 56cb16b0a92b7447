use Rattle.std.proofs.Common.{◌≡◌, ◌++◌, length, map, sym, subst, ap, ◌∙◌}
use Rattle.std.specs.Ordering.{nat_cmp}
use Rattle.cw_fixpoint.specs.Numbers.{number_in}
use Rattle.cw_product.specs.Product.{game_of}
use Rattle.cw_least_strategy.specs.Acts.{act_of, IsIn}
use Rattle.cw_least_strategy.specs.Kept.{IsKey}
use Rattle.cw_least_strategy.specs.Small.{small}
use Rattle.cw_least_strategy.specs.Strategies.{keys_in}
use Rattle.cw_least_strategy.specs.Strategies as strategies
use Rattle.cw_least_strategy.specs.declared.key.Key.{Key}
use Rattle.cw_least_strategy.proofs.Small.{its_number, taken_within, taken_is}
use Rattle.cw_least_strategy.proofs.search.put_named.Goals as goal

pub whole-lent-requires : goal.whole-lent-requires
whole-lent-requires c = record { within = taken_within c.args.solved.now c.args.aims.now c.args.key.now c.requires.can }

pub act_at-requires-clause-key : goal.act_at-requires-clause-key
act_at-requires-clause-key c =
    let s = c.args.solved.now in
    subst (IsKey (game_of s.game) (length s.game.graph.parts.items)) (sym c.whole-lent.ensures) (taken_is s c.args.aims.now c.args.key.now c.requires.can)

pub put_keys-requires-clause-number : goal.put_keys-requires-clause-number
put_keys-requires-clause-number c =
    let h = c.args.solved.now in
    let aims = c.args.aims.now in
    ap (λ (k : Key). number_in nat_cmp aims k.aim) c.whole-lent.ensures ∙ its_number aims c.requires.can.ready.ascend.order c.args.key.now.aim (taken_within h aims c.args.key.now c.requires.can)

pub act_at-requires-clause-here : goal.act_at-requires-clause-here
act_at-requires-clause-here c =
    let e = c.whole-lent.ensures in
    subst (λ (k : Key). IsIn c.args.solved.now c.args.number k.aim k.pos k.state) (sym e) c.requires.here

pub returns-clause-after : goal.returns-clause-after
returns-clause-after c =
    let g = game_of c.args.solved.now.game in
    let aims = c.args.aims.now in
    let act = c.in_ok-act.act in
    let done = subst (λ (k : Key). act_of k.aim act ≡ strategies.act g k) c.whole-lent.ensures c.in_ok-act.ensures in
    c.in_ok-put_keys.ensures
    ∙ ap (λ (k : Key). c.args.keys.now.items ++ map (small aims) (keys_in (act_of k.aim act))) c.whole-lent.ensures
    ∙ ap (λ a. c.args.keys.now.items ++ map (small aims) (keys_in a)) done

pub returns-clause-done : goal.returns-clause-done
returns-clause-done c =
    subst (λ (k : Key). act_of k.aim c.in_ok-act.act ≡ strategies.act (game_of c.args.solved.now.game) k) c.whole-lent.ensures c.in_ok-act.ensures
