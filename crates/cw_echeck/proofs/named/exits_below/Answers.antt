use Rattle.std.proofs.Common.{◌∙◌, ap, nat_lt, ℕ}
use Rattle.std.specs.List.{list_all}
use Rattle.cw_core.specs.declared.ids.StateId.{StateId}
use Rattle.cw_echeck.proofs.Members.{exits_is}
use Rattle.cw_echeck.proofs.named.exits_below.Goals as goal

pub returns-in-Into : goal.returns-in-Into
returns-in-Into c =
    rw c.in-Into.is
    (c.are_states.ensures ∙ ap (list_all (λ (b : StateId × ℕ). nat_lt b.0.0 c.args.count)) c.deref.ensures.value
    ∙ exits_is (λ x. nat_lt x c.args.count) c.in-Into.backs.items)
