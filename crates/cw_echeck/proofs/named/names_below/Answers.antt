use Rattle.std.proofs.Common.{◌∙◌, ◌&&◌, ap, sym, map, nat_lt, ℕ}
use Rattle.std.specs.List.{list_all}
use Rattle.std.proofs.lemmas.Bool.{lt-ltb}
use Rattle.cw_core.specs.declared.ids.StateId.{StateId}
use Rattle.cw_echeck.specs.Checks.{backs_of}
use Rattle.cw_echeck.proofs.Members.{named_is}
use Rattle.cw_echeck.proofs.named.names_below.Goals as goal

pub returns-then-callee-number : goal.returns-then-callee-number
returns-then-callee-number c =
    let below : ℕ → _ = λ n. nat_lt n c.args.number in
    rw c.in-Into.is
    (c.are_named_below.ensures ∙ ap (list_all (λ (b : StateId × ℕ). below b.1)) c.deref.ensures.value ∙ named_is below c.in-Into.backs.items
    ∙ ap (λ t. t && list_all below (map (λ b. b.1) (backs_of c.in-Into.backs.items)))
    (sym (lt-ltb c.in-Into.callee c.args.number c.if-callee-number.true)))
