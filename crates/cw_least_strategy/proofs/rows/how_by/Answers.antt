use Rattle.std.proofs.Common.{ap, ap₂, sym, ◌∙◌, map}
use Rattle.cw_certs.specs.Strategies.{Into}
use Rattle.cw_least_strategy.specs.Acts.{act_of}
use Rattle.cw_least_strategy.specs.Small.{wholes}
use Rattle.cw_least_strategy.specs.Strategies.{how_by, number}
use Rattle.cw_least_strategy.proofs.Finding.{plain_number, numbered_by, numbered_plain}
use Rattle.cw_least_strategy.proofs.rows.how_by.Goals as goal

pub returns-in_ok-backs-in-Into : goal.returns-in_ok-backs-in-Into
returns-in_ok-backs-in-Into c =
    let keys = wholes c.args.aims.now c.args.keys.now in
    ap₂ Into (c.number.ensures ∙ ap (number keys) c.deref-in-Into.ensures)
    (ap (map plain_number) (c.in_ok-backs-in-Into.ensures ∙ ap (map (numbered_by keys)) c.deref.ensures.value) ∙ numbered_plain keys c.in-Into.backs.items)
    ∙ sym (ap (λ a. how_by keys (act_of c.args.aim.now a)) c.in-Into.is)
