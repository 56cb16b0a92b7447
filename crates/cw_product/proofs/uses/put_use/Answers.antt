use Rattle.std.proofs.Common.{ap, ◌∙◌, refl, eq-eqb, ne_eqb}
use Rattle.cw_product.specs.Uses.{closes_at, labels_at}
use Rattle.cw_product.proofs.Using.{labelled, passed, not_closed, not_labelled}
use Rattle.cw_product.proofs.uses.put_use.Goals as goal

pub returns-then-label-other : goal.returns-then-label-other
returns-then-label-other c = λ nodes same.
    labelled c.args.other nodes c.args.node c.args.uses.now (λ k. ap (closes_at k) c.in-Label.is)
    (ap (labels_at c.args.other) c.in-Label.is ∙ eq-eqb c.in-Label.label c.args.other c.if-label-other.true) same

pub returns-else-label-other : goal.returns-else-label-other
returns-else-label-other c = λ nodes same.
    passed c.args.other nodes c.args.node c.args.uses.now (λ k. ap (closes_at k) c.in-Label.is)
    (ap (labels_at c.args.other) c.in-Label.is ∙ ne_eqb c.in-Label.label c.args.other c.if-label-other.false) same

pub returns-in_default : goal.returns-in_default
returns-in_default c = λ nodes same.
    passed c.args.other nodes c.args.node c.args.uses.now (not_closed c.args.node.point c.in_default.not-Close)
    (not_labelled c.args.node.point c.in_default.not-Label c.args.other) same
