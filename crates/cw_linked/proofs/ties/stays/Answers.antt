use Rattle.std.proofs.Common.{Bool, ap, sym, ◌∙◌, ◌||◌}
use Rattle.std.specs.Prelude.{nat_lt}
use Rattle.std.proofs.lemmas.Bool.{ne_eqb}
use Rattle.cw_solve.specs.Rounds.{holds_by}
use Rattle.cw_linked.proofs.ties.stays.Goals as goal

pub returns-else-height-eq0 : goal.returns-else-height-eq0
returns-else-height-eq0 c =
    let k = c.height_in-height.result in
    sym (ap (λ (b : Bool). b || nat_lt c.args.moves k) (ne_eqb k 0 c.if-height-eq0.false)) ∙ ap (holds_by c.args.moves) c.height_in-height.ensures.is
