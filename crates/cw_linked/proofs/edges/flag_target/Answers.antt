use Rattle.std.proofs.Common.{◌<◌, ℕ, Option, length, refl, sym, ◌∙◌, subst}
use Rattle.std.specs.Prelude.{IfSome}
use Rattle.std.proofs.lemmas.Option.{none-some}
use Rattle.cw_linked.proofs.Reaching.{target_flagged}
use Rattle.cw_linked.proofs.edges.flag_target.Goals as goal

pub returns-in-Some : goal.returns-in-Some
returns-in-Some c = target_flagged c.args.flags.now c.args.to c.in-Some.to c.in-Some.is
    (subst (λ (o : Option ℕ). IfSome o (λ r. r < length c.args.flags.now)) c.in-Some.is c.requires)

pub returns-in_default : goal.returns-in_default
returns-in_default c = record { long = refl; keeps = λ r is. is; flagged = λ r e. absurd (none-some r (sym c.in_default.is ∙ e)) }
