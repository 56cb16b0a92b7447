use Rattle.std.proofs.Common.{refl, sym, ◌∙◌, arith}
use Rattle.std.specs.Prelude.{codes}
use Rattle.cw_detach.proofs.Absent.{absent}
use Rattle.cw_detach.proofs.tokens.has_name.Goals as goal

pub returns-else-is_some : goal.returns-else-is_some
returns-else-is_some c =
    let source = c.args.source.now in
    let fork = absent source (codes "fork") c.find.result (omega arith) c.find.ensures (sym c.is_some.ensures ∙ c.if-is_some.false) in
    λ none t.
    let exit = absent source (codes "_exit") c.find-else-is_some.result (omega arith) c.find-else-is_some.ensures (sym c.is_some-else-is_some.ensures ∙ none) in
    rw (fork t.from t.to, exit t.from t.to) refl
