use Rattle.std.proofs.Common.{◌≡◌, suc, ◌∷◌, length, ap, arith}
use Rattle.std.proofs.lemmas.List.Sorted.{length_permutation}
use Rattle.std.proofs.lemmas.Option.{IfSome_then}
use Rattle.cw_audit_store.proofs.frontier.Frontier.take.Goals as goal
use Rattle.cw_lemmas.proofs.Options.{where_none}

pub returns-clause-fewer : goal.returns-clause-fewer
returns-clause-fewer c =
    let old = c.args.self.now.rows in
    let new = c.take.new.self in
    IfSome_then c.take.result c.take.ensures.taken (λ next p.
    let z : suc (length new) ≡ length old = length_permutation old (next ∷ new) p in
    omega (arith, z))

pub returns-clause-left : goal.returns-clause-left
returns-clause-left c = where_none c.take.result c.take.ensures.left (λ e. ap length e)
