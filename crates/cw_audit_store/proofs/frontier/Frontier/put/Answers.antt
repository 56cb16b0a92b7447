use Rattle.std.proofs.Common.{◌≡◌, suc, ◌∷◌, length, arith}
use Rattle.std.proofs.lemmas.List.Sorted.{length_permutation}
use Rattle.cw_audit_store.proofs.frontier.Frontier.put.Goals as goal

pub returns-clause-more : goal.returns-clause-more
returns-clause-more c =
    let old = c.args.self.now.rows in
    let z : length c.put.new.self ≡ suc (length old) = length_permutation ((c.args.key, c.args.row) ∷ old) c.put.new.self c.in_ok-put.ensures.put in
    omega (arith, z)
