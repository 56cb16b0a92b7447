use Rattle.std.proofs.Common.{◌≡◌, ◌∙◌, length, vec_len, eqb-true, arith, sym}
use Rattle.cw_rights.specs.Policies.{policy_of}
use Rattle.cw_syntax.specs.Trees.{file_of}
use Rattle.cw_scope.proofs.Without.{faultless, none_held}
use Rattle.cw_scope.proofs.descriptors.descriptor_fault.Goals as goal

pub returns-then-is_empty : goal.returns-then-is_empty
returns-then-is_empty c =
    let ds = c.args.policy.now.descriptors in
    let empty = eqb-true (vec_len ds) 0 (sym c.is_empty.ensures ∙ c.if-is_empty.true) in
    let none : length ds.items ≡ 0 = omega (arith, empty, ds.ok.0) in
    sym (faultless c.args.checked.now.source.now (file_of c.args.checked.now.program) (policy_of c.args.policy.now) (none_held ds.items none))
