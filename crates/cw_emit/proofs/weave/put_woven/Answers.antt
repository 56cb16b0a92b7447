use Rattle.std.proofs.Common.{map}
use Rattle.cw_rights.specs.Policies.{policy_of}
use Rattle.cw_syntax.specs.Marks.{mark_of}
use Rattle.cw_emit.proofs.Cutting.{cut_of_woven}
use Rattle.cw_emit.proofs.Names.{valid_names}
use Rattle.cw_emit.proofs.weave.put_woven.Goals as goal

pub returns-clause-cut : goal.returns-clause-cut
returns-clause-cut g c = λ free plain.
    cut_of_woven (policy_of c.args.policy.now) c.args.cert.now c.args.source.now (map mark_of c.args.marks.now) free (valid_names (policy_of c.args.policy.now) c.requires.valid) plain c.requires.order
