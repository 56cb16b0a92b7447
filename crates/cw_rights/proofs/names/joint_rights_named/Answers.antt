use Rattle.std.proofs.Common.{arith, rules}
use Rattle.std.specs.Prelude.{codes}
use Rattle.cw_rights.specs.Names.{joint_rights}
use Rattle.cw_rights.proofs.Named.{mask_read}
use Rattle.cw_rights.proofs.names.joint_rights_named.Goals as goal

pub returns-in-67 : goal.returns-in-67
returns-in-67 c = mask_read joint_rights c.args.name.now (codes "CAP_PREAD") (omega arith) (search rules)

pub returns-in-67-2 : goal.returns-in-67-2
returns-in-67-2 c = mask_read joint_rights c.args.name.now (codes "CAP_PWRITE") (omega arith) (search rules)
