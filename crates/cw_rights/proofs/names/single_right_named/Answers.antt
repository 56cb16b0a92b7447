use Rattle.std.proofs.Common.{arith, rules}
use Rattle.std.specs.Prelude.{codes}
use Rattle.cw_rights.specs.Names.{single_rights}
use Rattle.cw_rights.proofs.Named.{mask_read}
use Rattle.cw_rights.proofs.names.single_right_named.Goals as goal

pub returns-in-67 : goal.returns-in-67
returns-in-67 c = mask_read single_rights c.args.name.now (codes "CAP_READ") (omega arith) (search rules)

pub returns-in-67-2 : goal.returns-in-67-2
returns-in-67-2 c = mask_read single_rights c.args.name.now (codes "CAP_WRITE") (omega arith) (search rules)

pub returns-in-67-3 : goal.returns-in-67-3
returns-in-67-3 c = mask_read single_rights c.args.name.now (codes "CAP_SEEK") (omega arith) (search rules)

pub returns-in-67-4 : goal.returns-in-67-4
returns-in-67-4 c = mask_read single_rights c.args.name.now (codes "CAP_FSTAT") (omega arith) (search rules)

pub returns-in-67-5 : goal.returns-in-67-5
returns-in-67-5 c = mask_read single_rights c.args.name.now (codes "CAP_FTRUNCATE") (omega arith) (search rules)

pub returns-in-67-6 : goal.returns-in-67-6
returns-in-67-6 c = mask_read single_rights c.args.name.now (codes "CAP_FSYNC") (omega arith) (search rules)

pub returns-in-67-7 : goal.returns-in-67-7
returns-in-67-7 c = mask_read single_rights c.args.name.now (codes "CAP_FCNTL") (omega arith) (search rules)

pub returns-in-67-8 : goal.returns-in-67-8
returns-in-67-8 c = mask_read single_rights c.args.name.now (codes "CAP_IOCTL") (omega arith) (search rules)

pub returns-in-67-9 : goal.returns-in-67-9
returns-in-67-9 c = mask_read single_rights c.args.name.now (codes "CAP_EVENT") (omega arith) (search rules)

pub returns-in-67-10 : goal.returns-in-67-10
returns-in-67-10 c = mask_read single_rights c.args.name.now (codes "CAP_ACCEPT") (omega arith) (search rules)

pub returns-in-67-11 : goal.returns-in-67-11
returns-in-67-11 c = mask_read single_rights c.args.name.now (codes "CAP_LISTEN") (omega arith) (search rules)

pub returns-in-67-12 : goal.returns-in-67-12
returns-in-67-12 c = mask_read single_rights c.args.name.now (codes "CAP_LOOKUP") (omega arith) (search rules)
