use Rattle.std.proofs.Common.{arith, rules}
use Rattle.std.specs.Prelude.{codes}
use Rattle.cw_text.proofs.KindsByName.{kind_read}
use Rattle.cw_table_text.specs.Working.{row_names}
use Rattle.cw_table_text.proofs.line.kind_of.Goals as goal

pub returns-in-67 : goal.returns-in-67
returns-in-67 c = kind_read row_names c.args.name.now (codes "CW_MEM") (omega arith) (search rules)

pub returns-in-67-2 : goal.returns-in-67-2
returns-in-67-2 c = kind_read row_names c.args.name.now (codes "CW_LIVE") (omega arith) (search rules)

pub returns-in-67-3 : goal.returns-in-67-3
returns-in-67-3 c = kind_read row_names c.args.name.now (codes "CW_TRY") (omega arith) (search rules)

pub returns-in-67-4 : goal.returns-in-67-4
returns-in-67-4 c = kind_read row_names c.args.name.now (codes "CW_AT") (omega arith) (search rules)

pub returns-in-67-5 : goal.returns-in-67-5
returns-in-67-5 c = kind_read row_names c.args.name.now (codes "CW_OPENED") (omega arith) (search rules)

pub returns-in-67-6 : goal.returns-in-67-6
returns-in-67-6 c = kind_read row_names c.args.name.now (codes "CW_CLOSED") (omega arith) (search rules)

pub returns-in-67-7 : goal.returns-in-67-7
returns-in-67-7 c = kind_read row_names c.args.name.now (codes "CW_INTO") (omega arith) (search rules)

pub returns-in-67-8 : goal.returns-in-67-8
returns-in-67-8 c = kind_read row_names c.args.name.now (codes "CW_BACK") (omega arith) (search rules)
