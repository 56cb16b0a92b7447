use Rattle.std.proofs.Common.{arith, rules}
use Rattle.std.specs.Prelude.{codes}
use Rattle.cw_text.proofs.KindsByName.{kind_read}
use Rattle.cw_audit_text.specs.Kinds.{word_kinds}
use Rattle.cw_audit_text.proofs.text_line.word_kind.Goals as goal

pub returns-in-meets : goal.returns-in-meets
returns-in-meets c = kind_read word_kinds c.args.field.now (codes "meets") (omega arith) (search rules)

pub returns-in-states : goal.returns-in-states
returns-in-states c = kind_read word_kinds c.args.field.now (codes "states") (omega arith) (search rules)

pub returns-in-capweave : goal.returns-in-capweave
returns-in-capweave c = kind_read word_kinds c.args.field.now (codes "capweave") (omega arith) (search rules)

pub returns-in-violates : goal.returns-in-violates
returns-in-violates c = kind_read word_kinds c.args.field.now (codes "violates") (omega arith) (search rules)
