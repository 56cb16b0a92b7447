-- Another version is none of the format.
use Rattle.std.proofs.Common.{arith}
use Rattle.cw_table_text.proofs.HeadLines.{other_version}
use Rattle.cw_table_text.proofs.head.take_head.Goals as goal

pub returns-then-version-format : goal.returns-then-version-format
returns-then-version-format c = other_version c.args.format c.in_ok-version.version c.args.fields.now c.take_u8.new.self (omega (arith, c.ranges.format)) c.in_ok-version.ensures.some.0
    c.if-version-format.true c.in_ok-version.ensures.some.1
