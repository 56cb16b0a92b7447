use Rattle.std.proofs.Common.{◌≡◌, rules, ◌∙◌}
use Rattle.std.specs.Option.{is_some}
use Rattle.cw_lex.proofs.LineEnds.{line_ends}
use Rattle.cw_lex.proofs.front.has_line_end.Goals as goal

pub returns : goal.returns
returns c =
    let is : c.is_some.result ≡ is_some c.memchr.result = search rules in
    is ∙ line_ends c.args.bytes.now c.memchr.result c.memchr.ensures
