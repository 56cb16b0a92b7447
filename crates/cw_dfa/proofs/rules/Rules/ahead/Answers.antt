use Rattle.std.proofs.Common.{rules, ◌≡◌, ◌<◌, ◌^◌, cond, slice_index, ap, ◌∙◌}
use Rattle.std.specs.Int.RustNames.{bit_or}
use Rattle.cw_dfa.specs.Sets.{has}
use Rattle.cw_dfa.specs.Tables.{goes, unite}
use Rattle.cw_dfa.specs.Positions.{bad_of}
use Rattle.cw_dfa.specs.Verdicts.{rules_of}
use Rattle.cw_dfa.proofs.Following.{goes_tabled}
use Rattle.cw_dfa.proofs.rules.Rules.ahead.Goals as goal

pub returns : goal.returns
returns c =
    let all = rules_of c.self.inside.rules.now in
    let t = c.self.inside.tables in
    let fits : c.args.set < 2 ^ 64 = search rules in
    let first = ap (λ n. bit_or (cond (has c.args.set 0) n 0) (unite (slice_index t.follow) 64 c.args.set)) c.self.invariant.tables.first in
    let is : c.following.result ≡ goes (bad_of all) 1 (has c.args.set 0) c.args.set = c.following.ensures ∙ first
    ∙ goes_tabled (bad_of all) 1 (has c.args.set 0) c.args.set (slice_index t.follow) fits c.self.invariant.tables.follow in
    is ∙ ap (λ l. goes (bad_of (rules_of l)) 1 (has c.args.set 0) c.args.set) c.self.view_is
