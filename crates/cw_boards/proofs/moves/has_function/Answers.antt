use Rattle.std.proofs.Common.{◌≡◌, length, nat_lt, ap, ◌∙◌, rules}
use Rattle.cw_boards.specs.Held.{scene}
use Rattle.cw_boards.proofs.Having.{function_is}
use Rattle.cw_boards.proofs.moves.has_function.Goals as goal

pub returns : goal.returns
returns c =
    let fs = c.args.checked.now.program.functions.items in
    let l : c.len.result ≡ length fs = search rules in
    ap (nat_lt c.args.number) l ∙ function_is (scene c.args.checked.now c.args.policy.now) fs c.args.number
