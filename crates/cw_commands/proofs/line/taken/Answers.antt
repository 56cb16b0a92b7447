use Rattle.std.proofs.Common.{◌≡◌, ℕ, List, [], map, sym, ap, ◌∙◌}
use Rattle.std.specs.Prelude.{string_bytes}
use Rattle.std.proofs.lemmas.Result.{IfOk-weaker}
use Rattle.clap.specs.Words.{App, app_of, fault_of, found_of, is_simple, is_simple_and_free, matches_of, rows_of, takes}
use Rattle.cw_commands.specs.Lines.{line_app}
use Rattle.cw_commands.proofs.Collected.{none_taken, taken_is}
use Rattle.cw_commands.proofs.Placed.{line_is_free, line_is_simple}
use Rattle.cw_commands.proofs.line.taken.Goals as goal

pub returns-in-Ok-clause-found : goal.returns-in-Ok-clause-found
returns-in-Ok-clause-found c =
    let operands : List (List ℕ) = map (λ operand. operand.now) c.args.operands.now in
    let arguments = map string_bytes c.args.arguments.now in
    let line = c.in_ok-line.line in
    let is : app_of line ≡ line_app operands = c.in_ok-line.ensures in
    let none : fault_of (line_app operands) arguments ≡ [] = ap (λ (a : App). fault_of a arguments) (sym is) ∙ c.in-Ok.ensures.kinds (ap is_simple_and_free is ∙ line_is_free operands) in
    let rows : rows_of (found_of c.in-Ok.matches) ≡ matches_of (line_app operands) arguments =
    (c.in-Ok.ensures.matches (ap is_simple is ∙ line_is_simple operands)).0 ∙ ap (λ (a : App). matches_of a arguments) is in
    IfOk-weaker c.values.result _ _ (λ found e. taken_is operands arguments (rows_of (found_of c.in-Ok.matches)) _ none rows e) c.values.ensures.found

pub returns-clause-found : goal.returns-clause-found
returns-clause-found c =
    let operands : List (List ℕ) = map (λ operand. operand.now) c.args.operands.now in
    let arguments = map string_bytes c.args.arguments.now in
    let is : app_of c.in_ok-line.line ≡ line_app operands = c.in_ok-line.ensures in
    none_taken operands arguments (λ fit.
    let full = c.in-Err.ensures.passes (ap (λ (a : App). takes a arguments) is ∙ fit) in
    let bad = rw (c.kind.ensures ∙ full) at (sym c.if-eq.false ∙ c.eq.ensures) in
    absurd cc)
