use Rattle.std.proofs.Common.{◌<◌, ◌∷◌, [], length, length-append, map, ap, ◌∙◌, arith, List, ℕ}
use Rattle.std.specs.Borrow.{Bor}
use Rattle.std.proofs.lemmas.List.{map-append}
use Rattle.clap.proofs.WalkLemmas.{first_value-rows}
use Rattle.clap.specs.Words.{found_of, rows_of}
use Rattle.cw_commands.proofs.Collected.{none_found, one_found, operand_at}
use Rattle.cw_commands.proofs.line.values.Goals as goal

pub returns-in-None-clause-found : goal.returns-in-None-clause-found
returns-in-None-clause-found c =
    let operands = c.args.operands.now in
    let k = c.loop-operand.operand-index in
    let found = found_of c.args.matches.now in
    let lt : k < length operands = omega (arith, c.loop-operand-test.true) in
    none_found (rows_of found) operands k lt (map (λ name. name.now) c.loop-operand.names.items) _ (c.in-None.ensures ∙ first_value-rows found (operand_at operands k).now) c.loop-operand.invariant.found

pub loop-operand-preserved : goal.loop-operand-preserved
loop-operand-preserved c =
    let operands = c.args.operands.now in
    let k = c.loop-operand.operand-index in
    let found = found_of c.args.matches.now in
    let lt : k < length operands = omega (arith, c.loop-operand-test.true) in
    let old = c.loop-operand.names.items in
    let grown = ap (map (λ (name : Bor (List ℕ)). name.now)) c.in_ok-push-in-Some.ensures.items ∙ map-append (λ (name : Bor (List ℕ)). name.now) old (c.in-Some.name ∷ []) in
    let more = ap length c.in_ok-push-in-Some.ensures.items ∙ length-append old (c.in-Some.name ∷ []) in
    record {
      found = one_found (rows_of found) operands k lt (map (λ name. name.now) old) _ _ c.in-Some.name.now grown
          (c.in-Some.ensures ∙ first_value-rows found (operand_at operands k).now) c.loop-operand.invariant.found;
      many = omega (arith, more, c.loop-operand.invariant.many);
    }
