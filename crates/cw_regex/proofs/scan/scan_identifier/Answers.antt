use Rattle.std.proofs.Common.{rules, ◌≡◌, true, false, ap, sym, ◌∙◌}
use Rattle.cw_regex.specs.Machine.{kept}
use Rattle.cw_regex.proofs.Runs.{byte_at}
use Rattle.cw_regex.proofs.Placing.{identifier_ok, identifier_fault, later_fault}
use Rattle.cw_regex.proofs.scan.scan_identifier.Goals as goal

pub returns-in-Some-clause-ok : goal.returns-in-Some-clause-ok
returns-in-Some-clause-ok c = identifier_ok c.args.alone c.args.text.now c.args.scan c.requires.is c.args.end c.in-Some.phase c.requires.identifier (search rules)

pub returns-in-None-clause-err : goal.returns-in-None-clause-err
returns-in-None-clause-err c =
    let first = byte_at c.args.text.now c.args.scan.at c.requires.identifier.first _ c.requires.identifier.cut in
    let is : kept c.args.scan.phase c.requires.identifier.first ≡ true = ap (kept c.args.scan.phase) (sym first) ∙ sym c.kept.ensures ∙ c.if-kept.true in
    later_fault c.args.alone c.args.text.now c.args.scan c.requires.is c.args.end c.requires.identifier (search rules) is

pub returns-in-None-2-clause-err : goal.returns-in-None-2-clause-err
returns-in-None-2-clause-err c =
    let first = byte_at c.args.text.now c.args.scan.at c.requires.identifier.first _ c.requires.identifier.cut in
    let is : kept c.args.scan.phase c.requires.identifier.first ≡ false = ap (kept c.args.scan.phase) (sym first) ∙ sym c.kept.ensures ∙ c.if-kept.false in
    identifier_fault c.args.alone c.args.text.now c.args.scan c.requires.is c.args.end c.requires.identifier (search rules) is
