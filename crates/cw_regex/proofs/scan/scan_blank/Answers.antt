use Rattle.std.proofs.Common.{rules, ◌≡◌, true, false}
use Rattle.cw_regex.specs.Scans.{is_held}
use Rattle.cw_regex.proofs.Placing.{blank_ok, front_fault, held_fault}
use Rattle.cw_regex.proofs.scan.scan_blank.Goals as goal

pub returns-then-scan-eq0-clause-err : goal.returns-then-scan-eq0-clause-err
returns-then-scan-eq0-clause-err c = front_fault c.args.alone c.args.text.now c.args.scan c.requires.is c.requires.blank c.if-scan-eq0.true

pub returns-then-is_held-clause-err : goal.returns-then-is_held-clause-err
returns-then-is_held-clause-err c =
    let e : is_held c.args.alone c.args.scan.phase ≡ true = search rules in
    held_fault c.args.alone c.args.text.now c.args.scan c.requires.is c.requires.blank e

pub returns-clause-ok : goal.returns-clause-ok
returns-clause-ok c =
    let e : is_held c.args.alone c.args.scan.phase ≡ false = search rules in
    blank_ok c.args.alone c.args.text.now c.args.scan c.requires.is c.requires.blank c.if-scan-eq0.false e
