use Rattle.std.proofs.Common.{rules, ◌≡◌, ◌+◌, max, subst, sym}
use Rattle.cw_regex.specs.Scans.{ScanAt}
use Rattle.cw_regex.proofs.Placing.{sign_ok, sign_fault}
use Rattle.cw_regex.proofs.scan.scan_sign.Goals as goal

pub returns-in-Some-clause-ok : goal.returns-in-Some-clause-ok
returns-in-Some-clause-ok c =
    let is : c.max.result ≡ max c.args.scan.most c.in-Some.depth = search rules in
    subst (λ n. ScanAt c.args.alone c.args.text.now (record { at = c.args.scan.at + 1; phase = c.in-Some.phase; depth = c.in-Some.depth; most = n })) (sym is)
    (sign_ok c.args.alone c.args.text.now c.args.scan c.requires.is c.args.sign c.in-Some.phase c.in-Some.depth c.requires.sign (search rules))

pub returns-in-None-clause-err : goal.returns-in-None-clause-err
returns-in-None-clause-err c = sign_fault c.args.alone c.args.text.now c.args.scan c.requires.is c.args.sign c.requires.sign (search rules)
