use Rattle.std.proofs.Common.{sym, ◌∙◌}
use Rattle.cw_regex.proofs.Placing.{end_both, end_fault}
use Rattle.cw_regex.proofs.scan.scan.Goals as goal

pub returns-then-may_end-clause-ok : goal.returns-then-may_end-clause-ok
returns-then-may_end-clause-ok c = (end_both c.args.alone c.args.text.now c.in_ok-all.all c.in_ok-all.ensures.ok c.in_ok-all.ensures.all (sym c.may_end.ensures ∙ c.if-may_end.true)).0

pub returns-then-may_end-clause-most : goal.returns-then-may_end-clause-most
returns-then-may_end-clause-most c = (end_both c.args.alone c.args.text.now c.in_ok-all.all c.in_ok-all.ensures.ok c.in_ok-all.ensures.all (sym c.may_end.ensures ∙ c.if-may_end.true)).1

pub returns-clause-err : goal.returns-clause-err
returns-clause-err c = end_fault c.args.alone c.args.text.now c.in_ok-all.all c.in_ok-all.ensures.ok c.in_ok-all.ensures.all (sym c.may_end.ensures ∙ c.if-may_end.false)
