use Rattle.std.proofs.Common.{◌≡◌, ◌++◌, sym, subst}
use Rattle.cw_policy.specs.declared.fault.PolicyFault.{PolicyFault}
use Rattle.cw_policy.specs.Lines.{fault_line}
use Rattle.cw_policy.proofs.lines.put_fault.Goals as goal

pub returns-in-Missing-clause-text : goal.returns-in-Missing-clause-text
returns-in-Missing-clause-text g c =
    subst (λ (fault : PolicyFault). c.put_at.new.line.text ≡ c.args.line.now.text ++ fault_line fault) (sym c.in-Missing.is) c.put_at.ensures.text

pub returns-in-Unknown-clause-text : goal.returns-in-Unknown-clause-text
returns-in-Unknown-clause-text g c =
    subst (λ (fault : PolicyFault). c.put_at-in-Unknown.new.line.text ≡ c.args.line.now.text ++ fault_line fault) (sym c.in-Unknown.is) c.put_at-in-Unknown.ensures.text

pub returns-in-Kind-clause-text : goal.returns-in-Kind-clause-text
returns-in-Kind-clause-text g c =
    subst (λ (fault : PolicyFault). c.put_at-in-Kind.new.line.text ≡ c.args.line.now.text ++ fault_line fault) (sym c.in-Kind.is) c.put_at-in-Kind.ensures.text

pub returns-in-Twice-clause-text : goal.returns-in-Twice-clause-text
returns-in-Twice-clause-text g c =
    subst (λ (fault : PolicyFault). c.put_at-in-Twice.new.line.text ≡ c.args.line.now.text ++ fault_line fault) (sym c.in-Twice.is) c.put_at-in-Twice.ensures.text

pub returns-in-Regex-clause-text : goal.returns-in-Regex-clause-text
returns-in-Regex-clause-text g c =
    subst (λ (fault : PolicyFault). c.put_regex.new.line.text ≡ c.args.line.now.text ++ fault_line fault) (sym c.in-Regex.is) c.put_regex.ensures.text
