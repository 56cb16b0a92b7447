use Rattle.std.proofs.Common.{◌≡◌, ◌++◌, sym, subst}
use Rattle.cw_scope.specs.declared.faults.ScopeFault.{ScopeFault}
use Rattle.cw_source.specs.Lines.{scope_line}
use Rattle.cw_source.proofs.line.put_scope_fault.Goals as goal

pub returns-in-MainCalled-clause-text : goal.returns-in-MainCalled-clause-text
returns-in-MainCalled-clause-text g c =
    let put = c.put_place_line-in-MainCalled in
    subst (λ (fault : ScopeFault). put.new.line.text ≡ c.args.line.now.text ++ scope_line c.args.source.now fault) (sym c.in-MainCalled.is) put.ensures.text
