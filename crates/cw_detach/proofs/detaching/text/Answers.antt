use Rattle.std.proofs.Common.{◌≤◌, ℕ, List, Option, length, sym, subst}
use Rattle.cw_syntax.specs.Trees.{file_of}
use Rattle.cw_resolve.specs.Held.{lists}
use Rattle.cw_detach.specs.declared.faults.ProcFault.{ProcFault}
use Rattle.cw_detach.specs.Faults.{IsTextFault}
use Rattle.cw_detach.proofs.Rules.{is_few, shallow}
use Rattle.cw_detach.proofs.detaching.text.Goals as goal

pub returns-in-None-clause-few : goal.returns-in-None-clause-few
returns-in-None-clause-few c =
    let source = c.args.checked.now.source.now in
    let file = file_of c.args.checked.now.program in
    let detached = lists c.args.detached.now in
    let clear = subst (λ (fault : Option ProcFault). IsTextFault source file detached fault) c.in-None.is c.in_ok-text_fault.ensures in
    subst (λ (l : List ℕ). length l ≤ 262144) (sym c.in_ok-form.ensures) (is_few source file detached clear)

pub returns-in-None-clause-shallow : goal.returns-in-None-clause-shallow
returns-in-None-clause-shallow c =
    let source = c.args.checked.now.source.now in
    let file = file_of c.args.checked.now.program in
    let detached = lists c.args.detached.now in
    shallow source file detached (subst (λ (fault : Option ProcFault). IsTextFault source file detached fault) c.in-None.is c.in_ok-text_fault.ensures)
