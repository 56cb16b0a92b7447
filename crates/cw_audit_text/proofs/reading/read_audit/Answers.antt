-- What stands behind the first lines is read by lists of lines; how many there are fits, since each has a byte.
use Rattle.std.proofs.Common.{◌≡◌, ◌+◌, ◌≤◌, length, arith, subst}
use Rattle.cw_lemmas.proofs.Texts.{some_bytes, no_bytes}
use Rattle.cw_audit_text.specs.declared.fault.AuditTextFault.TheVariants.{Line}
use Rattle.cw_audit_text.specs.Faults.{IsCause, no_head, no_states, no_verdict}
use Rattle.cw_audit_text.proofs.Behind.{few_lines, spelled_end, fault_end, fault_line, groups_lines, are_few}
use Rattle.cw_audit_text.proofs.reading.read_audit.Goals as goal
use Rattle.cw_audit_text.proofs.reading.read_audit.Goals.{In_ok-groups, After-lines_in}

pub returns-in_default-clause-fault : goal.returns-in_default-clause-fault
returns-in_default-clause-fault c = no_head c.in_default.ensures.none

pub returns-in_default-after_states-clause-fault :
    goal.returns-in_default-after_states-clause-fault
returns-in_default-after_states-clause-fault c = no_states c.in-Some.first.now c.in-Some.ensures.some c.in_default-after_states.ensures.none

pub returns-in_default-after_verdict-clause-fault :
    goal.returns-in_default-after_verdict-clause-fault
returns-in_default-after_verdict-clause-fault c =
    no_verdict c.in-Some-after_states.states c.in-Some.first.now c.in-Some-after_states.second.now c.in-Some.ensures.some c.in-Some-after_states.ensures.some c.in_default-after_verdict.ensures.none

few : (c : In_ok-groups) → length c.in_ok-moves.moves.items + length (groups_lines c.in_ok-groups.groups.items) + 5 ≤ length c.args.text.now + 2
few c =
    few_lines c.args.text.now c.in-Some.first.now c.in-Some-after_states.second.now c.in-Some-after_verdict.third.now c.in_ok-moves.fourth.now c.in_ok-groups.last.now
    c.in-Some-after_states.states c.in-Some-after_verdict.distance c.in_ok-moves.moves.items c.in_ok-groups.groups.items c.in-Some.ensures.some c.in-Some-after_states.ensures.some
    c.in-Some-after_verdict.ensures.some c.in_ok-moves.ensures.text c.in_ok-moves.ensures.fits c.in_ok-moves.ensures.none c.in_ok-groups.ensures.text c.in_ok-groups.ensures.fits

-- as many as were counted
counted : (c : After-lines_in) → length c.in_ok-moves.moves.items + length (groups_lines c.in_ok-groups.groups.items) ≡ c.len.result + c.lines_in.result
counted c =
    let moves : c.len.result ≡ length c.in_ok-moves.moves.items = omega (arith, c.len.ensures, c.in_ok-moves.moves.ok.0) in
    let groups : c.lines_in.result ≡ length (groups_lines c.in_ok-groups.groups.items) = rw c.deref.ensures.value at c.lines_in.ensures in
    omega (arith, moves, groups)

pub lines_in-requires : goal.lines_in-requires
lines_in-requires c = rw c.deref.ensures.value (let f = few (goal.at.lines_in-requires c).In_ok-groups in let r = c.requires in omega (arith, f, r))

pub overflow_add-lines : goal.overflow_add-lines
overflow_add-lines c =
    let f = few (goal.at.overflow_add-lines c).In_ok-groups in
    let n = counted (goal.at.overflow_add-lines c).After-lines_in in
    let r = c.requires in
    omega (arith, f, n, r)

pub overflow_cast-lines : goal.overflow_cast-lines
overflow_cast-lines c =
    let f = few (goal.at.overflow_cast-lines c).In_ok-groups in
    let n = counted (goal.at.overflow_cast-lines c).After-lines_in in
    let r = c.requires in
    omega (arith, f, n, r)

pub overflow_add-result : goal.overflow_add-result
overflow_add-result c =
    let f = few (goal.at.overflow_add-result c).In_ok-groups in
    let n = counted (goal.at.overflow_add-result c).After-lines_in in
    let r = c.requires in
    omega (arith, f, n, r)

pub overflow_add-result-then-not-is_empty : goal.overflow_add-result-then-not-is_empty
overflow_add-result-then-not-is_empty c =
    let f = few (goal.at.overflow_add-result-then-not-is_empty c).In_ok-groups in
    let n = counted (goal.at.overflow_add-result-then-not-is_empty c).After-lines_in in
    let r = c.requires in
    omega (arith, f, n, r)

pub returns-in_default-after_end-clause-fault :
    goal.returns-in_default-after_end-clause-fault
returns-in_default-after_end-clause-fault c =
    subst (λ n. IsCause c.args.text.now (Line (n + 4))) (counted (goal.at.returns-in_default-after_end-clause-fault c).After-lines_in)
    (fault_line c.args.text.now c.in-Some.first.now c.in-Some-after_states.second.now c.in-Some-after_verdict.third.now c.in_ok-moves.fourth.now c.in_ok-groups.last.now
    c.in-Some-after_states.states c.in-Some-after_verdict.distance c.in_ok-moves.moves.items c.in_ok-groups.groups.items c.in-Some.ensures.some c.in-Some-after_states.ensures.some
    c.in-Some-after_verdict.ensures.some c.in_ok-moves.ensures.text c.in_ok-moves.ensures.fits c.in_ok-moves.ensures.none c.in_ok-groups.ensures.text c.in_ok-groups.ensures.fits
    c.in_ok-moves.ensures.stops c.in_ok-groups.ensures.group c.in_ok-groups.ensures.stops c.in_default-after_end.ensures.none)

pub returns-then-not-is_empty-clause-fault : goal.returns-then-not-is_empty-clause-fault
returns-then-not-is_empty-clause-fault c =
    subst (λ n. IsCause c.args.text.now (Line (n + 5))) (counted (goal.at.returns-then-not-is_empty-clause-fault c).After-lines_in)
    (fault_end c.args.text.now c.in-Some.first.now c.in-Some-after_states.second.now c.in-Some-after_verdict.third.now c.in_ok-moves.fourth.now c.in_ok-groups.last.now
    c.in-Some-after_states.states c.in-Some-after_verdict.distance c.in_ok-moves.moves.items c.in_ok-groups.groups.items c.in-Some.ensures.some c.in-Some-after_states.ensures.some
    c.in-Some-after_verdict.ensures.some c.in_ok-moves.ensures.text c.in_ok-moves.ensures.fits c.in_ok-moves.ensures.none c.in_ok-groups.ensures.text c.in_ok-groups.ensures.fits
    c.in-Some-after_end.rest.now c.in-Some-after_end.ensures.some (some_bytes c.in-Some-after_end.rest.now c.is_empty.result c.is_empty.ensures c.if-not-is_empty.true))

pub returns-clause-spells : goal.returns-clause-spells
returns-clause-spells c =
    spelled_end c.args.text.now c.in-Some.first.now c.in-Some-after_states.second.now c.in-Some-after_verdict.third.now c.in_ok-moves.fourth.now c.in_ok-groups.last.now
    c.in-Some-after_states.states c.in-Some-after_verdict.distance c.in_ok-moves.moves.items c.in_ok-groups.groups.items c.in-Some.ensures.some c.in-Some-after_states.ensures.some
    c.in-Some-after_verdict.ensures.some c.in_ok-moves.ensures.text c.in_ok-moves.ensures.fits c.in_ok-moves.ensures.none c.in_ok-groups.ensures.text c.in_ok-groups.ensures.fits
    c.in-Some-after_end.rest.now c.in-Some-after_end.ensures.some (no_bytes c.in-Some-after_end.rest.now c.is_empty.result c.is_empty.ensures c.if-not-is_empty.false)

pub returns-clause-few : goal.returns-clause-few
returns-clause-few c = are_few c.in_ok-groups.groups.items (let f = few (goal.at.returns-clause-few c).In_ok-groups in let r = c.requires in omega (arith, f, r))
