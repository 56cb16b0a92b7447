-- The lists of lines that were read are those of answers; how many there are fits, since each has a byte.
use Rattle.std.proofs.Common.{◌≡◌, ◌+◌, ◌^◌, ◌<◌, length, map, arith, subst}
use Rattle.std.proofs.lemmas.List.{length-map}
use Rattle.cw_lemmas.proofs.Texts.{some_bytes, no_bytes}
use Rattle.cw_answers.specs.Faults.{IsFault}
use Rattle.cw_answers.specs.Reading.{name_of}
use Rattle.cw_answers.proofs.Behind.{no_head, in_order, few, spelled_end, fault_end, fault_line}
use Rattle.cw_answers.proofs.reading.read_answers.Goals as goal
use Rattle.cw_answers.proofs.reading.read_answers.Goals.{In_ok-calls, After-len-3}

pub returns-in_default-clause-fault : goal.returns-in_default-clause-fault
returns-in_default-clause-fault c = no_head c.args.text.now c.in_default.ensures.none

small : (c : In_ok-calls) → length (map name_of c.in_ok-names.names.items) + length c.in_ok-tries.tries.items + length c.in_ok-calls.calls.items + 3 < 2 ^ 32
small c =
    few c.args.text.now c.in-Some.first.now c.in_ok-names.second.now c.in_ok-tries.third.now c.in_ok-calls.last.now (map name_of c.in_ok-names.names.items) c.in_ok-tries.tries.items c.in_ok-calls.calls.items
    c.in-Some.ensures.some c.in_ok-names.ensures.text c.in_ok-names.ensures.fits c.in_ok-names.ensures.ascend c.in_ok-tries.ensures.text c.in_ok-tries.ensures.fits c.in_ok-calls.ensures.text
    c.in_ok-calls.ensures.fits c.requires

-- as many as were counted
counted : (c : After-len-3) → length (map name_of c.in_ok-names.names.items) + length c.in_ok-tries.tries.items + length c.in_ok-calls.calls.items ≡ c.len.result + c.len-2.result + c.len-3.result
counted c =
    let names : c.len.result ≡ length c.in_ok-names.names.items = omega (arith, c.len.ensures, c.in_ok-names.names.ok.0) in
    let tries : c.len-2.result ≡ length c.in_ok-tries.tries.items = omega (arith, c.len-2.ensures, c.in_ok-tries.tries.ok.0) in
    let calls : c.len-3.result ≡ length c.in_ok-calls.calls.items = omega (arith, c.len-3.ensures, c.in_ok-calls.calls.ok.0) in
    let plain = length-map c.in_ok-names.names.items name_of in
    omega (arith, names, tries, calls, plain)

pub overflow_cast-lines : goal.overflow_cast-lines
overflow_cast-lines c = let f = small (goal.at.overflow_cast-lines c).In_ok-calls in let n = counted (goal.at.overflow_cast-lines c).After-len-3 in omega (arith, f, n)

pub overflow_add-result : goal.overflow_add-result
overflow_add-result c = let f = small (goal.at.overflow_add-result c).In_ok-calls in let n = counted (goal.at.overflow_add-result c).After-len-3 in omega (arith, f, n)

pub overflow_add-result-then-not-is_empty : goal.overflow_add-result-then-not-is_empty
overflow_add-result-then-not-is_empty c =
    let f = small (goal.at.overflow_add-result-then-not-is_empty c).In_ok-calls in let n = counted (goal.at.overflow_add-result-then-not-is_empty c).After-len-3 in omega (arith, f, n)

pub returns-in_default-after_end-clause-fault :
    goal.returns-in_default-after_end-clause-fault
returns-in_default-after_end-clause-fault c =
    subst (λ n. IsFault c.args.text.now (n + 2)) (counted (goal.at.returns-in_default-after_end-clause-fault c).After-len-3)
    (fault_line c.args.text.now c.in-Some.first.now c.in_ok-names.second.now c.in_ok-tries.third.now c.in_ok-calls.last.now (map name_of c.in_ok-names.names.items) c.in_ok-tries.tries.items
    c.in_ok-calls.calls.items c.in-Some.ensures.some c.in_ok-names.ensures.text c.in_ok-names.ensures.fits c.in_ok-names.ensures.ascend c.in_ok-tries.ensures.text c.in_ok-tries.ensures.fits
    c.in_ok-calls.ensures.text c.in_ok-calls.ensures.fits c.in_ok-names.ensures.stops c.in_ok-tries.ensures.stops c.in_ok-calls.ensures.stops c.in_default-after_end.ensures.none)

pub returns-then-not-is_empty-clause-fault : goal.returns-then-not-is_empty-clause-fault
returns-then-not-is_empty-clause-fault c =
    subst (λ n. IsFault c.args.text.now (n + 3)) (counted (goal.at.returns-then-not-is_empty-clause-fault c).After-len-3)
    (fault_end c.args.text.now c.in-Some.first.now c.in_ok-names.second.now c.in_ok-tries.third.now c.in_ok-calls.last.now (map name_of c.in_ok-names.names.items) c.in_ok-tries.tries.items
    c.in_ok-calls.calls.items c.in-Some.ensures.some c.in_ok-names.ensures.text c.in_ok-names.ensures.fits c.in_ok-names.ensures.ascend c.in_ok-tries.ensures.text c.in_ok-tries.ensures.fits
    c.in_ok-calls.ensures.text c.in_ok-calls.ensures.fits c.in-Some-after_end.rest.now c.in-Some-after_end.ensures.some
    (some_bytes c.in-Some-after_end.rest.now c.is_empty.result c.is_empty.ensures c.if-not-is_empty.true))

pub returns-clause-ok : goal.returns-clause-ok
returns-clause-ok c =
    spelled_end c.args.text.now c.in-Some.first.now c.in_ok-names.second.now c.in_ok-tries.third.now c.in_ok-calls.last.now (map name_of c.in_ok-names.names.items) c.in_ok-tries.tries.items
    c.in_ok-calls.calls.items c.in-Some.ensures.some c.in_ok-names.ensures.text c.in_ok-names.ensures.fits c.in_ok-names.ensures.ascend c.in_ok-tries.ensures.text c.in_ok-tries.ensures.fits
    c.in_ok-calls.ensures.text c.in_ok-calls.ensures.fits c.in-Some-after_end.rest.now c.in-Some-after_end.ensures.some
    (no_bytes c.in-Some-after_end.rest.now c.is_empty.result c.is_empty.ensures c.if-not-is_empty.false)

pub returns-clause-in_order : goal.returns-clause-in_order
returns-clause-in_order c =
    in_order c.args.text.now c.in-Some.first.now c.in_ok-names.second.now c.in_ok-tries.third.now c.in_ok-calls.last.now (map name_of c.in_ok-names.names.items) c.in_ok-tries.tries.items
    c.in_ok-calls.calls.items c.in-Some.ensures.some c.in_ok-names.ensures.text c.in_ok-names.ensures.fits c.in_ok-names.ensures.ascend c.in_ok-tries.ensures.text c.in_ok-tries.ensures.fits
    c.in_ok-calls.ensures.text c.in_ok-calls.ensures.fits
