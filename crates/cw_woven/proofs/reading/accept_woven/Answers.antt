-- Each step's answer is an answer of the whole.
use Rattle.std.proofs.Common.{map}
use Rattle.cw_rights.specs.Policies.{policy_of}
use Rattle.cw_resolve.specs.Scenes.{names_of}
use Rattle.cw_syntax.specs.Trees.{file_of}
use Rattle.cw_syntax.specs.Marks.{mark_of}
use Rattle.cw_woven.specs.Held.{insertion_of}
use Rattle.cw_woven.proofs.Opening.{misplaced, reads, refused}
use Rattle.cw_woven.proofs.Whole.{few}
use Rattle.cw_woven.proofs.reading.accept_woven.Goals as goal

pub returns-in-Err-clause-fault : goal.returns-in-Err-clause-fault
returns-in-Err-clause-fault c =
    let o = c.args.remainder.now in
    refused (policy_of c.args.policy.now) o.text.now o.source.items (map insertion_of o.marks.items) o.left.now o.table c.requires.remainder.has c.requires.remainder.is c.in-Err.fault (rw c.deref.ensures.value at c.in-Err.ensures.fault)

pub compare-requires-clause-few : goal.compare-requires-clause-few
compare-requires-clause-few c =
    let o = c.args.remainder.now in
    let file = file_of c.in-Ok.accepted.checked.program in
    let are = c.in_ok-marks.ensures.marks (names_of (policy_of c.args.policy.now)) o.source.items file (rw c.deref.ensures.value at c.in-Ok.ensures.graph) in
    rw c.deref-3.ensures.value (few (policy_of c.args.policy.now) o.source.items c.in_ok-marks.marks.items (file, rw c.deref.ensures.value at c.in-Ok.ensures.accepted, are))

pub returns-in-Ok-compare-clause-reads : goal.returns-in-Ok-compare-clause-reads
returns-in-Ok-compare-clause-reads c =
    let o = c.args.remainder.now in
    let file = file_of c.in-Ok.accepted.checked.program in
    let are = c.in_ok-marks.ensures.marks (names_of (policy_of c.args.policy.now)) o.source.items file (rw c.deref.ensures.value at c.in-Ok.ensures.graph) in
    reads (policy_of c.args.policy.now) o.text.now o.source.items (map insertion_of o.marks.items) o.left.now o.table c.requires.remainder.has c.requires.remainder.is file (rw c.deref.ensures.value at c.in-Ok.ensures.accepted) (map mark_of c.in_ok-marks.marks.items) are
    (rw (c.deref-2.ensures.value, c.deref-3.ensures.value, c.deref-4.ensures.value) at c.in-Ok-compare.ensures.same)

pub returns-in-Ok-compare-clause-graph : goal.returns-in-Ok-compare-clause-graph
returns-in-Ok-compare-clause-graph c = rw c.deref.ensures.value at c.in-Ok.ensures.graph

pub returns-clause-fault : goal.returns-clause-fault
returns-clause-fault c =
    let o = c.args.remainder.now in
    let file = file_of c.in-Ok.accepted.checked.program in
    let are = c.in_ok-marks.ensures.marks (names_of (policy_of c.args.policy.now)) o.source.items file (rw c.deref.ensures.value at c.in-Ok.ensures.graph) in
    misplaced (policy_of c.args.policy.now) o.text.now o.source.items (map insertion_of o.marks.items) o.left.now o.table c.requires.remainder.has c.requires.remainder.is file (rw c.deref.ensures.value at c.in-Ok.ensures.accepted) (map mark_of c.in_ok-marks.marks.items) are
    c.in-Err-compare.fault (rw (c.deref-2.ensures.value, c.deref-3.ensures.value, c.deref-4.ensures.value) at c.in-Err-compare.ensures.fault)
