use Rattle.cw_syntax.specs.Trees.{file_of}
use Rattle.cw_woven.proofs.acceptance.accept.Goals as goal

pub returns-in-Err-TooManyPoints-clause-fault : goal.returns-in-Err-TooManyPoints-clause-fault
returns-in-Err-TooManyPoints-clause-fault c =
    let is = c.in_ok-checked.ensures.source in
    (file_of c.in_ok-checked.checked.program, c.in_ok-checked.ensures.short, c.in_ok-checked.ensures.program, c.in_ok-checked.ensures.kept, rw is at (c.in-Err-TooManyPoints.ensures.many c.in-Err-TooManyPoints.field-0-is))

pub returns-clause-accepted : goal.returns-clause-accepted
returns-clause-accepted c =
    let is = c.in_ok-checked.ensures.source in
    record { short = c.in_ok-checked.ensures.short; reads = c.in_ok-checked.ensures.program; descriptors = c.in_ok-checked.ensures.kept; few = rw is at c.in-Ok.ensures.few }

pub returns-clause-graph : goal.returns-clause-graph
returns-clause-graph c = rw c.in_ok-checked.ensures.source at c.in-Ok.ensures.graph
