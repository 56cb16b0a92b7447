use Rattle.std.proofs.Common.{List, length, ap}
use Rattle.cw_procs.specs.declared.stacks.Link.{Link}
use Rattle.cw_procs.proofs.Acting.{kept_items, pushed}
use Rattle.cw_procs.proofs.stacks.wait_for.Goals as goal

pub returns-clause-stacks : goal.returns-clause-stacks
returns-clause-stacks c = λ waits st.
    pushed c.args.links.now.items c.push_reserved.new.self.items c.args.calls c.args.wait _ waits c.push_reserved.ensures.items
    (ap (λ (l : List Link). length l) c.as_slice.ensures.value) st

pub returns-clause-kept : goal.returns-clause-kept
returns-clause-kept c = λ calls ws st. kept_items c.args.links.now.items c.push_reserved.new.self.items _ c.push_reserved.ensures.items calls ws st
