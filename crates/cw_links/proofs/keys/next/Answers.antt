use Rattle.std.proofs.Common.{refl, sym, ◌∙◌}
use Rattle.cw_links.proofs.Stacks.{takes_one}
use Rattle.cw_links.proofs.Queueing.{taken_element, passed_over, is_next, none_waits}
use Rattle.cw_links.proofs.keys.next.Goals as goal

pub key_of-requires : goal.key_of-requires
key_of-requires c =
    taken_element c.args.cells.now.asked c.args.due.now c.loop-element.queue c.take_wide.new.self c.in-Some.element c.in-Some.key c.loop-element.invariant c.in-Some.ensures.taken

pub loop-element-preserved : goal.loop-element-preserved
loop-element-preserved c =
    passed_over c.args.cells.now.asked c.args.due.now c.loop-element.queue c.take_wide.new.self c.in-Some.element c.in-Some.key c.loop-element.invariant c.in-Some.ensures.taken
    (λ is. c.if-key_of-key.false (c.key_of.ensures ∙ is))

pub loop-element-smaller : goal.loop-element-smaller
loop-element-smaller c = takes_one c.loop-element.queue c.take_wide.new.self c.in-Some.element c.in-Some.key c.in-Some.ensures.taken

pub returns-then-key_of-key-clause-next : goal.returns-then-key_of-key-clause-next
returns-then-key_of-key-clause-next c =
    is_next c.args.cells.now.asked c.args.due.now c.loop-element.queue c.take_wide.new.self c.in-Some.element c.in-Some.key c.loop-element.invariant c.in-Some.ensures.taken
    (sym c.key_of.ensures ∙ c.if-key_of-key.true)

pub returns-clause-none : goal.returns-clause-none
returns-clause-none c = none_waits c.args.cells.now.asked c.args.due.now c.loop-element.queue c.loop-element.invariant (c.in_default.ensures.none.0 refl)
