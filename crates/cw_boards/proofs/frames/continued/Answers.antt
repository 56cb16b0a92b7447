use Rattle.std.proofs.Common.{Some, map, ap, sym, ◌∙◌}
use Rattle.cw_syntax.specs.Frames.{continued}
use Rattle.cw_boards.specs.Held.{item_of}
use Rattle.cw_boards.proofs.Dropped.{continued_other, continued_stays, none_left}
use Rattle.cw_boards.proofs.frames.continued.Goals as goal

pub returns-in-Test : goal.returns-in-Test
returns-in-Test c = λ s.
    ap (λ l. Some (map (item_of s) l)) c.in_ok-put-in-Test.ensures
    ∙ continued_stays s c.in-Some.item (map (item_of s) c.pop_front.new.self.items) c.in-Test.is
    ∙ sym (ap (λ l. continued (map (item_of s) l)) c.in-Some.ensures.items) ∙ c.loop-item.invariant s

pub loop-item-preserved : goal.loop-item-preserved
loop-item-preserved c = λ s.
    sym (continued_other s c.in-Some.item (map (item_of s) c.pop_front.new.self.items) c.in_default-item.not-Test c.in_default-item.not-After)
    ∙ sym (ap (λ l. continued (map (item_of s) l)) c.in-Some.ensures.items) ∙ c.loop-item.invariant s

pub returns : goal.returns
returns c = λ s. sym (ap (λ l. continued (map (item_of s) l)) (none_left _ _ c.in_default.ensures.items c.in_default.ensures.rest)) ∙ c.loop-item.invariant s
