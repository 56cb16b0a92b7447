use Rattle.std.proofs.Common.{◌∷◌, map, ap, sym, ◌∙◌}
use Rattle.cw_syntax.specs.Frames.{broken}
use Rattle.cw_boards.specs.Held.{item_of}
use Rattle.cw_boards.proofs.Dropped.{broken_other, none_left}
use Rattle.cw_boards.proofs.frames.broken.Goals as goal

pub returns-in-LoopEnd : goal.returns-in-LoopEnd
returns-in-LoopEnd c = λ s. sym (ap (λ l. broken (map (item_of s) l)) (c.in-Some.ensures.items ∙ ap (λ i. i ∷ c.pop_front.new.self.items) c.in-LoopEnd.is)) ∙ c.loop-item.invariant s

pub loop-item-preserved : goal.loop-item-preserved
loop-item-preserved c = λ s.
    sym (broken_other s c.in-Some.item (map (item_of s) c.pop_front.new.self.items) c.in_default-item.not-LoopEnd)
    ∙ sym (ap (λ l. broken (map (item_of s) l)) c.in-Some.ensures.items) ∙ c.loop-item.invariant s

pub returns : goal.returns
returns c = λ s. sym (ap (λ l. broken (map (item_of s) l)) (none_left _ _ c.in_default.ensures.items c.in_default.ensures.rest)) ∙ c.loop-item.invariant s
