use Rattle.std.proofs.Common.{◌∷◌, [], ◌++◌, map, ap, sym, ◌∙◌}
use Rattle.std.proofs.lemmas.List.{append-nil}
use Rattle.cw_syntax.specs.Frames.{ended}
use Rattle.cw_boards.specs.Held.{item_of}
use Rattle.cw_boards.proofs.Dropped.{ended_other, end_more, none_left}
use Rattle.cw_boards.proofs.frames.ended.Goals as goal

pub loop-item-preserved-in-Continue-1 : goal.loop-item-preserved-in-Continue-1
loop-item-preserved-in-Continue-1 c = λ s.
    let ends = c.loop-item.ends.items in
    let rest = c.pop_front.new.self.items in
    ap (λ l. map (item_of s) l ++ ended (map (item_of s) rest)) (c.in_ok-push_back.ensures.items ∙ ap (λ i. ends ++ i ∷ []) c.in-End.is)
    ∙ end_more s ends rest c.in-End.field-0
    ∙ ap (λ l. map (item_of s) ends ++ ended (map (item_of s) l)) (sym (c.in-Some.ensures.items ∙ ap (λ i. i ∷ rest) c.in-End.is))
    ∙ c.loop-item.invariant s

pub loop-item-preserved : goal.loop-item-preserved
loop-item-preserved c = λ s.
    ap (λ l. map (item_of s) c.loop-item.ends.items ++ l) (sym (ended_other s c.in-Some.item (map (item_of s) c.pop_front.new.self.items) c.in_default-item.not-End)
    ∙ sym (ap (λ l. ended (map (item_of s) l)) c.in-Some.ensures.items))
    ∙ c.loop-item.invariant s

pub returns : goal.returns
returns c = λ s.
    sym (append-nil (map (item_of s) c.loop-item.ends.items))
    ∙ ap (λ l. map (item_of s) c.loop-item.ends.items ++ ended (map (item_of s) l)) (sym (none_left _ _ c.in_default.ensures.items c.in_default.ensures.rest))
    ∙ c.loop-item.invariant s
