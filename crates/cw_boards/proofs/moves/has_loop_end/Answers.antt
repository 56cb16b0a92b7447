use Rattle.std.proofs.Common.{◌≡◌, ◌<◌, ◌≤◌, ◌+◌, ◌∷◌, drop, map, length, get_or, ap, sym, ◌∙◌, rules}
use Rattle.std.specs.Prelude.{is_some}
use Rattle.std.proofs.lemmas.List.{drop_all}
use Rattle.cw_syntax.specs.Frames.{broken}
use Rattle.cw_boards.specs.Held.{item_of}
use Rattle.cw_boards.proofs.Dropped.{broken_other}
use Rattle.cw_boards.proofs.Having.{from_here}
use Rattle.cw_boards.proofs.moves.has_loop_end.Goals as goal

pub returns-in-LoopEnd : goal.returns-in-LoopEnd
returns-in-LoopEnd c = λ s.
    let xs = c.args.frame.now.items in
    let i = c.loop-i.i in
    let x = c.index.result.now in
    let l : i < length xs = search rules in
    let e : x ≡ get_or xs i x = search rules in
    sym (ap (λ l. is_some (broken (map (item_of s) l))) (from_here xs i x l e ∙ ap (λ y. y ∷ drop (i + 1) xs) c.in-LoopEnd.is)) ∙ ap is_some (c.loop-i.invariant s)

pub loop-i-preserved : goal.loop-i-preserved
loop-i-preserved c = λ s.
    let xs = c.args.frame.now.items in
    let i = c.loop-i.i in
    let x = c.index.result.now in
    let l : i < length xs = search rules in
    let e : x ≡ get_or xs i x = search rules in
    sym (broken_other s x (map (item_of s) (drop (i + 1) xs)) c.in_default.not-LoopEnd) ∙ sym (ap (λ l. broken (map (item_of s) l)) (from_here xs i x l e)) ∙ c.loop-i.invariant s

pub returns : goal.returns
returns c = λ s.
    let xs = c.args.frame.now.items in
    let l : length xs ≤ c.loop-i.i = search rules in
    sym (ap (λ l. is_some (broken (map (item_of s) l))) (drop_all c.loop-i.i xs l)) ∙ ap is_some (c.loop-i.invariant s)
