use Rattle.std.proofs.Common.{◌≡◌, ◌<◌, ◌≤◌, ◌+◌, drop, map, length, get_or, ap, sym, ◌∙◌, rules}
use Rattle.std.specs.Prelude.{is_some}
use Rattle.std.proofs.lemmas.List.{drop_all}
use Rattle.cw_syntax.specs.Frames.{continued}
use Rattle.cw_boards.specs.Held.{item_of}
use Rattle.cw_boards.proofs.Dropped.{continued_other, continued_stays}
use Rattle.cw_boards.proofs.Having.{from_here}
use Rattle.cw_boards.proofs.moves.has_turn.Goals as goal

pub returns-in-Test : goal.returns-in-Test
returns-in-Test c = λ s.
    let xs = c.args.frame.now.items in
    let i = c.loop-i.i in
    let x = c.index.result.now in
    let l : i < length xs = search rules in
    let e : x ≡ get_or xs i x = search rules in
    ap is_some (continued_stays s x (map (item_of s) (drop (i + 1) xs)) c.in-Test.is) ∙ sym (ap (λ l. is_some (continued (map (item_of s) l))) (from_here xs i x l e))
    ∙ ap is_some (c.loop-i.invariant s)

pub loop-i-preserved : goal.loop-i-preserved
loop-i-preserved c = λ s.
    let xs = c.args.frame.now.items in
    let i = c.loop-i.i in
    let x = c.index.result.now in
    let l : i < length xs = search rules in
    let e : x ≡ get_or xs i x = search rules in
    sym (continued_other s x (map (item_of s) (drop (i + 1) xs)) c.in_default.not-Test c.in_default.not-After) ∙ sym (ap (λ l. continued (map (item_of s) l)) (from_here xs i x l e))
    ∙ c.loop-i.invariant s

pub returns : goal.returns
returns c = λ s.
    let xs = c.args.frame.now.items in
    let l : length xs ≤ c.loop-i.i = search rules in
    sym (ap (λ l. is_some (continued (map (item_of s) l))) (drop_all c.loop-i.i xs l)) ∙ ap is_some (c.loop-i.invariant s)
