-- List by list.
use Rattle.std.proofs.Common.{ap, ◌∙◌, not, position}
use Rattle.std.specs.Option.{option_or}
use Rattle.cw_game.specs.Conditions.{InMems, InLive, InTries, InAts, InOpened, InClosed, InInto, InBack, in_range, is_mem_row, is_live_row, is_try_row, is_at_row, is_open_row, is_into_row, is_back_row}
use Rattle.cw_product.specs.Product.{game_of}
use Rattle.cw_wcheck.proofs.Faults.{numbered_range, numbered_ranges}
use Rattle.cw_wcheck.proofs.ranges.range_fault.Goals as goal

pub returns : goal.returns
returns c =
    let g = game_of c.args.game.now in
    let t = c.args.cert.now in
    let mems = numbered_range InMems (is_mem_row g) t.mems _ _ c.out_of_range.ensures c.bad_mem.ensures.is in
    let live = numbered_range InLive (is_live_row g t) t.live _ _ c.out_of_range-2.ensures c.bad_live.ensures.is in
    let tries = numbered_range InTries (is_try_row g t) t.tries _ _ c.out_of_range-3.ensures c.bad_try.ensures.is in
    let ats = numbered_range InAts (is_at_row g t) t.ats _ _ c.out_of_range-4.ensures (c.bad_at.ensures.is ∙ ap (position (λ r. not (is_at_row g t r))) c.ats.ensures) in
    let opened = numbered_range InOpened (is_open_row g t) t.opened _ _ c.out_of_range-5.ensures c.bad_open.ensures.is in
    let closed = numbered_range InClosed (is_at_row g t) t.closed _ _ c.out_of_range-6.ensures (c.bad_at-2.ensures.is ∙ ap (position (λ r. not (is_at_row g t r))) c.closed.ensures) in
    let into = numbered_range InInto (is_into_row g t) t.into _ _ c.out_of_range-7.ensures c.bad_into.ensures.is in
    let back = numbered_range InBack (is_back_row g t) t.back _ _ c.out_of_range-8.ensures c.bad_back.ensures.is in
    let two = c.or.ensures in
    let three = c.or-2.ensures ∙ ap (λ o. option_or o c.out_of_range-3.result) two in
    let four = c.or-3.ensures ∙ ap (λ o. option_or o c.out_of_range-4.result) three in
    let five = c.or-4.ensures ∙ ap (λ o. option_or o c.out_of_range-5.result) four in
    let six = c.or-5.ensures ∙ ap (λ o. option_or o c.out_of_range-6.result) five in
    let seven = c.or-6.ensures ∙ ap (λ o. option_or o c.out_of_range-7.result) six in
    c.or-7.ensures ∙ ap (λ o. option_or o c.out_of_range-8.result) seven
    ∙ numbered_ranges (in_range InMems (is_mem_row g) t.mems) (in_range InLive (is_live_row g t) t.live) (in_range InTries (is_try_row g t) t.tries) (in_range InAts (is_at_row g t) t.ats)
    (in_range InOpened (is_open_row g t) t.opened) (in_range InClosed (is_at_row g t) t.closed) (in_range InInto (is_into_row g t) t.into) (in_range InBack (is_back_row g t) t.back)
    _ _ _ _ _ _ _ _ mems live tries ats opened closed into back
