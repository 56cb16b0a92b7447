use Rattle.std.proofs.Common.{◌++◌, ◌∙◌, sym, ap, List, ℕ, arith, length, refl, true, not, eqb}
use Rattle.cw_core.specs.Numerals.{hexadecimal}
use Rattle.cw_core.proofs.SetTexts.{mask_length, mask_where_long, runs_length, spelled_by, whole_where_short}
use Rattle.cw_core.proofs.line.Line.put_ranges.Goals as goal

pub put_text-requires : goal.put_text-requires
put_text-requires c =
    let short = runs_length (not (eqb c.args.set.now 0)) (length c.bytes.result.now) (length (hexadecimal c.args.set.now)) c.if-is_shorter.ensures.shorter in
    let mask = mask_length c.args.set.now c.fact_members_are_below_1024.ensures.below in
    let e = ap length (c.bytes-then-is_shorter.ensures.bytes ∙ sym c.bytes.ensures.bytes) in
    record { room = omega (arith, short, mask, e, c.requires.room) }

pub returns-then-is_shorter : goal.returns-then-is_shorter
returns-then-is_shorter c =
    let short = runs_length (not (eqb c.args.set.now 0)) (length c.bytes.result.now) (length (hexadecimal c.args.set.now)) c.if-is_shorter.ensures.shorter in
    let runs = rw (sym c.bytes.ensures.bytes) at c.put_runs.ensures.text in
    let whole = whole_where_short c.args.set.now c.bytes.result.now c.fact_members_are_below_1024.ensures.below runs short in
    let spelled = spelled_by c.args.set.now true c.bytes.result.now (hexadecimal c.args.set.now) whole refl c.if-is_shorter.ensures.shorter in
    record { text = c.put_text.ensures.text ∙ ap (λ (z : List ℕ). c.args.self.now ++ z) (c.bytes-then-is_shorter.ensures.bytes ∙ sym c.bytes.ensures.bytes ∙ sym spelled) }

pub returns-else-is_shorter : goal.returns-else-is_shorter
returns-else-is_shorter c =
    let runs = rw (sym c.bytes.ensures.bytes) at c.put_runs.ensures.text in
    let spelled = mask_where_long c.args.set.now c.bytes.result.now c.fact_members_are_below_1024.ensures.below runs c.if-is_shorter.ensures.shorter in
    record { text = c.put_mask.ensures.text ∙ ap (λ (z : List ℕ). c.args.self.now ++ z) (sym spelled) }
