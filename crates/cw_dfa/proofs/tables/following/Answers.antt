use Rattle.std.proofs.Common.{rules, ◌≡◌, cond, slice_index, sym, ap, ◌∙◌}
use Rattle.std.specs.Int.RustNames.{bit_or}
use Rattle.cw_dfa.specs.Sets.{has}
use Rattle.cw_dfa.specs.Tables.{unite}
use Rattle.cw_dfa.proofs.Sums.{or_zero, or_assoc}
use Rattle.cw_dfa.proofs.Linear.{unite_none, unite_more}
use Rattle.cw_dfa.proofs.tables.following.Goals as goal

pub loop-p-init : goal.loop-p-init
loop-p-init c =
    let first = cond (has c.args.set 0) c.args.tables.now.first 0 in
    let e : c.only_if-next.result ≡ first = search rules in
    e ∙ sym (or_zero first) ∙ ap (bit_or first) (sym (unite_none (slice_index c.args.tables.now.follow) c.args.set))

pub loop-p-preserved : goal.loop-p-preserved
loop-p-preserved c =
    let first = cond (has c.args.set 0) c.args.tables.now.first 0 in
    let row = slice_index c.args.tables.now.follow in
    let e : c.only_if-next-in-loop-p.result ≡ cond (has c.args.set c.loop-p.p) (row c.loop-p.p) 0 = search rules in
    ap (λ n. bit_or n c.only_if-next-in-loop-p.result) c.loop-p.invariant ∙ ap (bit_or (bit_or first (unite row c.loop-p.p c.args.set))) e
    ∙ or_assoc first (unite row c.loop-p.p c.args.set) (cond (has c.args.set c.loop-p.p) (row c.loop-p.p) 0) ∙ ap (bit_or first) (sym (unite_more row c.loop-p.p c.args.set))
