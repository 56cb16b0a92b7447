use Rattle.std.proofs.Common.{ap, sym, ◌∙◌}
use Rattle.cw_audit_listing.proofs.Keeping.{kept_more, kept_less}
use Rattle.cw_audit_listing.proofs.kept.kept.Goals as goal
use Rattle.cw_audit_listing.proofs.kept.kept.Goals.{then-is_below+in_ok-push, else-is_below}

pub loop-number-preserved : goal.loop-number-preserved
loop-number-preserved c =
    let s = c.args.store.now in
    let is = sym c.in-Some.is ∙ c.numbered.ensures.entry in
    let there = c.in-Some.ensures.row in
    elim c.if-is_below.branch [
      | then-is_below+in_ok-push w ↦ kept_more s c.args.bound c.loop-number.number c.in-Some.row_key c.in-Some.row is there c.loop-number.below.items c.if-is_below.below.items
          c.loop-number.invariant w.if-is_below.ensures (ap (λ v. v.items) w.below-is ∙ w.in_ok-push.ensures.items)
      | else-is_below w ↦ kept_less s c.args.bound c.loop-number.number c.in-Some.row_key c.in-Some.row is there c.loop-number.below.items c.if-is_below.below.items c.loop-number.invariant
          w.if-is_below.ensures (ap (λ v. v.items) w.below-is)
    ]
