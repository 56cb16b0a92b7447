use Rattle.std.proofs.Common.{inl, inr, arith}
use Rattle.std.proofs.lemmas.Bool.{ltb-true}
use Rattle.cw_audit.proofs.Limits.{early_many}
use Rattle.cw_audit.proofs.finish.are_many.Goals as goal
use Rattle.cw_audit.proofs.finish.are_many.Goals.{then-bound-eq-CUT, else-bound-eq-CUT}

pub returns : goal.returns
returns c = λ many.
    early_many c.args.game.now c.args.search.now c.requires.fair c.requires.kept c.args.bound c.if-bound-eq-CUT.limit c.len.result c.in_ok-row_keys.row_keys.items c.requires.early c.requires.settled
    (elim c.if-bound-eq-CUT.branch [ then-bound-eq-CUT w ↦ inl (w.if-bound-eq-CUT.true, w.limit-is) | else-bound-eq-CUT w ↦ inr w.limit-is ])
    c.in_ok-row_keys.ensures (omega (arith, c.len.ensures, c.in_ok-row_keys.row_keys.ok.0)) (ltb-true 65536 c.len.result many)
