use Rattle.std.proofs.Common.{List, length, sym, ap, ◌∙◌, arith}
use Rattle.std.proofs.lemmas.Bool.{eqb-true, false≢true}
use Rattle.cw_core.specs.declared.ids.PosId.{PosId}
use Rattle.cw_product.specs.Product.{game_of}
use Rattle.cw_linked.proofs.Plain.{bare}
use Rattle.cw_linked.proofs.edges.is_bare.Goals as goal

pub is_flagged-requires : goal.is_flagged-requires
is_flagged-requires c = omega (arith, c.requires.position, c.requires.changes.flags)

pub returns-then-is_flagged : goal.returns-then-is_flagged
returns-then-is_flagged c e = absurd (false≢true e)

pub row-requires : goal.row-requires
row-requires c = omega (arith, c.requires.position, c.requires.returns.rows)

pub returns : goal.returns
returns c e =
    let row = c.row.result.now in
    bare (game_of c.args.game.now) c.args.changes.now c.args.returns.now c.requires.changes c.requires.returns c.args.pos.0 (sym c.is_flagged.ensures ∙ c.if-is_flagged.false)
    (ap (λ (ps : List PosId). length ps) (sym c.row.ensures) ∙ eqb-true (length row) 0 (sym c.is_empty.ensures ∙ e))
