use Rattle.std.proofs.Common.{◌≡◌, true, false, ap, sym, ◌∙◌}
use Rattle.std.specs.Prelude.{is_some}
use Rattle.cw_lemmas.proofs.Options.{some_from}
use Rattle.cw_boards.proofs.moves.has_move.Goals as goal

pub returns : goal.returns
returns c =
    let e = c.may_move.ensures in (
      λ t. let g = some_from _ (sym e ∙ t) in (g.0, ((λ v. let w = c.requires.board.judged.1 v in let z : false ≡ true = sym c.if-board.false ∙ w in absurd (cc)), g.1)),
      λ h. e ∙ ap is_some h.1.1,
    )
