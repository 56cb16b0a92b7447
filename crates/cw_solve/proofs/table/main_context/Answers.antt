use Rattle.std.proofs.Common.{◌≡◌, ℕ, ap₂, ◌∙◌, ◌&&◌, not, nat_lt, Bool, true, false, refl}
use Rattle.cw_product.specs.Product.{game_of}
use Rattle.cw_solve.specs.Contexts.{context}
use Rattle.cw_solve.proofs.Fresh.{all_is}
use Rattle.cw_solve.proofs.table.main_context.Goals as goal

only : (a : Bool) → (a && not false) ≡ a
only true = refl
only false = refl

pub returns : goal.returns
returns c =
    let g = game_of c.args.game.now in
    ap₂ context c.main.ensures
    (all_is g c.complement_in.result (λ i. c.complement_in.ensures.members i ∙ ap₂ (λ (n : ℕ) (b : Bool). nat_lt i n && not b) c.states.ensures (c.empty.ensures.members i)
    ∙ only (nat_lt i g.states.count)))
