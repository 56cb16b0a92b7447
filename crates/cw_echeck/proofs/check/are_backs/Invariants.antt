use Rattle.std.proofs.Common.{◌≡◌, ℕ, true, take}
use Rattle.std.specs.List.{list_all}
use Rattle.cw_core.specs.declared.ids.StateId.{StateId}
use Rattle.cw_certs.specs.Strategies.{row_of, strategy_of}
use Rattle.cw_product.specs.Product.{game_of}
use Rattle.cw_echeck.specs.Checks.{returns_by}
use Rattle.cw_echeck.proofs.check.are_backs.Given as goal

abbrev pub invariant-loop-named : goal.invariant-loop-named
invariant-loop-named l =
    list_all (λ (b : StateId × ℕ). returns_by (game_of l.game) (strategy_of l.cert) (row_of l.row) l.aim l.split l.back.0 (b.0.0, b.1))
    (take l.named-index l.backs) ≡ true
