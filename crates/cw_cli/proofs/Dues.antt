-- What is so of a wish, where the arguments ask for it.
use Rattle.std.proofs.Common.{◌≡◌, Option, Some, subst}
use Rattle.std.specs.Prelude.{IfSome}
use Rattle.cw_commands.specs.Arguments.{Wish}

pub wished : (P : Wish → Type 0) (asked : Option Wish) (wish : Wish) → Some wish ≡ asked → P wish → IfSome asked P
wished P asked wish e p = subst (λ o. IfSome o P) e p
