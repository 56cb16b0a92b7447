-- Sets of the twelve rights.
use Rattle.std.proofs.Common.{◌<◌, ◌≤◌, ℕ, ◌^◌, arith}
use Rattle.std.specs.Prelude.{bit_or}
use Rattle.std.proofs.lemmas.Nat.{or_lt}
use Rattle.cw_rights.specs.Names.{all_rights}

-- two sets of the twelve together are one
pub within_both : (rights more : ℕ) → rights ≤ all_rights → more ≤ all_rights → bit_or rights more ≤ all_rights
within_both rights more h w =
    let both : bit_or rights more < 2 ^ 12 = or_lt 12 rights more (omega (arith, h)) (omega (arith, w)) in
    omega (arith, both)
