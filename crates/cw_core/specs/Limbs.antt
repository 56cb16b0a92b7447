-- A number as limbs of 64 bits, the lowest first.
use Rattle.std.specs.Prelude.{◌≡◌, ℕ, zero, suc, ◌+◌, ◌*◌, ◌/◌, ◌%◌, ◌^◌, ◌<◌, List, [], ◌∷◌, length, refl}
use Rattle.std.proofs.Common.{arith}
use Rattle.std.proofs.lemmas.Nat.{mod_low, shr_high}

-- the number that the limbs stand for
unfoldable pub number_of : List ℕ → ℕ
number_of [] = 0
number_of (w ∷ ws) = number_of ws * 2 ^ 64 + w

-- the lowest limbs of a number, so many of them
unfoldable pub limbs_of : ℕ → ℕ → List ℕ
limbs_of zero n = []
limbs_of (suc count) n = n % 2 ^ 64 ∷ limbs_of count (n / 2 ^ 64)

-- each limb has 64 bits
abbrev pub AreLimbs : List ℕ → Type 0
AreLimbs [] = Unit {0}
AreLimbs (w ∷ ws) = (w < 2 ^ 64) × AreLimbs ws

abbrev pub AreSixteenLimbs : List ℕ → Type 0
AreSixteenLimbs ws = AreLimbs ws × (length ws ≡ 16)

pub limbs_of-number_of : (count : ℕ) (ws : List ℕ) → AreLimbs ws → length ws ≡ count → limbs_of count (number_of ws) ≡ ws
unfolding number_of limbs_of
limbs_of-number_of zero [] fit len = refl
limbs_of-number_of zero (w ∷ ws) fit len = absurd (omega (arith, len))
limbs_of-number_of (suc count) [] fit len = absurd (omega (arith, len))
limbs_of-number_of (suc count) (w ∷ ws) fit len =
    rw (mod_low (number_of ws) 64 w fit.0, shr_high (number_of ws) 64 w fit.0, limbs_of-number_of count ws fit.1 (omega (arith, len))) refl
