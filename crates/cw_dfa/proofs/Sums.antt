-- Unions, and steps along a sequence.
use Rattle.std.proofs.Common.{◌≡◌, ℕ, ◌*◌, ◌%◌, ◌<◌, ◌^◌, arith}
use Rattle.std.specs.Int.RustNames.{bit_or}
use Rattle.std.proofs.lemmas.Nat.Bits.{bit_at_or, same_from_bits, bit_at-zero}
use Rattle.std.proofs.lemmas.Nat.{one_shl as shl_one}

pub one_shl : (k : ℕ) → k < 64 → 1 * 2 ^ k % 18446744073709551616 ≡ 2 ^ k
one_shl k l = shl_one k 64 l

pub or_assoc : (a b c : ℕ) → bit_or (bit_or a b) c ≡ bit_or a (bit_or b c)
or_assoc a b c = same_from_bits _ _ (λ i. let x = bit_at_or (bit_or a b) c i in let y = bit_at_or a b i in let z = bit_at_or a (bit_or b c) i in let t = bit_at_or b c i in omega arith)

pub or_zero : (a : ℕ) → bit_or a 0 ≡ a
or_zero a = same_from_bits _ _ (λ i. let x = bit_at_or a 0 i in let y = bit_at-zero i in omega arith)
