use Rattle.std.proofs.Common.{◌≡◌, ◌+◌, ◌*◌, ◌++◌, length, map, take}
use Rattle.std.specs.Char.{digit_char}
use Rattle.cw_core.specs.Digits.{lowest_digits}
use Rattle.cw_core.proofs.line.write_limb.Given as goal

abbrev pub invariant-pairs : goal.invariant-pairs
invariant-pairs l = record {
  end : l.at + 2 * l.left ≡ 16;
  room : length l.text ≡ 16;
  text : take l.at l.text ++ map digit_char (lowest_digits (2 * l.left) l.limb) ≡ map digit_char (lowest_digits 16 l.limb);
}

abbrev pub decreases-pairs : goal.decreases-pairs
decreases-pairs l = l.left
